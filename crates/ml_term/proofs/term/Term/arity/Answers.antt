use Rattle.std.proofs.Common.{ap, sym, ◌∙◌, length}
use Rattle.ml_term.specs.Keys.{arguments}
use Rattle.ml_term.specs.Seen.{seen}
use Rattle.ml_term.specs.Tree.{arity}
use Rattle.ml_term.proofs.TermSizes.{arity_of_trees}
use Rattle.ml_term.proofs.CompoundTrees.{seen_compound}
use Rattle.ml_term.proofs.term.Term.arity.Goals as goal

pub returns-in-Cmp : goal.returns-in-Cmp
returns-in-Cmp c =
    ap length c.as_slice.ensures.same
    ∙ sym (arity_of_trees seen c.in-Cmp.ts)
    ∙ sym (ap (λ t. arity (arguments t)) (ap seen c.in-Cmp.is ∙ seen_compound c.in-Cmp.field-0 c.in-Cmp.ts))
