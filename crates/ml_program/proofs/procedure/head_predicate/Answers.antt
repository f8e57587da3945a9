use Rattle.std.proofs.Common.{◌≡◌, length, ap, sym, ◌∙◌}
use Rattle.ml_term.specs.Seen.{seen, all_seen}
use Rattle.ml_term.specs.Tree.{trees_of, arity}
use Rattle.ml_term.proofs.TermSizes.{arity_of_trees}
use Rattle.ml_term.proofs.CompoundTrees.{seen_compound}
use Rattle.ml_search.specs.Program.{arity_of}
use Rattle.ml_program.proofs.procedure.head_predicate.Goals as goal

pub returns-in_ok-copy_of-in-Cmp-clause-arity : goal.returns-in_ok-copy_of-in-Cmp-clause-arity
returns-in_ok-copy_of-in-Cmp-clause-arity c =
    let ts = c.in-Cmp.args in
    let many : length c.as_slice.result.now ≡ arity (trees_of (all_seen ts)) = ap length c.as_slice.ensures.same ∙ sym (arity_of_trees seen ts) in
    many ∙ sym (ap arity_of (ap seen c.in-Cmp.is ∙ seen_compound c.in-Cmp.name ts))
