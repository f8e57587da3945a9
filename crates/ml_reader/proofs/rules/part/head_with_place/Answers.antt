use Rattle.std.proofs.Common.{◌≡◌, length, ap, sym, ◌∙◌}
use Rattle.ml_term.specs.Seen.{seen, all_seen}
use Rattle.ml_term.specs.Tree.{arity, trees_of}
use Rattle.ml_term.proofs.TermSizes.{arity_of_trees}
use Rattle.ml_term.proofs.CompoundTrees.{seen_compound}
use Rattle.ml_search.specs.Program.{place_of}
use Rattle.ml_reader.specs.Rules.{place_for}
use Rattle.ml_reader.proofs.rules.part.head_with_place.Goals as goal

pub returns-in-Cmp-clause-place : goal.returns-in-Cmp-clause-place
returns-in-Cmp-clause-place c =
    let ts = c.in-Cmp.args in
    let many : length c.as_slice.result.now ≡ arity (trees_of (all_seen ts)) = ap length c.as_slice.ensures.same ∙ sym (arity_of_trees seen ts) in
    c.place_of-place-in-Cmp.ensures.same
    ∙ ap (place_of c.args.decls.now c.in-Cmp.name) many
    ∙ sym (ap (place_for c.args.decls.now) (ap seen c.in-Cmp.is ∙ seen_compound c.in-Cmp.name ts))
