use Rattle.std.proofs.Common.{◌≡◌, length, not, ap, sym, ◌∙◌}
use Rattle.ml_term.specs.Seen.{seen, all_seen}
use Rattle.ml_term.specs.Tree.{trees_of, arity}
use Rattle.ml_term.proofs.TermSizes.{arity_of_trees}
use Rattle.ml_term.proofs.CompoundTrees.{seen_compound}
use Rattle.ml_search.specs.Procedures.{is_reserved}
use Rattle.ml_search.specs.WellFormed.{is_clause_head}
use Rattle.ml_search.proofs.reserved.is_clause_head.Goals as goal

pub returns-in-Cmp : goal.returns-in-Cmp
returns-in-Cmp c =
    let f = c.in-Cmp.f in
    let ts = c.in-Cmp.ts in
    let many : length c.as_slice.result.now ≡ arity (trees_of (all_seen ts)) = ap length c.as_slice.ensures.same ∙ sym (arity_of_trees seen ts) in
    let is : is_clause_head (seen c.args.t.now) ≡ not (is_reserved f (arity (trees_of (all_seen ts)))) =
    ap is_clause_head (ap seen c.in-Cmp.is ∙ seen_compound f ts) in
    ap not (c.is_reserved-in-Cmp.ensures ∙ ap (is_reserved f) many) ∙ sym is
