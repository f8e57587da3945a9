-- The code spells the clause, whose head has as many arguments as the call; the call stays a cell.
use Rattle.std.proofs.Common.{◌≡◌, ◌≤◌, length, sym, ◌∙◌, subst, arith, rules}
use Rattle.ml_compile.specs.Spells.{SpellsClause}
use Rattle.ml_heap.specs.Changes.{cell_count}
use Rattle.ml_search.specs.ClauseSeen.{clause_seen}
use Rattle.ml_search.specs.Program.{arity_of}
use Rattle.ml_term.specs.Seen.{seen}
use Rattle.ml_match_rows.proofs.HeadArguments.{arity_is, cells_stay}
use Rattle.ml_match_rows.proofs.heads.called.Goals as goal

pub enter-requires-clause-spelled : goal.enter-requires-clause-spelled
enter-requires-clause-spelled c =
    let clause = clause_seen c.args.clause.now in
    let spelled : SpellsClause c.as_slice.result.now clause = subst (λ is. SpellsClause is clause) (sym c.as_slice.ensures) c.in_ok-code.ensures in
    let same : c.len.result ≡ c.arity.result = search rules in
    let many : arity_of (seen c.args.clause.now.head) ≡ length c.as_slice-2.result.now =
    arity_is (seen c.args.clause.now.head) ∙ (sym c.arity.ensures ∙ (sym same ∙ (c.len.ensures ∙ sym c.as_slice-2.ensures.len))) in
    (clause, (spelled, many))

pub told_of-requires : goal.told_of-requires
told_of-requires c =
    let clause = clause_seen c.args.clause.now in
    let spelled : SpellsClause c.as_slice.result.now clause = subst (λ is. SpellsClause is clause) (sym c.as_slice.ensures) c.in_ok-code.ensures in
    let same : c.len.result ≡ c.arity.result = search rules in
    let many : arity_of (seen c.args.clause.now.head) ≡ length c.as_slice-2.result.now =
    arity_is (seen c.args.clause.now.head) ∙ (sym c.arity.ensures ∙ (sym same ∙ (c.len.ensures ∙ sym c.as_slice-2.ensures.len))) in
    let entered = c.in_ok-enter.ensures.entered clause spelled many in
    let more = cells_stay _ _ _ _ _ _ _ _ c.in-Some.field-0 entered.outcome c.in-Some.is in
    omega (arith, more, c.in_ok-at.ensures.stored.inside)
