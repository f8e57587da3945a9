-- The code spells the clause, whose head has three arguments.
use Rattle.std.proofs.Common.{◌≡◌, length, sym, ◌∙◌, subst, arith, rules}
use Rattle.ml_compile.specs.Spells.{SpellsClause}
use Rattle.ml_search.specs.ClauseSeen.{clause_seen}
use Rattle.ml_search.specs.Program.{arity_of}
use Rattle.ml_term.specs.Seen.{seen}
use Rattle.ml_bench.proofs.HeadArguments.{arguments_of_head}
use Rattle.ml_bench.proofs.enter.enter_clause.Goals as goal

pub enter_and_undo-requires-clause-spelled : goal.enter_and_undo-requires-clause-spelled
enter_and_undo-requires-clause-spelled c =
    let clause = clause_seen c.args.clause.now in
    let spelled : SpellsClause c.as_slice.result.now clause = subst (λ is. SpellsClause is clause) (sym c.as_slice.ensures) c.in_ok-code.ensures in
    let three : c.arity.result ≡ 3 = search rules in
    let many : arity_of (seen c.args.clause.now.head) ≡ 3 = arguments_of_head (seen c.args.clause.now.head) ∙ (sym c.arity.ensures ∙ three) in
    (clause, (spelled, many))
