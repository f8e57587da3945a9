use Rattle.std.proofs.Common.{◌≡◌, true, ◌∙◌, subst, List}
use Rattle.std.proofs.lemmas.Result.{IfOk-weaker}
use Rattle.ml_term.specs.declared.declaration.Decl.{Decl}
use Rattle.ml_program.specs.LoadedProgram.{program_of}
use Rattle.ml_search.specs.GoalSeen.{goal_seen}
use Rattle.ml_search.specs.Operations.{is_log}
use Rattle.ml_search.specs.Seen.{log_seen}
use Rattle.ml_solve.proofs.LedAnswers.{answered}
use Rattle.ml_solve.proofs.search.solve.Goals as goal

pub returns-clause-answers : goal.returns-clause-answers
returns-clause-answers g c =
    let D = g.D.Desk in
    let program = program_of c.args.program.now in
    let log = log_seen (D.log c.find_all.new.desk) in
    let logged : is_log program.decls log ≡ true =
    subst (λ (ds : List Decl). is_log ds log ≡ true) (c.find_all.ensures.decls ∙ c.requires.declared) (g.met.D.Desk.is_logged c.find_all.new.desk) in
    IfOk-weaker c.find_all.result _ _
    (λ end leaves. answered program (goal_seen c.args.goal.now) c.args.budget.now.left (log_seen
    (D.log c.args.desk.now)) log logged c.args.out.now c.find_all.new.out
    c.find_all.new.budget.left end leaves)
    c.find_all.ensures.leaves
