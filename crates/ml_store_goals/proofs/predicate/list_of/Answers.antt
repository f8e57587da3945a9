-- The name is copied.
use Rattle.std.proofs.Common.{IfOk, List, ℕ, subst}
use Rattle.ml_program.specs.LoadedProgram.{program_of}
use Rattle.ml_store_goals.specs.inside.Checks.{IsListed, list_fault, list_named}
use Rattle.ml_store_goals.proofs.predicate.list_of.Goals as goal

pub returns : goal.returns
returns c =
    let p = program_of c.args.program.now in
    let n = c.args.arity in
    subst (λ (f : List ℕ). IfOk c.list_of_predicate.result (λ l. IsListed (list_fault p c.args.kind f n) (list_named p f n) l)) c.in_ok-name.ensures
    c.list_of_predicate.ensures
