-- By what is known of the predicate.
use Rattle.ml_program.specs.LoadedProgram.{program_of}
use Rattle.ml_search.specs.Errors.{permission_error}
use Rattle.ml_store_goals.specs.inside.Checks.{list_fault}
use Rattle.ml_store_goals.proofs.Parts.{found_as}
use Rattle.ml_store_goals.proofs.PredicatesListed.{no_fault, other_kind, list_is}
use Rattle.ml_store_goals.proofs.predicate.list_of_predicate.Goals as goal

pub returns-then-is_same : goal.returns-then-is_same
returns-then-is_same c =
    let p = program_of c.args.program.now in
    let is = c.in-Declared.ensures in (
      no_fault p c.args.kind c.args.pred.now.name c.args.pred.now.arity c.in-Declared.found c.in-Declared.list is (c.if-is_same.ensures is.decl is.kind_is),
      list_is p c.args.kind c.args.pred.now.name c.args.pred.now.arity c.in-Declared.found c.in-Declared.list is,
    )

pub returns-in_ok-permission_error-in-Declared : goal.returns-in_ok-permission_error-in-Declared
returns-in_ok-permission_error-in-Declared c =
    let p = program_of c.args.program.now in
    let f = c.args.pred.now.name in
    let n = c.args.pred.now.arity in
    let is = c.in-Declared.ensures in
    let made = c.in_ok-permission_error-in-Declared in
    found_as (list_fault p c.args.kind f n) (permission_error f n) made.field-0
    (other_kind p c.args.kind f n c.in-Declared.found c.in-Declared.list is (c.if-is_same.ensures is.decl is.kind_is)) made.ensures.same made.ensures.valid
