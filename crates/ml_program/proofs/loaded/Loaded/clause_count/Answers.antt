use Rattle.std.proofs.Common.{◌≡◌, ◌^◌, ◌<◌, ap, ◌∙◌, length, vec_len, arith, rules}
use Rattle.std.specs.Prelude.{slice_get}
use Rattle.ml_program.specs.LoadedProgram.{procedures_of}
use Rattle.ml_program.proofs.ProceduresRead.{clauses_read, few_read}
use Rattle.ml_program.proofs.loaded.Loaded.clause_count.Goals as goal

pub overflow_cast-result : goal.overflow_cast-result
overflow_cast-result c =
    let len : vec_len c.index.result.now.procedure.codes ≡ length c.index.result.now.procedure.codes.items = search rules in
    let few =
    few_read c.self.inside.program.value c.self.inside.procedures.items c.args.procedure c.requires.0 c.index.result.now c.self.invariant.loaded
    (ap (λ v. slice_get (procedures_of v) c.args.procedure) c.self.view_is ∙ c.requires.1) c.index.ensures in
    let small : c.len.result < 2 ^ 32 = omega (arith, len, few, c.len.ensures) in search rules

pub returns : goal.returns
returns c =
    let len : vec_len c.index.result.now.procedure.codes ≡ length c.index.result.now.procedure.codes.items = search rules in
    λ d at. c.len.ensures ∙ len
    ∙ clauses_read c.self.inside.program.value c.self.inside.procedures.items c.args.procedure d c.index.result.now c.self.invariant.loaded
    (ap (λ v. slice_get (procedures_of v) c.args.procedure) c.self.view_is ∙ at) c.index.ensures
