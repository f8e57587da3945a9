use Rattle.std.proofs.Common.{ap, ◌∙◌}
use Rattle.std.specs.Prelude.{slice_get}
use Rattle.ml_stack.specs.Memories.{CompiledProcedure}
use Rattle.ml_program.specs.LoadedProgram.{procedures_of}
use Rattle.ml_program.proofs.ProceduresRead.{is_read}
use Rattle.ml_program.proofs.loaded.Loaded.predicate.Goals as goal

pub returns-clause-name : goal.returns-clause-name
returns-clause-name c =
    λ d at. ap (λ (e : CompiledProcedure). e.name)
    (is_read c.self.inside.program.value c.self.inside.procedures.items c.args.procedure d c.index.result.now
    (ap (λ v. slice_get (procedures_of v) c.args.procedure) c.self.view_is ∙ at) c.index.ensures)

pub returns-clause-arity : goal.returns-clause-arity
returns-clause-arity c =
    λ d at. ap (λ (e : CompiledProcedure). e.arity)
    (is_read c.self.inside.program.value c.self.inside.procedures.items c.args.procedure d c.index.result.now
    (ap (λ v. slice_get (procedures_of v) c.args.procedure) c.self.view_is ∙ at) c.index.ensures)
