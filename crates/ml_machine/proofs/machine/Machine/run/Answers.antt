use Rattle.ml_program.specs.LoadedProgram.{procedures_of, program_of}
use Rattle.ml_machine.proofs.FirstGoals.{has_code}
use Rattle.ml_machine.proofs.machine.Machine.run.Goals as goal

pub instruction_at-requires : goal.instruction_at-requires
instruction_at-requires c = has_code c.requires

pub returns-in-Proceed : goal.returns-in-Proceed
returns-in-Proceed c = c.run_proceed.ensures (program_of c.args.program.now) (procedures_of c.args.program.now) c.in-Proceed.ensures

pub returns-in-Fail : goal.returns-in-Fail
returns-in-Fail c = c.run_fail.ensures (program_of c.args.program.now) (procedures_of c.args.program.now) c.in-Fail.ensures
