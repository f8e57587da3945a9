use Rattle.ml_machine.proofs.ControlTurns.{after_fail}
use Rattle.ml_machine.proofs.machine.Machine.run_fail.Goals as goal

pub returns : goal.returns
returns c p ps h = after_fail p ps c.args.self.now c.args.at h
