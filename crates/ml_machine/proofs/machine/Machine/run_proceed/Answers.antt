use Rattle.ml_machine.proofs.ControlTurns.{after_proceed}
use Rattle.ml_machine.proofs.machine.Machine.run_proceed.Goals as goal

pub returns : goal.returns
returns c p ps h = after_proceed p ps c.args.self.now c.args.at h
