use Rattle.ml_machine.proofs.ControlTurns.{after_true}
use Rattle.ml_machine.proofs.machine.Machine.run_true.Goals as goal

pub returns : goal.returns
returns c p ps h = after_true p ps c.args.self.now c.args.at c.in_ok-next.next c.in_ok-next.ensures h
