use Rattle.std.proofs.Common.{refl}
use Rattle.ml_machine.proofs.ControlTurns.{after_cut}
use Rattle.ml_machine.proofs.machine.Machine.run_cut.Goals as goal

pub returns : goal.returns
returns c p ps h =
    after_cut p ps c.args.self.now _ (record { terms = refl; levels = refl; answers = refl; left = refl }) refl c.args.at c.in_ok-next.next c.in_ok-next.ensures
    (λ w s. c.cut_choices.ensures ps w s) h
