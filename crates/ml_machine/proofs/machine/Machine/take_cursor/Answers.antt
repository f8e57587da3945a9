use Rattle.std.proofs.Common.{refl}
use Rattle.ml_machine.proofs.RepliesTaken.{nothing_opened, cursor_opened}
use Rattle.ml_machine.proofs.machine.Machine.take_cursor.Goals as goal

pub returns-in_default : goal.returns-in_default
returns-in_default c p ps = nothing_opened p ps c.args.self.now c.args.scan c.args.reply c.in_default.not-Cursor

pub returns : goal.returns
returns c p ps =
    cursor_opened p ps c.args.self.now c.args.scan _ c.in-Cursor.cursor c.args.reply c.in-Cursor.is refl
    (record { terms = refl; levels = refl; answers = refl; left = refl }) (λ w e. c.in_ok-push_choice.ensures.pushed ps w e)
