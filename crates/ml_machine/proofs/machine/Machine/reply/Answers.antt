use Rattle.std.proofs.Common.{subst}
use Rattle.ml_machine.specs.Awaited.{IsAwaiting}
use Rattle.ml_machine.proofs.machine.Machine.reply.Goals as goal

pub returns-in_ok-take_cursor-in-Cursor : goal.returns-in_ok-take_cursor-in-Cursor
returns-in_ok-take_cursor-in-Cursor c p ps written f i =
    c.in_ok-take_cursor-in-Cursor.ensures p ps written f (subst (λ a. IsAwaiting ps c.args.self.now written a f) c.in-Cursor.is i)

pub returns-in_ok-take_item-in-Item : goal.returns-in_ok-take_item-in-Item
returns-in_ok-take_item-in-Item c p ps written f i =
    c.in_ok-take_item-in-Item.ensures p ps written f (subst (λ a. IsAwaiting ps c.args.self.now written a f) c.in-Item.is i)

pub returns-in_ok-take_change-in-Change : goal.returns-in_ok-take_change-in-Change
returns-in_ok-take_change-in-Change c p ps written f i =
    c.in_ok-take_change-in-Change.ensures p ps written f (subst (λ a. IsAwaiting ps c.args.self.now written a f) c.in-Change.is i)
