use Rattle.std.proofs.Common.{sym, ap, ◌∙◌, codes}
use Rattle.ml_search.specs.Errors.{kept_small, resource_error}
use Rattle.ml_search.specs.Seen.{reply_seen}
use Rattle.ml_machine.specs.Items.{effect_seen}
use Rattle.ml_machine.proofs.RepliesTaken.{change_goes_on, change_fails, change_passes, change_raises}
use Rattle.ml_machine.proofs.machine.Machine.take_change.Goals as goal

pub returns-in-Made : goal.returns-in-Made
returns-in-Made c p ps =
    change_goes_on p ps c.args.self.now c.args.must_change c.args.next (reply_seen c.args.reply.now) (sym c.effect_of.ensures ∙ ap effect_seen c.in-Made.is)

pub returns-then-must_change : goal.returns-then-must_change
returns-then-must_change c p ps =
    change_fails p ps c.args.self.now c.args.must_change c.args.next (reply_seen c.args.reply.now) (sym c.effect_of.ensures ∙ ap effect_seen c.in-Unmade.is)
    c.if-must_change.true

pub returns-else-must_change : goal.returns-else-must_change
returns-else-must_change c p ps =
    change_passes p ps c.args.self.now c.args.must_change c.args.next (reply_seen c.args.reply.now) (sym c.effect_of.ensures ∙ ap effect_seen c.in-Unmade.is)
    c.if-must_change.false

pub returns-in_ok-raise-in-Limit : goal.returns-in_ok-raise-in-Limit
returns-in_ok-raise-in-Limit c p ps written f i =
    c.in_ok-raise-in-Limit.ensures p ps (resource_error (codes "changes")) (sym (ap kept_small c.in_ok-error-in-Limit.ensures.same)) written
    (f (reply_seen c.args.reply.now))
    (change_raises p ps c.args.self.now c.args.must_change c.args.next (reply_seen c.args.reply.now) (sym c.effect_of.ensures ∙ ap effect_seen c.in-Limit.is)
    written f i)
