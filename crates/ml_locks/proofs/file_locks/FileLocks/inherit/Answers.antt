use Rattle.std.proofs.Common.{ap, ◌∙◌, cond, Some}
use Rattle.ml_bits.specs.BitList.{BitList}
use Rattle.ml_locks.specs.Modes.{held_in, same_bits}
use Rattle.ml_locks.proofs.StoredModes.{held_updated}
use Rattle.ml_locks.proofs.file_locks.FileLocks.inherit.Goals as goal

pub returns-clause-ok : goal.returns-clause-ok
returns-clause-ok c s u =
    held_updated c.self.inside.units c.insert.new.self c.self.invariant c.in_ok-insert.ensures.ordered _ c.self.view_is c.in_ok-to.to
    (Some c.in_ok-holders.holders) c.in_ok-insert.ensures.updates s u
    ∙ (ap (λ o. cond (same_bits u c.in_ok-to.to.bits) o (held_in c.args.self.now s u)) (c.in_ok-holders.ensures s)
    ∙ ap (λ (t : BitList). cond (same_bits u t.bits) (held_in c.args.self.now s c.args.from.now.bits) (held_in c.args.self.now s u)) c.in_ok-to.ensures)
