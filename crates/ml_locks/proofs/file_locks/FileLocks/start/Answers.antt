use Rattle.std.proofs.Common.{ap, ◌∙◌, cond, Some, None}
use Rattle.std.specs.Prelude.{◌==◌}
use Rattle.ml_bits.specs.BitList.{BitList}
use Rattle.ml_locks.specs.Modes.{held_in, same_bits}
use Rattle.ml_locks.proofs.StoredModes.{held_updated, same_prefix, one_holder}
use Rattle.ml_locks.proofs.file_locks.FileLocks.start.Goals as goal

pub returns-clause-ok : goal.returns-clause-ok
returns-clause-ok c s u =
    held_updated c.self.inside.units c.insert.new.self c.self.invariant c.in_ok-insert.ensures.ordered _ c.self.view_is c.in_ok-prefix.prefix
    (Some _) c.in_ok-insert.ensures.updates s u
    ∙ (ap (λ (t : BitList). cond (same_bits u t.bits) (cond (c.args.session == s) (Some c.args.mode) None)
    (held_in c.args.self.now s u)) c.in_ok-prefix.ensures
    ∙ one_holder c.args.session s (same_bits u c.args.prefix.now.bits) c.args.mode (held_in c.args.self.now s u)
    (λ e. ap (held_in c.args.self.now s) (same_prefix u c.args.prefix.now.bits e) ∙ c.requires s))
