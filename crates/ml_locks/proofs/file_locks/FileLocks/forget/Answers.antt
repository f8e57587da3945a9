use Rattle.std.proofs.Common.{None}
use Rattle.ml_locks.proofs.StoredModes.{held_updated}
use Rattle.ml_locks.proofs.file_locks.FileLocks.forget.Goals as goal

pub returns : goal.returns
returns c s u =
    held_updated c.self.inside.units c.remove.new.self c.self.invariant c.remove.ensures.ordered _ c.self.view_is c.args.prefix.now None
    c.remove.ensures.updates s u
