use Rattle.std.proofs.Common.{Some, None}
use Rattle.ml_locks.specs.Modes.{held_in}
use Rattle.ml_locks.specs.inside.Stored.{holder_mode}
use Rattle.ml_locks.proofs.StoredModes.{held_found}
use Rattle.ml_locks.proofs.Anyone.{tells_alike, tells_nobody}
use Rattle.ml_locks.proofs.file_locks.FileLocks.is_held.Goals as goal

pub returns-in-Some : goal.returns-in-Some
returns-in-Some c = tells_alike (holder_mode c.in-Some.holders.now) (λ s. held_in c.args.self.now s c.args.prefix.now.bits) _
    (held_found c.self.inside.units c.self.invariant _ c.self.view_is c.args.prefix.now.bits
    (Some c.in-Some.holders.now) c.in-Some.ensures.value) c.is_held.ensures

pub returns-in-None : goal.returns-in-None
returns-in-None c = tells_nobody (λ s. held_in c.args.self.now s c.args.prefix.now.bits)
    (held_found c.self.inside.units c.self.invariant _ c.self.view_is c.args.prefix.now.bits None c.in-None.ensures.value)
