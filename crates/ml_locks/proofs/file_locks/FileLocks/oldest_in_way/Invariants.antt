use Rattle.std.proofs.Common.{take}
use Rattle.ml_locks.specs.Requests.{IsLeast, is_in_way, prefixes_of}
use Rattle.ml_locks.specs.Modes.{held_in}
use Rattle.ml_locks.proofs.file_locks.FileLocks.oldest_in_way.Given as goal

abbrev pub invariant-loop-prefix : goal.invariant-loop-prefix
invariant-loop-prefix l = IsLeast (is_in_way (held_in l.self) l.asker (prefixes_of (take l.prefix-index l.prefixes)) l.mode) l.oldest
