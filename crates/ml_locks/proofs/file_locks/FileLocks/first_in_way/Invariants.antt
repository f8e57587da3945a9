use Rattle.std.proofs.Common.{◌<◌, length, take}
use Rattle.std.specs.Option.{ForSome}
use Rattle.ml_locks.specs.Modes.{held_in}
use Rattle.ml_locks.specs.Requests.{IsFirst, excludes, prefixes_of}
use Rattle.ml_locks.proofs.FirstUnit.{found_in}
use Rattle.ml_locks.proofs.file_locks.FileLocks.first_in_way.Given as goal

abbrev pub invariant-loop-i : goal.invariant-loop-i
invariant-loop-i l = record {
  first : IsFirst (λ u. excludes (held_in l.self l.holder u) l.mode) (take l.i (prefixes_of l.prefixes)) (found_in (prefixes_of l.prefixes) l.first);
  within : ForSome l.first (λ j. j < length l.prefixes);
}
