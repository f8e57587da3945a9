use Rattle.std.proofs.Common.{◌≡◌, ℕ, Bool, List, cond, length, nat_lt, None}
use Rattle.std.specs.Prelude.{◌==◌, ◌&&◌}
use Rattle.ml_locks.specs.Modes.{mode_of}
use Rattle.ml_locks.proofs.table.Table.release.Given as goal

abbrev pub invariant-loop-pred : goal.invariant-loop-pred
invariant-loop-pred l = record {
  files : length l.self-inside.files.items ≡ length l.initial.self-inside.files.items;
  modes : (s d : ℕ) (u : List Bool) → mode_of l.self-inside.files.items s d u ≡ cond (nat_lt d l.pred && (s == l.session)) None
      (mode_of l.initial.self-inside.files.items s d u);
}
