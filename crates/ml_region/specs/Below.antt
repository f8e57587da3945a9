-- The prefixes below one, in the order of prefixes.
use Rattle.std.specs.Prelude.{ℕ, ◌<◌, ◌≤◌, Bool, List, length}
use Rattle.ml_bits.specs.BitList.{Begins}
use Rattle.ml_region.specs.Prefixes.{bits_at}

-- a place behind the prefixes that the one at a place begins
pub record IsEndOfBelow (prefixes : List (List Bool)) (i : ℕ) (end : ℕ) : Type 0 where
  pub behind : i < end
  pub within : end ≤ length prefixes
  pub below : (k : ℕ) → i ≤ k → k < end → Begins (bits_at prefixes i) (bits_at prefixes k)
