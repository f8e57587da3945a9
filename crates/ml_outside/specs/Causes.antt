-- Counts of faults, and what an answer that names a fault says of them.
use Rattle.std.specs.Prelude.{ℕ, ◌+◌, ◌-◌, ◌^◌, ◌≤◌, min, Result, IsErrOf}

-- the count rose, or it stands at the last value that a counter of 64 bits has
abbrev pub Rose : ℕ → ℕ → Type 0
Rose before now = min (before + 1) (2 ^ 64 - 1) ≤ now

-- the count didn't fall, and this error came only where it rose
pub record HasCause {T E : Type 0} (before now : ℕ) (result : Result T E) (error : E) : Type 0 where
  pub later : before ≤ now
  pub failed : IsErrOf result error → Rose before now

-- the two counts of a shelf
pub record Counts : Type 0 where
  pub faults : ℕ
  pub put_faults : ℕ

-- nothing was counted
abbrev pub no_faults : Counts
no_faults = record { faults = 0; put_faults = 0 }
