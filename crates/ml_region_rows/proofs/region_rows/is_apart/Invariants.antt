use Rattle.std.proofs.Common.{ℕ, ◌<◌, length}
use Rattle.ml_bits.specs.BitList.{Begins}
use Rattle.ml_region.specs.Prefixes.{bits_at}
use Rattle.ml_region.specs.Regions.{keys_at}
use Rattle.ml_region_rows.proofs.region_rows.is_apart.Given as goal

-- no key of the regions before the i-th begins this one or begins with it
abbrev pub invariant-loop-i : goal.invariant-loop-i
invariant-loop-i l = (i : ℕ) (j : ℕ) → i < l.i → j < length (keys_at l.regions.regions i)
    → (Begins (bits_at (keys_at l.regions.regions i) j) l.key.bits → ⊥) × (Begins l.key.bits (bits_at (keys_at l.regions.regions i) j) → ⊥)

-- and none of the i-th before the j-th
abbrev pub invariant-loop-j : goal.invariant-loop-j
invariant-loop-j l = (j : ℕ) → j < l.j
    → (Begins (bits_at (keys_at l.regions.regions l.i) j) l.key.bits → ⊥) × (Begins l.key.bits (bits_at (keys_at l.regions.regions l.i) j) → ⊥)
