use Rattle.std.proofs.Common.{◌≡◌, ℕ, ◌<◌, false, take}
use Rattle.ml_region.specs.Prefixes.{bits_at}
use Rattle.ml_region.specs.Regions.{keys_at}
use Rattle.ml_term.specs.Patterns.{begins}
use Rattle.ml_split.proofs.further_key.item_below.Given as goal

-- none of the first keys begins with these bits
abbrev pub invariant-loop-j : goal.invariant-loop-j
invariant-loop-j g l = (k : ℕ) → k < l.j → begins (take l.bits l.key.bits) (bits_at (keys_at l.regions.regions l.i) k) ≡ false
