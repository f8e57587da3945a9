use Rattle.std.proofs.Common.{ℕ, ◌≤◌, take}
use Rattle.ml_region.specs.Prefixes.{IsOwner}
use Rattle.ml_region.proofs.searches.owner_within.Given as goal

abbrev pub invariant-shorter : goal.invariant-shorter
invariant-shorter g l =
    (l.front ≤ l.n)
    × ((m : ℕ) → IsOwner (g.P.Prefixes.prefixes l.prefixes) (take l.front l.key.bits) m → IsOwner (g.P.Prefixes.prefixes l.prefixes) (take l.n l.key.bits) m)

abbrev pub decreases-shorter : goal.decreases-shorter
decreases-shorter g l = l.front
