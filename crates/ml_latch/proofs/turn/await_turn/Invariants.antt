use Rattle.std.proofs.Common.{◌≡◌}
use Rattle.ml_latch.specs.Place.{IsSamePlace}
use Rattle.ml_latch.proofs.turn.await_turn.Given as goal

abbrev pub invariant-loop : goal.invariant-loop
invariant-loop g l = IsSamePlace l.initial.place l.place × (l.place.me ≡ l.initial.place.me)
