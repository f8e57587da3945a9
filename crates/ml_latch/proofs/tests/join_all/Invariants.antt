use Rattle.std.proofs.Common.{◌≡◌, ℕ, ◌<◌, ◌≤◌, vec_len}
use Rattle.ml_latch.specs.Seat.{AreNumbered, IsSeatOf, TookIn}
use Rattle.ml_latch.proofs.tests.join_all.Given as goal

abbrev pub invariant-loop-seat : goal.invariant-loop-seat
invariant-loop-seat l = record {
  latch : IsSeatOf l.latch l.into;
  same : (l.into.number ≡ l.initial.into.number) × (l.into.given ≡ l.initial.into.given);
  numbered : AreNumbered l.latch l.seats.items;
  later : (n : ℕ) → vec_len l.seats < n → n ≤ vec_len l.initial.seats → TookIn l.into n;
}

abbrev pub decreases-loop-seat : goal.decreases-loop-seat
decreases-loop-seat l = vec_len l.seats
