use Rattle.std.proofs.Common.{◌≡◌, ◌≤◌, vec_len, vec_capacity}
use Rattle.ml_latch.specs.Seat.{AreNumbered, IsSeatOf}
use Rattle.ml_latch.proofs.tests.split_often.Given as goal

abbrev pub invariant-loop : goal.invariant-loop
invariant-loop l = record {
  latch : IsSeatOf l.latch l.first;
  first : (l.first.number ≡ 0) × (l.first.given ≡ l.counter);
  seats : AreNumbered l.latch l.seats.items;
  count : vec_len l.seats ≡ l.counter;
  room : l.count ≤ vec_capacity l.seats;
}
