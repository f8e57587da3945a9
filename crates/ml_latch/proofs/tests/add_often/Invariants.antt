use Rattle.std.proofs.Common.{◌≡◌}
use Rattle.ml_latch.specs.Seat.{IsSeatOf}
use Rattle.ml_latch.proofs.tests.add_often.Given as goal

abbrev pub invariant-loop : goal.invariant-loop
invariant-loop g l = record {
  latch : IsSeatOf l.latch l.seat;
  number : l.seat.number ≡ l.initial.seat.number;
  kept : l.seat.kept ≡ l.initial.seat.kept;
}
