-- What clauses see of a latch and of its seats.
use Rattle.std.specs.Prelude.{◌≡◌, ℕ, ◌+◌, ◌<◌, ◌≤◌, List, [], ◌∷◌, ◌++◌, Option, Some, Contains}
use Rattle.std.specs.Prelude.{slice_get}
use Rattle.atomic_table.specs.Seated.{TableId}
use Rattle.ml_latch.specs.Lists.{longer}

-- A latch is its table, the value that it was made with, and how many seats it may give out.
pub record LatchState (X : Type 0) : Type 0 where
  pub table : TableId
  pub start : X
  pub seats : ℕ

-- A seat is its latch, told by the table and by the value that the latch was made with, its number,
-- the past that it has seen, what was done through it, how many seats it gave out, and the number
-- of each seat that it took in with what was done through that one. The code has two numbers and a
-- token without bytes.
pub record SeatState (X E N : Type 0) : Type 0 where
  pub table : TableId
  pub start : Option X
  pub number : ℕ
  pub seen : List E
  pub own : List N
  pub given : ℕ
  pub kept : List (ℕ × List N)

-- The seat is one of this latch.
abbrev pub IsSeatOf : {X E N : Type 0} → LatchState X → SeatState X E N → Type 0
IsSeatOf latch seat = (seat.table ≡ latch.table) × (seat.start ≡ Some latch.start)

-- What a seat is after it took another in: it has seen the longer of what both had seen, and keeps
-- what was done through the other, and all that the other kept.
abbrev pub after_joining : {X E N : Type 0} → SeatState X E N → SeatState X E N → SeatState X E N
after_joining into other = record into {
  seen = longer into.seen other.seen;
  kept = into.kept ++ (other.number, other.own) ∷ other.kept;
}

-- The seat took the one with the number n in.
abbrev pub TookIn : {X E N : Type 0} → SeatState X E N → ℕ → Type 0
TookIn {N} seat n = (own : List N) × Contains seat.kept (n, own)

-- The seat took in each one that it gave out.
abbrev pub TookInEach : {X E N : Type 0} → SeatState X E N → Type 0
TookInEach seat = (n : ℕ) → 0 < n → n ≤ seat.given → TookIn seat n

-- These seats were given out by one latch, one after another, and none took another in.
abbrev pub AreNumbered : {X E N : Type 0} → LatchState X → List (SeatState X E N) → Type 0
AreNumbered {X} {E} {N} latch seats =
    (k : ℕ) (seat : SeatState X E N) → slice_get seats k ≡ Some seat
    → IsSeatOf latch seat × (seat.number ≡ k + 1) × (seat.kept ≡ [])
