-- What one turn does.
use Rattle.std.specs.Prelude.{◌≡◌, ◌≢◌, ℕ, List, [], Option}
use mathlib.Core.List.{IsPrefix}
use Rattle.atomic_table.specs.Table.{Me}
use Rattle.ml_latch.specs.Seat.{SeatState}
use Rattle.ml_latch.specs.View.{after_turn}
use Rattle.ml_latch.specs.declared.view.View.{View}

-- The work may be done whatever was done since: a fact of the base, of the seat's own list and of
-- each past that goes on from the one that the seat has seen.
abbrev pub MayWorkAfter : {E N B : Type 0} → (B → List N → List E → Type 0) → B → List N → List E
    → Type 0
MayWorkAfter {E} needs base own seen = (past : List E) → IsPrefix seen past → needs base own past

module _ {X E N B : Type 0} (past : X → List E) (own : X → ℕ → List N) (base : X → B) where
  -- A seat that knows this may find this value: all that it has seen begins the past, its list is
  -- as it left it, and the base is the one at the start.
  pub record Finds (start : X) (v : View X E N) (found : X) : Type 0 where
    pub begins : IsPrefix v.seen (past found)
    pub own_is : own found v.number ≡ v.own
    pub base_is : base found ≡ base start

  -- What a job through the seat with this number may do to a value: the past grows, and no other
  -- list changes.
  pub record MayBecome (number : ℕ) (found left : X) : Type 0 where
    pub grows : IsPrefix (past found) (past left)
    pub others : (n : ℕ) → n ≢ number → own left n ≡ own found n
    pub same_base : base left ≡ base found

  -- The seat found a value, the job gave the answer and left another value, and the seat knows that
  -- one.
  pub record WorksInTurn {A : Type 0} (gives : X → ℕ → A → X → Type 0) (start : X)
      (v : View X E N) (new : Me (Option X) (View X E N)) (answer : A) : Type 0 where
    pub found : X
    pub left : X
    pub finds : Finds start v found
    pub job : gives found v.number answer left
    pub becomes : MayBecome v.number found left
    pub knows : new ≡ (after_turn past own v left, [])

  -- A turn of a seat, as callers see it. There is a value that the turn found: its past begins with
  -- all that the seat had seen, its list at the seat's number is the seat's own, and its base is
  -- that of the value at the start. The job gave the answer, and left a value of which it changed
  -- nothing else. The seat then has seen the whole past, and holds the new list.
  pub record TakesTurn {A : Type 0} (gives : X → ℕ → A → X → Type 0) (start : X)
      (old new : SeatState X E N) (answer : A) : Type 0 where
    pub found : X
    pub left : X
    pub begins : IsPrefix old.seen (past found)
    pub own_is : own found old.number ≡ old.own
    pub base_is : base found ≡ base start
    pub job : gives found old.number answer left
    pub becomes : MayBecome old.number found left
    pub seat : new ≡ record old { seen = past left; own = own left old.number }
