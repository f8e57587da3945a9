-- How the knowledge of seats changes.
use Rattle.std.specs.Prelude.{ℕ, suc, List, [], ◌∷◌, ◌++◌, Option, Some, None}
use Rattle.ml_latch.specs.Lists.{longer}
use Rattle.ml_latch.specs.declared.view.View.{View}

-- What the seat 0 knows when the latch is made.
abbrev pub first_view : {X E N : Type 0} → (X → List E) → (X → ℕ → List N) → X → View X E N
first_view past own x = record {
  start = Some x;
  number = 0;
  ticket = None;
  taken = None;
  seen = past x;
  told = [];
  own = own x 0;
  given = 0;
  kept = [];
}

-- The list of the number n in a value, if there is one.
abbrev pub own_at_start : {X N : Type 0} → (X → ℕ → List N) → Option X → ℕ → List N
own_at_start own (Some x) n = own x n
own_at_start own None n = []

-- What the next new seat knows: what its maker has seen, and its list in the value that the latch
-- was made with.
abbrev pub given_view : {X E N : Type 0} → (X → ℕ → List N) → View X E N → View X E N
given_view own v = record {
  start = v.start;
  number = suc v.given;
  ticket = None;
  taken = None;
  seen = v.seen;
  told = [];
  own = own_at_start own v.start (suc v.given);
  given = 0;
  kept = [];
}

-- A seat that gave one more out.
abbrev pub after_giving : {X E N : Type 0} → View X E N → View X E N
after_giving v = record v { given = suc v.given }

-- A seat that took another in: it keeps the other's list and all that the other kept, and was told
-- what the other has seen.
abbrev pub after_taking_in : {X E N : Type 0} → View X E N → View X E N → View X E N
after_taking_in v other =
    record v { told = other.seen; kept = v.kept ++ (other.number, other.own) ∷ other.kept }

-- A seat that was taken in.
abbrev pub spent_view : {X E N : Type 0} → View X E N
spent_view = record {
  start = None;
  number = 0;
  ticket = None;
  taken = None;
  seen = [];
  told = [];
  own = [];
  given = 0;
  kept = [];
}

-- A seat that has seen the longer of what it had seen and what it was told.
abbrev pub after_settling : {X E N : Type 0} → View X E N → View X E N
after_settling v = record v { seen = longer v.seen v.told }

-- A seat whose turn left this value.
abbrev pub after_turn : {X E N : Type 0} → (X → List E) → (X → ℕ → List N) → View X E N → X
    → View X E N
after_turn past own v left =
    record v { ticket = None; taken = None; seen = past left; own = own left v.number }
