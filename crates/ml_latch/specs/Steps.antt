-- What each step tells the seat that makes it: of the step, the seat before, the number found in
-- the word, and the seat after.
use Rattle.std.specs.Prelude.{◌≡◌, ◌≢◌, ℕ, ◌%◌, ◌^◌, List, [], ◌∷◌, Option, Some}
use mathlib.Core.List.{IsPrefix}
use Rattle.atomic_table.specs.Table.{Me, Step}
use Rattle.ml_latch.specs.Turn.{Finds}
use Rattle.ml_latch.specs.View.{after_settling, after_turn}
use Rattle.ml_latch.specs.declared.view.View.{View}

-- A ticket was drawn, and its number found.
abbrev pub Draws : {X E N : Type 0}
    → Step (Option X) → Me (Option X) (View X E N) → ℕ → Me (Option X) (View X E N) → Type 0
Draws step old found new =
    (ticket : ℕ) × (found ≡ ticket % 2 ^ 64)
    × (new ≡ (record old.0 { ticket = Some ticket }, old.1))

-- Where the seat's own ticket is served, the seat has taken the value; otherwise nothing has
-- changed.
abbrev pub Looks : {X E N B : Type 0} → (X → List E) → (X → ℕ → List N) → (X → B)
    → Step (Option X) → Me (Option X) (View X E N) → ℕ → Me (Option X) (View X E N) → Type 0
Looks {X} past own base step old found new =
    (ticket : ℕ) (start : X) → old.0.ticket ≡ Some ticket → old.0.start ≡ Some start
    → (found ≡ ticket % 2 ^ 64 → (x : X) × Finds past own base start old.0 x
    × (new ≡ (record old.0 { taken = Some x }, (0, Some x) ∷ old.1)))
    × (found ≢ ticket % 2 ^ 64 → new ≡ old)

-- The value that lies in the slot was given back, and the seat has seen it.
abbrev pub Passes : {X E N : Type 0} → (X → List E) → (X → ℕ → List N)
    → Step (Option X) → Me (Option X) (View X E N) → ℕ → Me (Option X) (View X E N) → Type 0
Passes {X} past own step old found new =
    (left : X) → old.1 ≡ (0, Some left) ∷ [] → new ≡ (after_turn past own old.0 left, [])

-- The seat has seen the longer of what it had seen and what it was told, and both begin it.
abbrev pub Settles : {X E N : Type 0}
    → Step (Option X) → Me (Option X) (View X E N) → ℕ → Me (Option X) (View X E N) → Type 0
Settles step old found new =
    (new ≡ (after_settling old.0, old.1))
    × IsPrefix old.0.seen (after_settling old.0).seen
    × IsPrefix old.0.told (after_settling old.0).seen
