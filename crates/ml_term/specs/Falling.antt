-- Systems whose every turn lowers a first number, or keeps it and lowers a second: their runs end.
use Rattle.std.specs.Prelude.{◌≡◌, ℕ, ◌<◌, ◌≤◌, ◌⊎◌}
use Rattle.std.proofs.Common.{inl, inr}
use Rattle.ml_term.specs.Runs.{Next, now, ask}

module _ {S R : Type 0} (first second : S → ℕ) (last : R → ℕ) where
  -- where a turn leads: to a result whose number is no greater than the state's first one, or to a
  -- state with lower numbers
  abbrev pub FallsTo : S → R ⊎ S → Type 0
  FallsTo s (inl r) = last r ≤ first s
  FallsTo s (inr t) = (first t < first s) ⊎ ((first t ≡ first s) × (second t < second s))

  -- the same, where the first number itself is lower
  abbrev pub FallsBelow : S → R ⊎ S → Type 0
  FallsBelow s (inl r) = last r ≤ first s
  FallsBelow s (inr t) = first t < first s

  -- What a turn may give. A state that is asked has a lower first number, and whatever result it
  -- may have, of no greater number, leads below the state.
  abbrev pub Falls : S → Next S R → Type 0
  Falls s (now x) = FallsTo s x
  Falls s (ask t k) = (first t < first s) × ((q : R) → last q ≤ first t → FallsBelow s (k q))

  -- whether every turn does so
  abbrev pub AlwaysFalls : (S → Next S R) → Type 0
  AlwaysFalls turn = (s : S) → Falls s (turn s)

module _ {S R : Type 0} (P : S → R → Type 0) where
  -- a property of a state with its result, known where a turn leads: the result itself, or the
  -- property of the next state
  abbrev pub HoldsNext : R ⊎ S → R → Type 0
  HoldsNext (inl q) r = q ≡ r
  HoldsNext (inr t) r = P t r

  -- the same for what a turn gives: of a state that is asked too, and then where its result leads
  abbrev pub HoldsAfter : Next S R → R → Type 0
  HoldsAfter (now x) r = HoldsNext x r
  HoldsAfter (ask t k) r = (q : R) × (P t q × HoldsNext (k q) r)
