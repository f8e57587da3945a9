-- Runs of a system whose turns lower a first number, or keep it and lower a second.
use Rattle.std.specs.Prelude.{ℕ, zero, suc, true, false, nat_lt, ◌⊎◌}
use Rattle.std.proofs.Common.{inl, inr}

-- what a turn gives: the result or the next state, or a state to be run by itself, with what its
-- result leads to
pub data Next (S R : Type 0) : Type 0 where
  now : R ⊎ S → Next S R
  ask : S → (R → R ⊎ S) → Next S R

module _ {S R : Type 0} (turn : S → Next S R) (first second : S → ℕ) (never : S → R) where
  -- a result, or what a state gives by `lower`
  abbrev pub result_or : (S → R) → R ⊎ S → R
  result_or lower (inl r) = r
  result_or lower (inr t) = lower t

  -- what a turn gives: its result, its next state by `lower` where the first number fell and else
  -- by `again`, or what follows the state that is run by itself
  abbrev pub follow_turn : (S → R) → (S → R) → ℕ → Next S R → R
  follow_turn lower again n (now (inl r)) = r
  follow_turn lower again n (now (inr t)) =
      elim (nat_lt (first t) n) [ true ↦ lower t | false ↦ again t ]
  follow_turn lower again n (ask t k) = result_or lower (k (lower t))

  -- Turns until the first number falls, and from there by `lower`. There are at most as many as the
  -- second number says.
  abbrev pub run_within : (S → R) → ℕ → S → R
  run_within lower zero s = never s
  run_within lower (suc m) s = follow_turn lower (run_within lower m) (first s) (turn s)

  -- at most n falls of the first number
  abbrev pub run_below : ℕ → S → R
  run_below zero s = never s
  run_below (suc n) s = run_within (run_below n) (suc (second s)) s

  -- what a state gives, turn after turn
  unfoldable pub run : S → R
  run s = run_below (suc (first s)) s
