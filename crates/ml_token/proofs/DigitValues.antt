-- Digits that follow don't make a number smaller.
use Rattle.std.proofs.Common.{ℕ, ◌+◌, ◌-◌, ◌*◌, ◌≤◌, List, [], ◌∷◌, length, get_or, arith}
use Rattle.ml_token.specs.Number.{value_behind}

value_behind-le : (n : ℕ) (ds : List ℕ) → n ≤ value_behind n ds
value_behind-le n [] = omega arith
value_behind-le n (d ∷ ds) = omega (arith, value_behind-le (n * 10 + (d - 48)) ds)

-- one more digit spells no more than all of them
pub value_behind-step : (n : ℕ) (ds : List ℕ) → 1 ≤ length ds → n * 10 + (get_or ds 0 0 - 48) ≤ value_behind n ds
value_behind-step n [] some = absurd (omega arith)
value_behind-step n (d ∷ ds) some = value_behind-le (n * 10 + (d - 48)) ds
