-- One row of words whose bits stand in turn.
use Rattle.std.specs.Prelude.{ℕ, ◌/◌, ◌%◌, ◌^◌, ◌==◌, Bool}

-- the bit of a number at a place counted from the lowest bit
abbrev pub bit_of : ℕ → ℕ → Bool
bit_of place n = n / 2 ^ place % 2 == 1
