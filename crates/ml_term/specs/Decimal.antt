-- Numbers in decimal, without leading zeros.
use Rattle.std.specs.Prelude.{ℕ, zero, suc, ◌+◌, ◌/◌, ◌%◌, nat_lt, ℤ, pos, negsuc, List, [], ◌∷◌}
use Rattle.std.specs.Prelude.{◌++◌, if◌then◌else◌}

-- the minus of a negative number
abbrev pub minus : ℕ
minus = 45

-- the byte of a digit
abbrev pub digit : ℕ → ℕ
digit d = 48 + d

-- the digits of a number that has at most k of them
abbrev pub digits_of : ℕ → ℕ → List ℕ
digits_of zero n = []
digits_of (suc k) n =
    if nat_lt n 10 then digit n ∷ [] else digits_of k (n / 10) ++ digit (n % 10) ∷ []

-- a number below 2 to the power of 64, which has at most 20 digits
abbrev pub decimal_text : ℕ → List ℕ
decimal_text n = digits_of 20 n

-- an integer, with a minus before it where it is negative
abbrev pub integer_text : ℤ → List ℕ
integer_text (pos n) = decimal_text n
integer_text (negsuc n) = minus ∷ decimal_text (n + 1)
