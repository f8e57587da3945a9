-- Which keys an item may have that unifies with a pattern, and which prefixes may begin such a key.
use Rattle.std.specs.Prelude.{ℕ, zero, suc, ◌+◌, Bool, true, false, ◌&&◌, ◌||◌, List, [], ◌∷◌, ◌++◌}
use Rattle.std.specs.Prelude.{map, length, take, drop, Option, Some, None}
use Rattle.ml_term.specs.Tree.{Tree, variable}
use Rattle.ml_term.specs.Codes.{code, variable_code}
use Rattle.ml_term.specs.Keys.{keyed_arguments}

-- what a pattern asks of one keyed place: a code, or nothing where it has a variable
abbrev pub asked_code : Tree → Option (List Bool)
asked_code (variable n) = None
asked_code t = Some (code t)

-- what a head asks of each keyed place
abbrev pub pattern_of : List ℕ → Tree → List (Option (List Bool))
pattern_of keys head = map asked_code (keyed_arguments keys head)

-- whether two truth values are the same
abbrev pub same_bit : Bool → Bool → Bool
same_bit true b = b
same_bit false true = false
same_bit false false = true

-- whether two lists of truth values are the same
abbrev pub same_bits : List Bool → List Bool → Bool
same_bits [] [] = true
same_bits (b ∷ bs) (c ∷ cs) = same_bit b c && same_bits bs cs
same_bits bs cs = false

-- whether the first list begins the second
abbrev pub begins : List Bool → List Bool → Bool
begins [] cs = true
begins (b ∷ bs) (c ∷ cs) = same_bit b c && begins bs cs
begins bs [] = false

-- every a-th bit from place i on, n at most
abbrev pub column : ℕ → ℕ → ℕ → List Bool → List Bool
column a i zero bs = []
column a i (suc n) bs = take 1 (drop i bs) ++ column a i n (drop a bs)

-- the bits of attribute i of a keyed attributes in a key, or in a prefix of one
abbrev pub attribute : ℕ → ℕ → List Bool → List Bool
attribute a i key = column a i 64 key

-- one keyed place: the pattern has a variable there, or its code is the key's there, or the key's
-- code there is the variable's
abbrev pub fits_at : Option (List Bool) → List Bool → Bool
fits_at None found = true
fits_at (Some asked) found = same_bits found asked || same_bits found variable_code

-- the keyed places from i on
abbrev pub fits_from : ℕ → ℕ → List (Option (List Bool)) → List Bool → Bool
fits_from a i [] key = true
fits_from a i (p ∷ ps) key = fits_at p (attribute a i key) && fits_from a (i + 1) ps key

-- whether a key fits a pattern
abbrev pub fits : List (Option (List Bool)) → List Bool → Bool
fits pattern key = fits_from (length pattern) 0 pattern key

-- one keyed place of a prefix: its bits there begin the pattern's code or the variable's code
abbrev pub may_hold_at : Option (List Bool) → List Bool → Bool
may_hold_at None found = true
may_hold_at (Some asked) found = begins found asked || begins found variable_code

-- the keyed places of a prefix from i on
abbrev pub may_hold_from : ℕ → ℕ → List (Option (List Bool)) → List Bool → Bool
may_hold_from a i [] prefix = true
may_hold_from a i (p ∷ ps) prefix =
    may_hold_at p (attribute a i prefix) && may_hold_from a (i + 1) ps prefix

-- whether a key that begins with a prefix may fit a pattern
abbrev pub may_hold : List (Option (List Bool)) → List Bool → Bool
may_hold pattern prefix = may_hold_from (length pattern) 0 pattern prefix
