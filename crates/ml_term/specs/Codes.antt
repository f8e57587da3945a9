-- The code of a term: 64 truth values, by which items are ordered and found. The code of the
-- program shifts words.
use Rattle.std.specs.Prelude.{ℕ, zero, suc, ◌/◌, ◌%◌, ◌^◌, ◌==◌, min, Bool, true, false, List, []}
use Rattle.std.specs.Prelude.{◌∷◌, ◌++◌, length, take, replicate}
use Rattle.std.specs.List.{flat_map}
use Rattle.ml_term.specs.Tree.{Tree, variable, integer, atom, compound, arity}
use Rattle.ml_term.specs.CanonicalBytes.{counted_from_smallest}
use Rattle.ml_term.specs.Limits.{max_coded_name_bytes}

-- the lowest bits of a number, the highest of them first
abbrev pub bits : ℕ → ℕ → List Bool
bits zero v = []
bits (suc k) v = (v / 2 ^ k % 2 == 1) ∷ bits k v

-- the bits of some bytes, the highest bit of each first
abbrev pub byte_bits : List ℕ → List Bool
byte_bits = flat_map (bits 8)

-- the first k bytes of a name, padded with zero bytes
abbrev pub pad : ℕ → List ℕ → List ℕ
pad k f = take k (f ++ replicate k 0)

-- the length of a name, cut at 63, in 6 bits
abbrev pub length_bits : List ℕ → List Bool
length_bits f = bits 6 (min (length f) max_coded_name_bytes)

-- two bits for the kind, and then: nothing for a variable, the value of an integer, the beginning
-- and the length of an atom's name, and of a compound the arity before these two
abbrev pub code : Tree → List Bool
code (variable n) = bits 64 0
code (integer z) = false ∷ true ∷ bits 62 (counted_from_smallest z)
code (atom f) = true ∷ false ∷ byte_bits (pad 7 f) ++ length_bits f
code (compound f ts) = true ∷ true ∷ bits 8 (arity ts) ++ byte_bits (pad 6 f) ++ length_bits f

-- the code that every variable has
abbrev pub variable_code : List Bool
variable_code = bits 64 0
