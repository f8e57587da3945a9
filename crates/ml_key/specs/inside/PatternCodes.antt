-- What the words of a pattern stand for.
use Rattle.std.specs.Prelude.{ℕ, Bool, true, false, List, Option, Some, None}
use Rattle.ml_term.specs.Tree.{Tree, variable, integer, atom, compound}
use Rattle.ml_term.specs.Codes.{bits}
use Rattle.ml_term.specs.Patterns.{attribute, begins, may_hold_at}

-- the code that a word holds, the highest bit first
unfoldable pub word_bits : ℕ → List Bool
word_bits word = bits 64 word

-- a code, or nothing
abbrev pub asked_bits : Option ℕ → Option (List Bool)
asked_bits None = None
asked_bits (Some word) = Some (word_bits word)

-- whether a term is a variable
abbrev pub is_variable : Tree → Bool
is_variable (variable n) = true
is_variable (integer z) = false
is_variable (atom f) = false
is_variable (compound f ts) = false

-- whether the bits of one keyed place in a prefix begin a code
unfoldable pub begins_code : ℕ → ℕ → ℕ → List Bool → Bool
begins_code width place word prefix = begins (attribute width place prefix) (bits 64 word)

-- whether one keyed place of a prefix may hold what is asked for
unfoldable pub place_may_hold : ℕ → ℕ → Option (List Bool) → List Bool → Bool
place_may_hold width place asked prefix = may_hold_at asked (attribute width place prefix)
