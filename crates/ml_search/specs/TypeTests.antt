-- The tests of a term's type. The code looks at a cell of the heap, past bindings; here a term is a
-- tree.
use Rattle.std.specs.Prelude.{ℕ, nat_lt, pos, negsuc, Bool, true, false, ◌||◌}
use Rattle.ml_term.specs.Tree.{Tree, variable, integer, atom, compound}

-- a variable
abbrev pub is_variable : Tree → Bool
is_variable (variable n) = true
is_variable t = false

-- an integer
abbrev pub is_integer : Tree → Bool
is_integer (integer z) = true
is_integer t = false

-- an atom
abbrev pub is_atom : Tree → Bool
is_atom (atom f) = true
is_atom t = false

-- a compound
abbrev pub is_compound : Tree → Bool
is_compound (compound f ts) = true
is_compound t = false

-- an atom or an integer
abbrev pub is_atomic : Tree → Bool
is_atomic t = is_atom t || is_integer t

-- whether a term is a negative integer
abbrev pub is_negative : Tree → Bool
is_negative (integer (negsuc n)) = true
is_negative t = false

-- whether a term is an integer over a number
abbrev pub is_over : ℕ → Tree → Bool
is_over m (integer (pos n)) = nat_lt m n
is_over m t = false

-- the number that a term is, and 0 for every other term
abbrev pub number_of : Tree → ℕ
number_of (integer (pos n)) = n
number_of t = 0
