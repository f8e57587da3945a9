-- The canonical bytes of a term, as a spelling: each term has one, and no term's bytes begin
-- another's. Numbers stand with the highest byte first.
use Rattle.std.specs.Prelude.{ℕ, ◌+◌, ◌-◌, ℤ, pos, negsuc, List, [], ◌∷◌, ◌++◌, length}
use Rattle.std.specs.Int.{to_be_bytes, w32, w64}
pub use Rattle.ml_term.specs.Limits.{integer_offset}
use Rattle.ml_term.specs.Tree.{Tree, Trees, variable, integer, atom, compound, no_trees, tree}
use Rattle.ml_term.specs.Tree.{arity}

-- an integer counted from the smallest one, 0 to 4611686018427387903
abbrev pub counted_from_smallest : ℤ → ℕ
counted_from_smallest (pos n) = n + integer_offset
counted_from_smallest (negsuc n) = integer_offset - (n + 1)

-- a name with its length before it
abbrev pub name_bytes : List ℕ → List ℕ
name_bytes f = length f ∷ f

abbrev mutual
  -- a tag, and then a variable's number in 4 bytes; an integer in 8 bytes; an atom's name; or a
  -- compound's arity, name and arguments
  pub bytes_of : Tree → List ℕ
  bytes_of (variable n) = 0 ∷ to_be_bytes w32 n
  bytes_of (integer z) = 1 ∷ to_be_bytes w64 (counted_from_smallest z)
  bytes_of (atom f) = 2 ∷ name_bytes f
  bytes_of (compound f ts) = 3 ∷ arity ts ∷ name_bytes f ++ bytes_of_all ts

  pub bytes_of_all : Trees → List ℕ
  bytes_of_all no_trees = []
  bytes_of_all (tree t ts) = bytes_of t ++ bytes_of_all ts
