-- Which trees are terms of the language: their integers, variables' numbers, names and arities are
-- in range.
use Rattle.std.specs.Prelude.{◌^◌, nat_lt, nat_le, Bool, true, ◌&&◌, ℤ, pos, negsuc}
use Rattle.ml_term.specs.Tree.{Tree, Trees, variable, integer, atom, compound, no_trees, tree}
use Rattle.ml_term.specs.Tree.{arity}
use Rattle.ml_term.specs.Names.{is_name}
use Rattle.ml_term.specs.Limits.{integer_offset, max_arguments}

-- from -2305843009213693952 to 2305843009213693951
abbrev pub is_in_range : ℤ → Bool
is_in_range (pos n) = nat_lt n integer_offset
is_in_range (negsuc n) = nat_lt n integer_offset

abbrev mutual
  -- variables' numbers are below 2 to the power of 32, integers in range, names are names, and
  -- compounds have 1 to 255 arguments
  pub is_valid : Tree → Bool
  is_valid (variable n) = nat_lt n (2 ^ 32)
  is_valid (integer z) = is_in_range z
  is_valid (atom f) = is_name f
  is_valid (compound f ts) = is_name f && nat_le 1 (arity ts) && nat_le (arity ts) max_arguments
      && are_valid ts

  -- whether this holds of some arguments
  pub are_valid : Trees → Bool
  are_valid no_trees = true
  are_valid (tree t ts) = is_valid t && are_valid ts
