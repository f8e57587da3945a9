-- The standard order of terms, as a recursion on trees.
use Rattle.std.specs.Prelude.{ℕ}
use Rattle.std.specs.declared.cmp.Ordering.{Ordering}
use Rattle.std.specs.Ordering.{nat_cmp, int_cmp, ordering_then}
use Rattle.std.specs.Cmp.Lexicographic.{slice_cmp}
use Rattle.ml_term.specs.Tree.{Tree, Trees, variable, integer, atom, compound, tree, arity}

-- variables come before integers, these before atoms, and these before compounds
abbrev pub rank : Tree → ℕ
rank (variable n) = 0
rank (integer z) = 1
rank (atom f) = 2
rank (compound f ts) = 3

abbrev mutual
  -- Variables compare by age, integers by value, atoms by their bytes, compounds by arity, then
  -- name, then arguments from the left.
  pub tree_cmp : Tree → Tree → Ordering
  tree_cmp (variable m) (variable n) = nat_cmp m n
  tree_cmp (integer y) (integer z) = int_cmp y z
  tree_cmp (atom f) (atom g) = slice_cmp nat_cmp f g
  tree_cmp (compound f ts) (compound g us) =
      ordering_then (nat_cmp (arity ts) (arity us))
      (ordering_then (slice_cmp nat_cmp f g) (trees_cmp ts us))
  tree_cmp t u = nat_cmp (rank t) (rank u)

  pub trees_cmp : Trees → Trees → Ordering
  trees_cmp (tree t ts) (tree u us) = ordering_then (tree_cmp t u) (trees_cmp ts us)
  trees_cmp ts us = nat_cmp (arity ts) (arity us)
