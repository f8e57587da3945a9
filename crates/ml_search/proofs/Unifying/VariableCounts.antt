-- A term has at most as many different variables as nodes.
use Rattle.std.specs.Prelude.{ℕ, ◌≤◌, List, [], ◌∷◌, length}
use Rattle.std.proofs.Common.{arith, inl, inr}
use Rattle.std.proofs.lemmas.Bool.Decides.{eqb_tells}
use Rattle.std.proofs.lemmas.List.{length-append}
use Rattle.ml_term.specs.Tree.{Tree, Trees, variable, integer, atom, compound, no_trees, tree, variables, variables_of, nodes, nodes_of, firsts, without, width}

fewer_without : (n : ℕ) (ms : List ℕ) → length (without n ms) ≤ length ms
fewer_without n [] = omega arith
fewer_without n (m ∷ ms) = elim (eqb_tells m n) [ inl q ↦ rw q.0 (omega (arith, fewer_without n ms)) | inr q ↦ rw q.0 (omega (arith, fewer_without n ms)) ]

fewer_firsts : (ms : List ℕ) → length (firsts ms) ≤ length ms
fewer_firsts [] = omega arith
fewer_firsts (m ∷ ms) = omega (arith, fewer_without m (firsts ms), fewer_firsts ms)

mutual
  variables_within : (t : Tree) → length (variables t) ≤ nodes t
  variables_within (variable n) = omega arith
  variables_within (integer z) = omega arith
  variables_within (atom f) = omega arith
  variables_within (compound f ts) = omega (arith, all_within ts)

  all_within : (ts : Trees) → length (variables_of ts) ≤ nodes_of ts
  all_within no_trees = omega arith
  all_within (tree t ts) = omega (arith, length-append (variables t) (variables_of ts), variables_within t, all_within ts)

pub width_within : (t : Tree) → width t ≤ nodes t
width_within t = omega (arith, fewer_firsts (variables t), variables_within t)
