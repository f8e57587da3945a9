-- Equal sides are dropped, at any size.
use Rattle.std.specs.Prelude.{◌≡◌, List, ◌∷◌, ◌++◌}
use Rattle.std.proofs.Common.{refl, ◌∙◌}
use Rattle.std.proofs.lemmas.Bool.Decides.{Decides-int_eq}
use Rattle.std.proofs.lemmas.Bool.{eq-eqb}
use Rattle.std.proofs.lemmas.Slice.Eq.{bytes_eq-Decides}
use Rattle.std.specs.List.{zip}
use Rattle.ml_term.specs.Tree.{Tree, Trees, variable, integer, atom, compound, no_trees, tree, list_of, arity}
use Rattle.ml_term.specs.Unify.{Equation, Map, solve_equations}
use Rattle.ml_term.proofs.UnificationEnds.{solved_goes}

mutual
  pub same : (t : Tree) (es : List Equation) (m : Map) → solve_equations ((t, t) ∷ es) m ≡ solve_equations es m
  same (variable n) es m = solved_goes ((variable n, variable n) ∷ es) es m m (rw (eq-eqb n n refl) refl)
  same (integer z) es m = solved_goes ((integer z, integer z) ∷ es) es m m (rw ((Decides-int_eq z z).1 refl) refl)
  same (atom f) es m = solved_goes ((atom f, atom f) ∷ es) es m m (rw ((bytes_eq-Decides f f).1 refl) refl)
  same (compound f ts) es m =
      solved_goes ((compound f ts, compound f ts) ∷ es) (zip (list_of ts) (list_of ts) ++ es) m m
      (rw ((bytes_eq-Decides f f).1 refl, eq-eqb (arity ts) (arity ts) refl) refl) ∙ all_same ts es m

  pub all_same : (ts : Trees) (es : List Equation) (m : Map) → solve_equations (zip (list_of ts) (list_of ts) ++ es) m ≡ solve_equations es m
  all_same no_trees es m = refl
  all_same (tree t ts) es m = same t (zip (list_of ts) (list_of ts) ++ es) m ∙ all_same ts es m
