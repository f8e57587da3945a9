-- The terms that cells stand for, by their places.
use Rattle.std.specs.Prelude.{◌≡◌, ℕ, zero, suc, ◌<◌, Bool, true, List, [], ◌∷◌, length, map, slice_get, Some}
use Rattle.std.specs.List.{list_any}
use Rattle.std.proofs.Common.{get_or, sym, ap, ◌∙◌, arith}
use Rattle.std.proofs.lemmas.Bool.{or_left, or_right}
use Rattle.ml_term.specs.Tree.{Tree}
use Rattle.ml_search.specs.Errors.{is_too_large}
use Rattle.ml_heap.specs.Changes.{cell_count}
use Rattle.ml_stack.specs.Memories.{Contents, AreInside, AreTrees, tree}

pub cell_inside : (M : Contents) (rs : List ℕ) (i r : ℕ) → AreInside M rs → i < length rs → r ≡ get_or rs i r → r < cell_count M.heap
cell_inside M [] i r a l e = absurd (omega arith)
cell_inside M (x ∷ rs) zero r a l e = omega (arith, a.0, e)
cell_inside M (x ∷ rs) (suc i) r a l e = cell_inside M rs i r a.1 (omega arith) e

tree_there : (f : ℕ → Tree) (rs : List ℕ) (i r : ℕ) → i < length rs → r ≡ get_or rs i r → slice_get (map f rs) i ≡ Some (f r)
tree_there f [] i r l e = absurd (omega arith)
tree_there f (x ∷ rs) zero r l e = ap (λ y. Some (f y)) (sym e)
tree_there f (x ∷ rs) (suc i) r l e = tree_there f rs i r (omega arith) e

one_there : (p : Tree → Bool) (f : ℕ → Tree) (rs : List ℕ) (i r : ℕ) → i < length rs → r ≡ get_or rs i r → p (f r) ≡ true → list_any p (map f rs) ≡ true
one_there p f [] i r l e h = absurd (omega arith)
one_there p f (x ∷ rs) zero r l e h = or_left (p (f x)) (list_any p (map f rs)) (ap (λ y. p (f y)) (sym e) ∙ h)
one_there p f (x ∷ rs) (suc i) r l e h = or_right (p (f x)) (list_any p (map f rs)) (one_there p f rs i r (omega arith) e h)

module _ (M : Contents) (rs : List ℕ) (i r : ℕ) (l : i < length rs) (e : r ≡ get_or rs i r) where
  pub term_there : (ts : List Tree) (t : Tree) → AreTrees M rs ts → t ≡ tree M r → slice_get ts i ≡ Some t
  term_there ts t a is = ap (λ us. slice_get us i) a.are ∙ (tree_there (tree M) rs i r l e ∙ ap Some (sym is))

  pub large_there : (ts : List Tree) → AreTrees M rs ts → is_too_large (tree M r) ≡ true → list_any is_too_large ts ≡ true
  large_there ts a h = ap (list_any is_too_large) a.are ∙ one_there is_too_large (tree M) rs i r l e h
