-- The elements of lists and their cells, where a term is made of them.
use Rattle.std.specs.Prelude.{◌≡◌, ℕ, zero, suc, ◌<◌, ◌≤◌, ◌-◌, Bool, true, false, List, [], ◌∷◌, map, length, get_or, take, drop, codes}
use Rattle.std.specs.Str.{bytes_eq}
use Rattle.std.proofs.Common.{refl, sym, ap, ◌∙◌, subst, arith}
use Rattle.std.proofs.lemmas.List.{length-map, take_all}
use Rattle.ml_term.specs.Tree.{Tree, variable, integer, atom, compound, no_trees, tree, trees_of}
use Rattle.ml_heap.specs.Changes.{Changes, stands_for, AreCells}
use Rattle.ml_search.specs.Builtins.{first_element, term_of_list}
use Rattle.ml_search.specs.ListTerms.{list_end, elements, is_list, is_nil}
use Rattle.ml_search.specs.Program.{name_of}

-- a list without elements
two_apart : (f : List ℕ) (t u : Tree) (b : Bool) → bytes_eq f (codes ".") ≡ b → elements (compound f (tree t (tree u no_trees))) ≡ []
    → list_end (compound f (tree t (tree u no_trees))) ≡ compound f (tree t (tree u no_trees))
two_apart f t u true k e = absurd (cc (rw k at e))
two_apart f t u false k e = rw k refl

pub no_elements : (l : Tree) → elements l ≡ [] → list_end l ≡ l
no_elements (variable n) e = refl
no_elements (integer z) e = refl
no_elements (atom f) e = refl
no_elements (compound f no_trees) e = refl
no_elements (compound f (tree t no_trees)) e = refl
no_elements (compound f (tree t (tree u no_trees))) e = two_apart f t u (bytes_eq f (codes ".")) refl e
no_elements (compound f (tree t (tree u (tree v ts)))) e = refl

none : (ts : List Tree) → length ts ≡ 0 → ts ≡ []
none [] e = refl
none (t ∷ ts) e = absurd (omega arith)

pub empty_is_nil : (l : Tree) → is_list l ≡ true → length (elements l) ≡ 0 → is_nil l ≡ true
empty_is_nil l e k = sym (ap is_nil (no_elements l (none (elements l) k))) ∙ e

pub some_is_no_nil : (l : Tree) → 0 < length (elements l) → is_nil l ≡ false
some_is_no_nil (variable n) k = refl
some_is_no_nil (integer z) k = refl
some_is_no_nil (atom f) k = absurd (omega (arith, k))
some_is_no_nil (compound f ts) k = refl

pub has_elements : (l : Tree) → is_list l ≡ true → is_nil l ≡ false → 1 ≤ length (elements l)
has_elements l e k = by (length (elements l)) refl
  where
    by : (n : ℕ) → length (elements l) ≡ n → 1 ≤ length (elements l)
    by zero q = absurd (cc (sym k ∙ empty_is_nil l e q))
    by (suc n) q = omega arith

-- the elements by their cells
module _ (h : Changes) (l : Tree) (cells : List ℕ) (e : map (stands_for h) cells ≡ elements l) where
  pub as_many : length cells ≡ length (elements l)
  as_many = sym (length-map cells (stands_for h)) ∙ ap length e

  first_stands : (cells : List ℕ) → 0 < length cells → stands_for h (get_or cells 0 0) ≡ first_element (map (stands_for h) cells)
  first_stands [] k = absurd (omega (arith, k))
  first_stands (c ∷ cs) k = refl

  pub the_first : 0 < length cells → stands_for h (get_or cells 0 0) ≡ first_element (elements l)
  the_first k = first_stands cells k ∙ ap first_element e

pub first_cell : (h : Changes) (cells : List ℕ) → 0 < length cells → first_element (map (stands_for h) cells) ≡ stands_for h (get_or cells 0 0)
first_cell h [] k = absurd (omega (arith, k))
first_cell h (c ∷ cs) k = refl

pub one_element : (h : Changes) (cells : List ℕ) (r : ℕ) → length cells ≡ 1 → r ≡ get_or cells 0 r → stands_for h r ≡ term_of_list (map (stands_for h) cells)
one_element h [] r k at = absurd (omega (arith, k))
one_element h (c ∷ []) r k at = ap (stands_for h) at
one_element h (c ∷ d ∷ cs) r k at = absurd (omega (arith, k))

-- the cells behind the first one
pub behind_first : (cells : List ℕ) → take (length cells - 1) (drop 1 cells) ≡ drop 1 cells
behind_first [] = refl
behind_first (c ∷ cs) = take_all (length (c ∷ cs) - 1) cs (omega arith)

pub behind_inside : (n : ℕ) (cells : List ℕ) → AreCells n cells → AreCells n (take (length cells - 1) (drop 1 cells))
behind_inside n [] a = tt
behind_inside n (c ∷ cs) a = subst (AreCells n) (sym (behind_first (c ∷ cs))) a.1

pub more_elements : (h : Changes) (cells : List ℕ) (r : ℕ) → 1 < length cells → r ≡ get_or cells 0 r
    → compound (name_of (stands_for h r)) (trees_of (map (stands_for h) (take (length cells - 1) (drop 1 cells)))) ≡ term_of_list (map (stands_for h) cells)
more_elements h [] r k at = absurd (omega (arith, k))
more_elements h (c ∷ []) r k at = absurd (omega (arith, k))
more_elements h (c ∷ d ∷ cs) r k at =
    ap (λ q. compound (name_of (stands_for h q)) (trees_of (map (stands_for h) (take (length (c ∷ d ∷ cs) - 1) (d ∷ cs))))) at
    ∙ ap (λ qs. compound (name_of (stands_for h c)) (trees_of (map (stands_for h) qs))) (behind_first (c ∷ d ∷ cs))
