-- Lists by their cells.
use Rattle.std.specs.Prelude.{◌≡◌, ℕ, zero, suc, ◌+◌, ◌<◌, ℤ, Bool, true, false, List, [], ◌∷◌, ◌++◌, map, length, drop, get_or, codes}
use Rattle.std.specs.Str.{bytes_eq}
use Rattle.std.proofs.Common.{cond, refl, sym, ap, ◌∙◌, subst, arith, append_assoc}
use Rattle.std.proofs.lemmas.List.{map-append}
use Rattle.std.proofs.lemmas.Slice.Eq.{bytes_eq-Decides}
use Rattle.ml_term.specs.Tree.{Tree, variable, integer, atom, compound, compound_2, trees_of, nodes}
use Rattle.ml_heap.specs.Changes.{Changes, cell_count, stands_for, arguments_of, tree_in, AreCells, HasOneMore, HasTree, IsVariable}
use Rattle.ml_heap.proofs.TermWalks.{cells_at}
use Rattle.ml_search.specs.ListTerms.{list_term, list_end, elements}
use Rattle.ml_builtin.specs.inside.Lists.{IsCell, IsNoCell}
use Rattle.ml_builtin.proofs.CellsMade.{made_after}

-- what is no list's cell
pub variable_no_cell : (t : Tree) → IsVariable t → IsNoCell t
variable_no_cell (variable n) v = (refl, refl)
variable_no_cell (integer z) v = absurd v
variable_no_cell (atom f) v = absurd v
variable_no_cell (compound f ts) v = absurd v

pub integer_no_cell : (t : Tree) (z : ℤ) → t ≡ integer z → IsNoCell t
integer_no_cell t z e = subst IsNoCell (sym e) (refl, refl)

pub atom_no_cell : (t : Tree) (f : List ℕ) → t ≡ atom f → IsNoCell t
atom_no_cell t f e = subst IsNoCell (sym e) (refl, refl)

other_arity : (f : List ℕ) (ts : List Tree) → (length ts ≡ 2 → ⊥) → IsNoCell (compound f (trees_of ts))
other_arity f [] d = (refl, refl)
other_arity f (t ∷ []) d = (refl, refl)
other_arity f (t ∷ u ∷ []) d = absurd (d (omega arith))
other_arity f (t ∷ u ∷ v ∷ ts) d = (refl, refl)

other_name : (f : List ℕ) (ts : List Tree) → length ts ≡ 2 → bytes_eq f (codes ".") ≡ false → IsNoCell (compound f (trees_of ts))
other_name f [] n e = absurd (omega (arith, n))
other_name f (t ∷ []) n e = absurd (omega (arith, n))
other_name f (t ∷ u ∷ []) n e = by (bytes_eq f (codes ".")) e
  where
    by : (b : Bool) → b ≡ false → (cond b (t ∷ elements u) [] ≡ []) × (cond b (list_end u) (compound_2 f t u) ≡ compound f (trees_of (t ∷ u ∷ [])))
    by true k = absurd (cc k)
    by false k = (refl, refl)
other_name f (t ∷ u ∷ v ∷ ts) n e = absurd (omega (arith, n))

two_arguments : (f : List ℕ) (ts : List Tree) → length ts ≡ 2 → compound f (trees_of ts) ≡ compound_2 f (tree_in ts 0) (tree_in ts 1)
two_arguments f [] n = absurd (omega (arith, n))
two_arguments f (t ∷ []) n = absurd (omega (arith, n))
two_arguments f (t ∷ u ∷ []) n = refl
two_arguments f (t ∷ u ∷ v ∷ ts) n = absurd (omega (arith, n))

module _ (t : Tree) (f : List ℕ) (is : t ≡ compound f (trees_of (arguments_of t))) where
  pub arity_no_cell : (n : ℕ) → length (arguments_of t) ≡ n → (n ≡ 2 → ⊥) → IsNoCell t
  arity_no_cell n e d = subst IsNoCell (sym is) (other_arity f (arguments_of t) (λ k. d (omega (arith, k, e))))

  pub name_no_cell : length (arguments_of t) ≡ 2 → bytes_eq f (codes ".") ≡ false → IsNoCell t
  name_no_cell n e = subst IsNoCell (sym is) (other_name f (arguments_of t) n e)

  pub is_cell : (h : Changes) (a b : ℕ) → length (arguments_of t) ≡ 2 → bytes_eq f (codes ".") ≡ true → a < cell_count h → b < cell_count h
      → stands_for h a ≡ tree_in (arguments_of t) 0 → stands_for h b ≡ tree_in (arguments_of t) 1 → IsCell h t a b
  is_cell h a b n e in_a in_b first second =
      (is ∙ (two_arguments f (arguments_of t) n ∙ cc ((bytes_eq-Decides f (codes ".")).0 e, first, second)), in_a, in_b)

-- a list is walked from cell to cell
module _ (h : Changes) (list end : Tree) (a b : ℕ) (cell : IsCell h end a b) where
  pub same_end : list_end end ≡ list_end list → list_end (stands_for h b) ≡ list_end list
  same_end e = sym (ap list_end cell.0) ∙ e

  pub one_element : (cells all : List ℕ) → map (stands_for h) cells ++ elements end ≡ elements list → all ≡ cells ++ a ∷ []
      → map (stands_for h) all ++ elements (stands_for h b) ≡ elements list
  one_element cells all e put =
      ap (λ qs. map (stands_for h) qs ++ elements (stands_for h b)) put
      ∙ (ap (λ ts. ts ++ elements (stands_for h b)) (map-append (stands_for h) cells (a ∷ []))
      ∙ (append_assoc (map (stands_for h) cells) (stands_for h a ∷ []) (elements (stands_for h b))
      ∙ (ap (λ ts. map (stands_for h) cells ++ ts) (sym (ap elements cell.0)) ∙ e)))

  pub fewer_nodes : nodes (stands_for h b) < nodes end
  fewer_nodes = omega (arith, ap nodes cell.0)

no_more : (ts : List Tree) → ts ++ [] ≡ ts
no_more [] = refl
no_more (t ∷ ts) = ap (λ us. t ∷ us) (no_more ts)

pub all_elements : (list end : Tree) (ts : List Tree) → IsNoCell end → ts ++ elements end ≡ elements list → ts ≡ elements list
all_elements list end ts n e = sym (no_more ts) ∙ (ap (λ us. ts ++ us) (sym n.0) ∙ e)

pub the_end : (list end : Tree) → IsNoCell end → list_end end ≡ list_end list → end ≡ list_end list
the_end list end n e = sym n.1 ∙ e

-- a list is made from its end
one_less : (qs : List ℕ) (i j : ℕ) → j ≡ i + 1 → i < length qs → drop i qs ≡ get_or qs i 0 ∷ drop j qs
one_less [] i j e l = absurd (omega arith)
one_less (q ∷ qs) zero j e l = let f : j ≡ 1 = omega (arith, e) in ap (λ n. q ∷ drop n (q ∷ qs)) (sym f)
one_less (q ∷ qs) (suc i) j e l =
    let f : j ≡ suc (i + 1) = omega (arith, e) in
    one_less qs i (i + 1) refl (omega (arith, l)) ∙ ap (λ n. get_or qs i 0 ∷ drop n (q ∷ qs)) (sym f)

pub one_cell_more : (base h h' : Changes) (cells : List ℕ) (i j list r : ℕ) (t : Tree) → AreCells (cell_count base) cells → j ≡ i + 1 → i < length cells
    → HasTree base h list (list_term (map (stands_for base) (drop j cells)))
    → HasOneMore h h' r t → t ≡ compound_2 (codes ".") (stands_for h (get_or cells i 0)) (stands_for h list)
    → HasTree base h' r (list_term (map (stands_for base) (drop i cells)))
one_cell_more base h h' cells i j list r t inside e l made m k =
    let head : stands_for h (get_or cells i 0) ≡ stands_for base (get_or cells i 0) =
    made.grown.others (get_or cells i 0) (cells_at (cell_count base) cells inside i l) in
    made_after base h h' r t (list_term (map (stands_for base) (drop i cells))) made.grown m
    (k
    ∙ (ap (λ x. compound_2 (codes ".") x (stands_for h list)) head
    ∙ (ap (λ x. compound_2 (codes ".") (stands_for base (get_or cells i 0)) x) made.stands
    ∙ ap (λ qs. list_term (map (stands_for base) qs)) (sym (one_less cells i j e l)))))
