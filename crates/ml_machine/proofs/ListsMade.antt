-- A list is made from its end.
use Rattle.std.specs.Prelude.{◌≡◌, ℕ, zero, suc, ◌+◌, ◌<◌, List, [], ◌∷◌, map, length, drop, get_or, codes}
use Rattle.std.proofs.Common.{refl, sym, ap, ◌∙◌, arith}
use Rattle.ml_term.specs.Tree.{Tree, compound_2}
use Rattle.ml_heap.specs.Changes.{Changes, cell_count, stands_for, AreCells, HasOneMore, HasTree, Grows}
use Rattle.ml_heap.proofs.StoredTerms.{grows_on, grows_one, one_inside, one_stands}
use Rattle.ml_heap.proofs.TermWalks.{cells_at}
use Rattle.ml_search.specs.ListTerms.{list_term}

made_after : (h g h' : Changes) (r : ℕ) (t u : Tree) → Grows h g → HasOneMore g h' r t → t ≡ u → HasTree h h' r u
made_after h g h' r t u grown m e = record {
  inside = one_inside g h' r t m;
  stands = one_stands g h' r t m ∙ e;
  grown = grows_on h g h' grown (grows_one g h' r t m);
}

one_less : (qs : List ℕ) (i j : ℕ) → j ≡ i + 1 → i < length qs → drop i qs ≡ get_or qs i 0 ∷ drop j qs
one_less [] i j e l = absurd (omega arith)
one_less (q ∷ qs) zero j e l = let f : j ≡ 1 = omega (arith, e) in ap (λ n. q ∷ drop n (q ∷ qs)) (sym f)
one_less (q ∷ qs) (suc i) j e l =
    let f : j ≡ suc (i + 1) = omega (arith, e) in
    one_less qs i (i + 1) refl (omega (arith, l)) ∙ ap (λ n. get_or qs i 0 ∷ drop n (q ∷ qs)) (sym f)

pub one_cell_more : (base h h' : Changes) (cells : List ℕ) (i j list r : ℕ) (t : Tree) → AreCells (cell_count base) cells → j ≡ i + 1 → i < length cells
    → HasTree base h list (list_term (map (stands_for base) (drop j cells)))
    → HasOneMore h h' r t → t ≡ compound_2 (codes ".") (stands_for h (get_or cells i 0)) (stands_for h list)
    → HasTree base h' r (list_term (map (stands_for base) (drop i cells)))
one_cell_more base h h' cells i j list r t inside e l made m k =
    let head : stands_for h (get_or cells i 0) ≡ stands_for base (get_or cells i 0) =
    made.grown.others (get_or cells i 0) (cells_at (cell_count base) cells inside i l) in
    made_after base h h' r t (list_term (map (stands_for base) (drop i cells))) made.grown m
    (k
    ∙ (ap (λ x. compound_2 (codes ".") x (stands_for h list)) head
    ∙ (ap (λ x. compound_2 (codes ".") (stands_for base (get_or cells i 0)) x) made.stands
    ∙ ap (λ qs. list_term (map (stands_for base) qs)) (sym (one_less cells i j e l)))))
