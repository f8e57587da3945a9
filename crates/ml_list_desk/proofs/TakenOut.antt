-- Items taken out of a pool by their numbers, one after another.
use Rattle.std.proofs.Common.{◌≡◌, ℕ, zero, suc, ◌+◌, ◌<◌, List, [], ◌∷◌, ◌++◌, length, get_or, take, drop, map, refl, sym, ap, ◌∙◌, subst, arith, add-one}
use Rattle.std.specs.Prelude.{slice_set}
use Rattle.std.proofs.lemmas.List.{map-append}
use Rattle.ml_term.specs.declared.term.Term.{Term}
use Rattle.ml_list_desk.specs.inside.ItemList.{AreDifferent, IsNone, item_with, items_with, no_item}
use Rattle.ml_list_desk.specs.declared.list_item.ListItem.{ListItem}

still_there : (pool : List ListItem) (n m : ℕ) (x : ListItem) → (m ≡ n → ⊥) → item_with (slice_set pool n x) m ≡ item_with pool m
still_there [] n m x d = refl
still_there (i ∷ pool) zero zero x d = absurd (d refl)
still_there (i ∷ pool) zero (suc m) x d = refl
still_there (i ∷ pool) (suc n) zero x d = refl
still_there (i ∷ pool) (suc n) (suc m) x d = still_there pool n m x (λ q. d (ap suc q))

others_there : (pool : List ListItem) (n : ℕ) (ms : List ℕ) (x : ListItem) → IsNone n ms → items_with (slice_set pool n x) ms ≡ items_with pool ms
others_there pool n [] x h = refl
others_there pool n (m ∷ ms) x h =
    let one : item_with (slice_set pool n x) m ≡ item_with pool m = still_there pool n m x (λ q. h.0 (sym q)) in
    let rest : items_with (slice_set pool n x) ms ≡ items_with pool ms = others_there pool n ms x h.1 in
    cc

pub kept_length : (pool : List ListItem) (n : ℕ) (x : ListItem) → length (slice_set pool n x) ≡ length pool
kept_length [] n x = refl
kept_length (i ∷ pool) zero x = refl
kept_length (i ∷ pool) (suc n) x = ap suc (kept_length pool n x)

-- what the next number names, and what is left behind it
pub record IsTaken (first pool : List ListItem) (numbers : List ℕ) (at n : ℕ) : Type 0 where
  pub item : item_with pool n ≡ item_with first n
  pub left : items_with (slice_set pool n no_item) (drop (at + 1) numbers) ≡ items_with first (drop (at + 1) numbers)

pub taken : (first pool : List ListItem) (numbers : List ℕ) (at n : ℕ) → at < length numbers → n ≡ get_or numbers at 0 → AreDifferent numbers
    → items_with pool (drop at numbers) ≡ items_with first (drop at numbers) → IsTaken first pool numbers at n
taken first pool numbers at n h e d q =
    let parts = by numbers at h e d q in
    record { item = parts.0; left = rw add-one parts.1 }
  where
    by : (numbers : List ℕ) (at : ℕ) → at < length numbers → n ≡ get_or numbers at 0 → AreDifferent numbers
        → items_with pool (drop at numbers) ≡ items_with first (drop at numbers)
        → (item_with pool n ≡ item_with first n)
        × (items_with (slice_set pool n no_item) (drop (suc at) numbers) ≡ items_with first (drop (suc at) numbers))
    by [] at h e d q = absurd (omega arith)
    by (m ∷ ms) zero h e d q =
        let here : item_with pool m ≡ item_with first m = cc in
        let rest : items_with pool ms ≡ items_with first ms = cc in
        (ap (item_with pool) e ∙ here ∙ ap (item_with first) (sym e), others_there pool n ms no_item (subst (λ k. IsNone k ms) (sym e) d.0) ∙ rest)
    by (m ∷ ms) (suc at) h e d q = by ms at (omega arith) e d.1 q

-- one more item by its number
pub one_more : (first : List ListItem) (numbers : List ℕ) (at n : ℕ) → at < length numbers → n ≡ get_or numbers at 0
    → items_with first (take (at + 1) numbers) ≡ items_with first (take at numbers) ++ item_with first n ∷ []
one_more first numbers at n h e = rw add-one (by numbers at h e)
  where
    by : (numbers : List ℕ) (at : ℕ) → at < length numbers → n ≡ get_or numbers at 0
        → items_with first (take (suc at) numbers) ≡ items_with first (take at numbers) ++ item_with first n ∷ []
    by [] at h e = absurd (omega arith)
    by (m ∷ ms) zero h e = ap (λ k. item_with first k ∷ []) (sym e)
    by (m ∷ ms) (suc at) h e = ap (λ is. item_with first m ∷ is) (by ms at (omega arith) e)

pub items_more : (first : List ListItem) (numbers : List ℕ) (at n : ℕ) (items items' : List ListItem) (x : ListItem) → at < length numbers
    → n ≡ get_or numbers at 0
    → items ≡ items_with first (take at numbers) → items' ≡ items ++ x ∷ [] → x ≡ item_with first n → items' ≡ items_with first (take (at + 1) numbers)
items_more first numbers at n items items' x h e i p q =
    p ∙ ap (λ is. is ++ x ∷ []) i ∙ ap (λ y. items_with first (take at numbers) ++ y ∷ []) q ∙ sym (one_more first numbers at n h e)

pub terms_more : (first : List ListItem) (numbers : List ℕ) (at n : ℕ) (terms terms' : List Term) (x : ListItem) → at < length numbers
    → n ≡ get_or numbers at 0
    → terms ≡ map (λ (i : ListItem). i.term) (items_with first (take at numbers)) → terms' ≡ terms ++ x.term ∷ [] → x ≡ item_with first n
    → terms' ≡ map (λ (i : ListItem). i.term) (items_with first (take (at + 1) numbers))
terms_more first numbers at n terms terms' x h e i p q =
    p
    ∙ ap (λ ts. ts ++ x.term ∷ []) i
    ∙ ap (λ (y : ListItem). map (λ (i : ListItem). i.term) (items_with first (take at numbers)) ++ y.term ∷ []) q
    ∙ sym (ap (map (λ (i : ListItem). i.term)) (one_more first numbers at n h e)
    ∙ map-append (λ (i : ListItem). i.term) (items_with first (take at numbers)) (item_with first n ∷ []))

-- at last all are taken
pub all_taken : (first : List ListItem) (numbers : List ℕ) (at : ℕ) → at ≡ length numbers → items_with first (take at numbers) ≡ items_with first numbers
all_taken first numbers at e = ap (λ n. items_with first (take n numbers)) e ∙ by numbers
  where
    by : (ns : List ℕ) → items_with first (take (length ns) ns) ≡ items_with first ns
    by [] = refl
    by (n ∷ ns) = ap (λ is. item_with first n ∷ is) (by ns)
