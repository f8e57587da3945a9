-- The order of items is total, and a list that is sorted by it rises where no two items are equal in it.
use Rattle.std.proofs.Common.{◌≡◌, ◌≢◌, inl, inr, ℕ, ◌<◌, Bool, true, false, List, [], ◌∷◌, length, get_or, refl, sym, ap, ◌∙◌, subst, arith}
use Rattle.std.specs.Borrow.{Bor}
use Rattle.std.specs.List.{AllPairs, swap}
use Rattle.std.specs.List.Sorted.{IsPermutation, IsSortedBy}
use Rattle.std.specs.Cmp.{IsTotalOrder, IsStrictWeakOrder}
use Rattle.std.specs.Ordering.{nat_cmp, is_lt, ordering_reverse, ordering_then}
use Rattle.std.specs.FinMap.{nat_cmp-IsAntisymmetric}
use Rattle.std.specs.declared.cmp.Ordering.{Ordering}
use Rattle.std.specs.declared.cmp.Ordering.TheVariants.{Less, Equal, Greater}
use Rattle.std.proofs.lemmas.Bool.{cases_eq, cases_lt}
use Rattle.std.proofs.lemmas.List.{length-map, get_or-map}
use Rattle.std.proofs.lemmas.List.Edits.{length-swap, swapped_from_swap}
use Rattle.std.proofs.lemmas.List.Sorted.{ranks_by, sorted_far, IsPermutation-map, IsPermutation-sym, IsPermutation-keeps, Contains-permutation}
use Rattle.ml_bits.proofs.OrderLaws.{same_from_cmp}
use Rattle.ml_term.specs.declared.declaration.Kind.{Kind}
use Rattle.ml_term.specs.declared.declaration.Kind.TheVariants.{Relation, Clauses}
use Rattle.ml_region.specs.declared.item.Item.{Item}
use Rattle.ml_file.specs.Hits.{borrowed_items}
use Rattle.ml_file.specs.PlainList.{front_cmp, back_cmp, by_front, item_cmp, IsListOf}
use Rattle.ml_file.proofs.ItemOrders.{front_total, back_order, key_total, item_through}

-- ---- a total order

front_turned : (p q : Bool) (f a g b : Ordering) → f ≡ ordering_reverse g → a ≡ ordering_reverse b → by_front p q f a ≡ ordering_reverse (by_front q p g b)
front_turned true true f a g b first second = first
front_turned true false f a g b first second = refl
front_turned false true f a g b first second = refl
front_turned false false f a g b first second = second

front_same : (p q r : Bool) (f a g b h c : Ordering) → (f ≡ Equal → g ≡ h) → (a ≡ Equal → b ≡ c) → by_front p q f a ≡ Equal →
    by_front p r g b ≡ by_front q r h c
front_same true true true f a g b h c first second s = first s
front_same true true false f a g b h c first second s = refl
front_same true false r f a g b h c first second s = absurd (cc s)
front_same false true r f a g b h c first second s = absurd (cc s)
front_same false false true f a g b h c first second s = refl
front_same false false false f a g b h c first second s = second s

clause_total : IsTotalOrder (item_cmp Clauses)
clause_total = record {
  antisymm = λ x y. front_turned x.front y.front (front_cmp x y) (back_cmp x y) (front_cmp y x) (back_cmp y x) (front_total.antisymm x y)
      (back_order.antisymm x y);
  trans = item_through Clauses;
  congr = λ x y z. front_same x.front y.front z.front (front_cmp x y) (back_cmp x y) (front_cmp x z) (back_cmp x z) (front_cmp y z) (back_cmp y z)
      (front_total.congr x y z) (back_order.congr x y z);
}

pub item_total : (kind : Kind) → IsTotalOrder (item_cmp kind)
item_total Relation = key_total
item_total Clauses = clause_total

-- ---- items that are equal in it

then_equal : (o r : Ordering) → ordering_then o r ≡ Equal → r ≡ Equal
then_equal Less r e = absurd (cc e)
then_equal Equal r e = e
then_equal Greater r e = absurd (cc e)

front_equal : (P : Type 0) (p q : Bool) (f a : Ordering) → (f ≡ Equal → P) → (a ≡ Equal → P) → by_front p q f a ≡ Equal → P
front_equal P true true f a first second s = first s
front_equal P true false f a first second s = absurd (cc s)
front_equal P false true f a first second s = absurd (cc s)
front_equal P false false f a first second s = second s

-- two tuples have one key, and two clauses one number
pub equal_keys : (x y : Item) → item_cmp Relation x y ≡ Equal → x.key.bits ≡ y.key.bits
equal_keys x y e = same_from_cmp x.key.bits y.key.bits e

pub equal_numbers : (x y : Item) → item_cmp Clauses x y ≡ Equal → x.number ≡ y.number
equal_numbers x y e =
    front_equal (x.number ≡ y.number) x.front y.front (front_cmp x y) (back_cmp x y)
    (λ s. nat_cmp-IsAntisymmetric x.number y.number (then_equal _ (nat_cmp x.number y.number) s))
    (λ s. nat_cmp-IsAntisymmetric x.number y.number (then_equal _ (nat_cmp x.number y.number) s)) e

-- ---- what a sort leaves

-- the elements at any two places are related
abbrev AllApart : {X : Type 0} → (X → X → Type 0) → List X → Type 0
AllApart {X} R xs = (i j : ℕ) (d : X) → i < length xs → j < length xs → i ≢ j → R (get_or xs i d) (get_or xs j d)

apart_swapped : {X : Type 0} (R : X → X → Type 0) (xs : List X) (a b : ℕ) → a < length xs → b < length xs → AllApart R xs → AllApart R (swap xs a b)
apart_swapped {X} R xs a b h k apart i j d l m n =
    let ys : List X = swap xs a b in
    let long : length ys ≡ length xs = length-swap xs a b in
    let at = swapped_from_swap xs ys a b d h k refl in
    let here : i < length xs = omega (arith, l, long) in
    let there : j < length xs = omega (arith, m, long) in
    let carry : (s t : ℕ) → get_or ys i d ≡ get_or xs s d → get_or ys j d ≡ get_or xs t d → s < length xs → t < length xs → s ≢ t →
    R (get_or ys i d) (get_or ys j d) =
    λ s t e f p q o. subst (λ x. R x (get_or ys j d)) (sym e) (subst (R (get_or xs s d)) (sym f) (apart s t d p q o)) in
    let first : (s : ℕ) → s ≡ a → get_or ys s d ≡ get_or xs b d = λ s e. ap (λ r. get_or ys r d) e ∙ at.0 in
    let second : (s : ℕ) → s ≡ b → get_or ys s d ≡ get_or xs a d = λ s e. ap (λ r. get_or ys r d) e ∙ at.1 in
    elim (cases_eq i a) [
      | inl e ↦ elim (cases_eq j b) [
        | inl f ↦ carry b a (first i e) (second j f) k h (λ o. n (e ∙ sym o ∙ sym f))
        | inr f ↦ carry b j (first i e) (at.2 j (λ o. n (e ∙ sym o)) f) k there (λ o. f (sym o))
      ]
      | inr e ↦ elim (cases_eq i b) [
        | inl f ↦ elim (cases_eq j a) [
          | inl g ↦ carry a b (second i f) (first j g) h k (λ o. n (f ∙ sym o ∙ sym g))
          | inr g ↦ carry a j (second i f) (at.2 j g (λ o. n (f ∙ sym o))) h there (λ o. g (sym o))
        ]
        | inr f ↦ elim (cases_eq j a) [
          | inl g ↦ carry i b (at.2 i e f) (first j g) here k f
          | inr g ↦ elim (cases_eq j b) [
            | inl o ↦ carry i a (at.2 i e f) (second j o) here h e
            | inr o ↦ carry i j (at.2 i e f) (at.2 j g o) here there n
          ]
        ]
      ]
    ]

apart_from_pairs : {X : Type 0} (R : X → X → Type 0) → ((x y : X) → R x y → R y x) → (xs : List X) → AllPairs R xs → AllApart R xs
apart_from_pairs R turned xs pairs i j d h k n =
    elim (cases_lt i j) [
      | inl l ↦ pairs i j d l k
      | inr l ↦ turned _ _ (pairs j i d (omega (arith, l, n)) h)
    ]

pub less_from : (o r : Ordering) → o ≡ ordering_reverse r → is_lt r ≡ false → (o ≢ Equal) → o ≡ Less
less_from o Less e h n = absurd (cc h)
less_from o Equal e h n = absurd (n e)
less_from o Greater e h n = e

some : {X : Type 0} (xs : List X) → 0 < length xs → X
some [] h = absurd (omega arith)
some (x ∷ xs) h = x

-- whether an item goes before another one
abbrev pub goes_before : Kind → Bor Item → Bor Item → Bool
goes_before kind x y = is_lt (item_cmp kind x.now y.now)

pub goes_in_order : (kind : Kind) → IsStrictWeakOrder (goes_before kind)
goes_in_order kind = ranks_by (item_total kind) (λ (x : Bor Item). x.now)

-- a sorted permutation of different items is their list
pub sorted_list : (kind : Kind) (xs ys : List (Bor Item)) → AllPairs (λ a b. item_cmp kind a b ≢ Equal) (borrowed_items xs) → IsPermutation xs ys →
    IsSortedBy (goes_before kind) ys
    → IsListOf kind (borrowed_items xs) (borrowed_items ys)
sorted_list kind xs ys pairs moved sorted =
    let items : List Item = borrowed_items xs in
    let list : List Item = borrowed_items ys in
    let carried : IsPermutation items list = IsPermutation-map (λ (x : Bor Item). x.now) xs ys moved in
    let R : Item → Item → Type 0 = λ a b. item_cmp kind a b ≢ Equal in
    let turned : (x y : Item) → R x y → R y x = λ x y n e. n ((item_total kind).antisymm x y ∙ ap ordering_reverse e) in
    let apart : AllApart R list =
    IsPermutation-keeps items (AllApart R) (apart_from_pairs R turned items pairs) (λ l i j h k a. apart_swapped R l i j h k a) list carried in
    let back : IsPermutation list items = IsPermutation-sym items list carried in
    record {
      holds = λ x. (Contains-permutation items list x carried, Contains-permutation list items x back);
      rises = λ i j d l h. rise i j d l h apart;
    }
  where
    rise : (i j : ℕ) (d : Item) → i < j → j < length (borrowed_items ys) → AllApart (λ a b. item_cmp kind a b ≢ Equal) (borrowed_items ys) →
        item_cmp kind (get_or (borrowed_items ys) i d) (get_or (borrowed_items ys) j d) ≡ Less
    rise i j d l h apart =
        let long = length-map ys (λ (x : Bor Item). x.now) in
        let e : Bor Item = some ys (omega (arith, h, long)) in
        let first : get_or (borrowed_items ys) i d ≡ (get_or ys i e).now = get_or-map (λ (x : Bor Item). x.now) ys i e d (omega (arith, l, h, long)) in
        let second : get_or (borrowed_items ys) j d ≡ (get_or ys j e).now = get_or-map (λ (x : Bor Item). x.now) ys j e d (omega (arith, h, long)) in
        let before : is_lt (item_cmp kind (get_or ys j e).now (get_or ys i e).now) ≡ false =
        sorted_far (goes_before kind) (goes_in_order kind) ys sorted i j e (omega (arith, l)) (omega (arith, h, long)) in
        let turned : is_lt (item_cmp kind (get_or (borrowed_items ys) j d) (get_or (borrowed_items ys) i d)) ≡ false =
        subst (λ x. is_lt (item_cmp kind (get_or (borrowed_items ys) j d) x) ≡ false) (sym first)
        (subst (λ x. is_lt (item_cmp kind x (get_or ys i e).now) ≡ false) (sym second) before) in
        less_from (item_cmp kind (get_or (borrowed_items ys) i d) (get_or (borrowed_items ys) j d))
        (item_cmp kind (get_or (borrowed_items ys) j d) (get_or (borrowed_items ys) i d))
        ((item_total kind).antisymm (get_or (borrowed_items ys) i d) (get_or (borrowed_items ys) j d)) turned
        (apart i j d (omega (arith, l, h)) h (λ s. omega (arith, s, l)))
