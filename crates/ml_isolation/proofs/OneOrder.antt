-- Two lists that rise strictly in one order and have the same elements are one list.
use Rattle.std.specs.Prelude.{◌≡◌, ◌↔◌, ℕ, zero, suc, true, List, [], ◌∷◌, Contains}
use Rattle.std.specs.List.{AllPairs}
use Rattle.std.specs.Cmp.{IsTotalOrder}
use Rattle.std.specs.Ordering.{ordering_reverse}
use Rattle.std.specs.declared.cmp.Ordering.{Ordering}
use Rattle.std.specs.declared.cmp.Ordering.TheVariants.{Less, Greater}
use Rattle.std.proofs.Common.{inl, inr, refl, sym, ap, ◌∙◌, subst, arith}
use Rattle.ml_term.specs.Tree.{Tree}
use Rattle.ml_term.specs.Keys.{tuple_cmp}
use Rattle.ml_search.specs.Db.{Item, rises, terms}
use Rattle.ml_isolation.proofs.Members.{contains_cases, contains_first, contains_later, holds_at}
use Rattle.ml_isolation.proofs.Ordered.{Ordered, ordered_weaker, ordered_map}
use Rattle.ml_isolation.proofs.TermOrders.{key_total, is_less_says}
use Rattle.ml_isolation.proofs.TupleLists.{IsBefore, rising_ordered}

itself : {X : Type 0} (R : X → X → Ordering) → IsTotalOrder R → (x : X) → R x x ≡ Less → ⊥
itself R order x h = let both : Less ≡ Greater = sym h ∙ (order.antisymm x x ∙ ap ordering_reverse h) in cc both

-- the first element is before all others
pub first_before : {X : Type 0} (R : X → X → Type 0) (x : X) (xs : List X) → AllPairs R (x ∷ xs) → (z : X) → Contains xs z → R x z
first_before R x xs pairs z h = subst (R x) h.2 (pairs 0 (suc h.0) z (omega arith) (omega (arith, h.1)))

pub rest_rises : {X : Type 0} (R : X → X → Type 0) (x : X) (xs : List X) → AllPairs R (x ∷ xs) → AllPairs R xs
rest_rises R x xs pairs i j d h l = pairs (suc i) (suc j) d (omega arith) (omega arith)

one_rising : {X : Type 0} (R : X → X → Type 0) → ((x : X) → R x x → ⊥) → ((x y z : X) → R x y → R y z → R x z) → (xs ys : List X) → AllPairs R xs →
    AllPairs R ys
    → ((z : X) → Contains xs z → Contains ys z) → ((z : X) → Contains ys z → Contains xs z) → xs ≡ ys
one_rising R irreflexive through [] [] p q to from = refl
one_rising R irreflexive through [] (y ∷ ys) p q to from = absurd (omega (arith, (from y (contains_first y ys)).1))
one_rising R irreflexive through (x ∷ xs) [] p q to from = absurd (omega (arith, (to x (contains_first x xs)).1))
one_rising R irreflexive through (x ∷ xs) (y ∷ ys) p q to from =
    let same : x ≡ y =
    elim (contains_cases y x ys (to x (contains_first x xs))) [
      | inl e ↦ sym e
      | inr there ↦ elim (contains_cases x y xs (from y (contains_first y ys))) [
        | inl e ↦ e
        | inr here ↦ absurd (irreflexive x (through x y x (first_before R x xs p y here) (first_before R y ys q x there)))
      ]
    ] in
    let rest_to : (z : _) → Contains xs z → Contains ys z = λ z h.
    elim (contains_cases y z ys (to z (contains_later x z xs h))) [
      | inl e ↦ absurd (irreflexive x (subst (R x) (sym (same ∙ e)) (first_before R x xs p z h)))
      | inr there ↦ there
    ] in
    let rest_from : (z : _) → Contains ys z → Contains xs z = λ z h.
    elim (contains_cases x z xs (from z (contains_later y z ys h))) [
      | inl e ↦ absurd (irreflexive y (subst (R y) (sym (sym same ∙ e)) (first_before R y ys q z h)))
      | inr here ↦ here
    ] in
    let rest : xs ≡ ys = one_rising R irreflexive through xs ys (rest_rises R x xs p) (rest_rises R y ys q) rest_to rest_from in
    cc (same, rest)

-- lists that rise in a total order
pub one_in_order : {X : Type 0} (cmp : X → X → Ordering) → IsTotalOrder cmp → (xs ys : List X) → AllPairs (λ x y. cmp x y ≡ Less) xs →
    AllPairs (λ x y. cmp x y ≡ Less) ys
    → ((z : X) → Contains xs z ↔ Contains ys z) → xs ≡ ys
one_in_order cmp total xs ys p q same =
    one_rising (λ x y. cmp x y ≡ Less) (itself cmp total) total.trans xs ys p q (λ z. (same z).0) (λ z. (same z).1)

-- pairs of a list in order
pub all_pairs : {X : Type 0} (R : X → X → Type 0) (xs : List X) → Ordered R xs → AllPairs R xs
all_pairs R [] o i j d h l = absurd (omega (arith, l))
all_pairs R (x ∷ xs) o zero zero d h l = absurd (omega (arith, h))
all_pairs R (x ∷ xs) o zero (suc j) d h l = holds_at (R x) xs j d (omega (arith, l)) o.0
all_pairs R (x ∷ xs) o (suc i) zero d h l = absurd (omega (arith, h))
all_pairs R (x ∷ xs) o (suc i) (suc j) d h l = all_pairs R xs o.1 i j d (omega (arith, h)) (omega (arith, l))

-- the tuples of a list, in the order of their keys
tuples_rise : (keys : List ℕ) (is : List Item) → rises keys is ≡ true → AllPairs (λ t u. tuple_cmp keys t u ≡ Less) (terms is)
tuples_rise keys is h =
    all_pairs (λ t u. tuple_cmp keys t u ≡ Less) (terms is)
    (ordered_map (λ i. i.term) (λ t u. tuple_cmp keys t u ≡ Less) is
    (ordered_weaker (IsBefore keys) (λ i j. tuple_cmp keys i.term j.term ≡ Less) is (λ i j r. is_less_says (tuple_cmp keys i.term j.term) r)
    (rising_ordered keys is h)))

pub tuples_are_one : (keys : List ℕ) (is js : List Item) → rises keys is ≡ true → rises keys js ≡ true →
    ((t : Tree) → Contains (terms is) t ↔ Contains (terms js) t)
    → terms is ≡ terms js
tuples_are_one keys is js h k same = one_in_order (tuple_cmp keys) (key_total keys) (terms is) (terms js) (tuples_rise keys is h) (tuples_rise keys js k) same
