-- The order of items, and lists that rise in an order.
use Rattle.std.proofs.Common.{◌≡◌, ◌⊎◌, inl, inr, ℕ, zero, suc, ◌<◌, Bool, true, false, List, [], ◌∷◌, length, get_or, refl, sym, ap, ◌∙◌, subst, arith}
use Rattle.std.specs.Prelude.{Contains}
use Rattle.std.specs.List.{AllPairs}
use Rattle.std.specs.Cmp.{IsTotalOrder, bool_cmp_total, nat_cmp_total, on_total, back_total, then_total}
use Rattle.std.specs.Cmp.Lexicographic.{lists_total}
use Rattle.std.specs.Ordering.{nat_cmp, ordering_reverse}
use Rattle.std.specs.declared.cmp.Ordering.{Ordering}
use Rattle.std.specs.declared.cmp.Ordering.TheVariants.{Less, Greater}
use Rattle.ml_term.specs.declared.declaration.Kind.{Kind}
use Rattle.ml_term.specs.declared.declaration.Kind.TheVariants.{Relation, Clauses}
use Rattle.ml_region.specs.declared.item.Id.{Id}
use Rattle.ml_region.specs.declared.item.Item.{Item}
use Rattle.ml_file.specs.PlainList.{id_cmp, front_cmp, back_cmp, by_front, item_cmp, IsListOf}

-- ---- the orders

-- nothing is before itself
itself : {X : Type 0} (R : X → X → Ordering) → IsTotalOrder R → (x : X) → R x x ≡ Less → ⊥
itself R order x h =
    let both : Less ≡ Greater = sym h ∙ order.antisymm x x ∙ ap ordering_reverse h in
    cc both

id_total : IsTotalOrder id_cmp
id_total = then_total (on_total (λ (a : Id). a.place) nat_cmp_total) (on_total (λ (a : Id). a.change) nat_cmp_total)

number_total : IsTotalOrder (λ (a : Item) (b : Item). nat_cmp a.number b.number)
number_total = on_total (λ (a : Item). a.number) nat_cmp_total

pub front_total : IsTotalOrder front_cmp
front_total = then_total (back_total (on_total (λ (a : Item). a.id) id_total)) number_total

pub back_order : IsTotalOrder back_cmp
back_order = then_total (on_total (λ (a : Item). a.id) id_total) number_total

pub key_total : IsTotalOrder (item_cmp Relation)
key_total = on_total (λ (a : Item). a.key.bits) (lists_total bool_cmp_total)

front_through : (p q r : Bool) (f g h a b c : Ordering) → (f ≡ Less → g ≡ Less → h ≡ Less) → (a ≡ Less → b ≡ Less → c ≡ Less)
    → by_front p q f a ≡ Less → by_front q r g b ≡ Less → by_front p r h c ≡ Less
front_through true true true f g h a b c first second s t = first s t
front_through true true false f g h a b c first second s t = refl
front_through true false true f g h a b c first second s t = absurd (cc t)
front_through true false false f g h a b c first second s t = refl
front_through false true r f g h a b c first second s t = absurd (cc s)
front_through false false true f g h a b c first second s t = absurd (cc t)
front_through false false false f g h a b c first second s t = second s t

front_itself : (p : Bool) (f a : Ordering) → (f ≡ Less → ⊥) → (a ≡ Less → ⊥) → by_front p p f a ≡ Less → ⊥
front_itself true f a first second s = first s
front_itself false f a first second s = second s

pub item_through : (kind : Kind) (x y z : Item) → item_cmp kind x y ≡ Less → item_cmp kind y z ≡ Less → item_cmp kind x z ≡ Less
item_through Relation x y z s t = key_total.trans x y z s t
item_through Clauses x y z s t =
    front_through x.front y.front z.front (front_cmp x y) (front_cmp y z) (front_cmp x z) (back_cmp x y) (back_cmp y z) (back_cmp x z)
    (front_total.trans x y z) (back_order.trans x y z) s t

pub item_itself : (kind : Kind) (x : Item) → item_cmp kind x x ≡ Less → ⊥
item_itself Relation x h = itself (item_cmp Relation) key_total x h
item_itself Clauses x h = front_itself x.front (front_cmp x x) (back_cmp x x) (itself front_cmp front_total x) (itself back_cmp back_order x) h

-- ---- lists that rise

contains_at : {X : Type 0} (x z : X) (xs : List X) (k : ℕ) → k < length (x ∷ xs) → get_or (x ∷ xs) k z ≡ z → (x ≡ z) ⊎ Contains xs z
contains_at x z xs zero l e = inl e
contains_at x z xs (suc k) l e = inr (k, omega arith, e)

pub contains_cases : {X : Type 0} (x z : X) (xs : List X) → Contains (x ∷ xs) z → (x ≡ z) ⊎ Contains xs z
contains_cases x z xs h = contains_at x z xs h.0 h.1 h.2

pub contains_first : {X : Type 0} (x : X) (xs : List X) → Contains (x ∷ xs) x
contains_first x xs = (0, omega arith, refl)

pub contains_later : {X : Type 0} (x z : X) (xs : List X) → Contains xs z → Contains (x ∷ xs) z
contains_later x z xs h = (suc h.0, omega (arith, h.1), h.2)

-- the first element is before all others
pub first_before : {X : Type 0} (R : X → X → Type 0) (x : X) (xs : List X) → AllPairs R (x ∷ xs) → (z : X) → Contains xs z → R x z
first_before R x xs pairs z h = subst (R x) h.2 (pairs 0 (suc h.0) z (omega arith) (omega (arith, h.1)))

pub rest_rises : {X : Type 0} (R : X → X → Type 0) (x : X) (xs : List X) → AllPairs R (x ∷ xs) → AllPairs R xs
rest_rises R x xs pairs i j d h l = pairs (suc i) (suc j) d (omega arith) (omega arith)

-- two lists that rise and have the same elements are the same
pub one_rising : {X : Type 0} (R : X → X → Type 0) → ((x : X) → R x x → ⊥) → ((x y z : X) → R x y → R y z → R x z) → (xs ys : List X) → AllPairs R xs →
    AllPairs R ys
    → ((z : X) → Contains xs z → Contains ys z) → ((z : X) → Contains ys z → Contains xs z) → xs ≡ ys
one_rising R irreflexive through [] [] p q to from = refl
one_rising R irreflexive through [] (y ∷ ys) p q to from = absurd (omega (arith, (from y (contains_first y ys)).1))
one_rising R irreflexive through (x ∷ xs) [] p q to from = absurd (omega (arith, (to x (contains_first x xs)).1))
one_rising R irreflexive through (x ∷ xs) (y ∷ ys) p q to from =
    let same : x ≡ y =
    elim (contains_cases y x ys (to x (contains_first x xs))) [
      | inl e ↦ sym e
      | inr there ↦ elim (contains_cases x y xs (from y (contains_first y ys))) [
        | inl e ↦ e
        | inr here ↦ absurd (irreflexive x (through x y x (first_before R x xs p y here) (first_before R y ys q x there)))
      ]
    ] in
    let rest_to : (z : _) → Contains xs z → Contains ys z = λ z h.
    elim (contains_cases y z ys (to z (contains_later x z xs h))) [
      | inl e ↦ absurd (irreflexive x (subst (R x) (sym (same ∙ e)) (first_before R x xs p z h)))
      | inr there ↦ there
    ] in
    let rest_from : (z : _) → Contains ys z → Contains xs z = λ z h.
    elim (contains_cases x z xs (from z (contains_later y z ys h))) [
      | inl e ↦ absurd (irreflexive y (subst (R y) (sym (sym same ∙ e)) (first_before R y ys q z h)))
      | inr here ↦ here
    ] in
    let rest : xs ≡ ys = one_rising R irreflexive through xs ys (rest_rises R x xs p) (rest_rises R y ys q) rest_to rest_from in
    cc (same, rest)

pub one_list : (kind : Kind) (items first second : List Item) → IsListOf kind items first → IsListOf kind items second → first ≡ second
one_list kind items first second a b =
    one_rising (λ x y. item_cmp kind x y ≡ Less) (item_itself kind) (item_through kind) first second a.rises b.rises
    (λ z h. (b.holds z).0 ((a.holds z).1 h)) (λ z h. (a.holds z).0 ((b.holds z).1 h))
