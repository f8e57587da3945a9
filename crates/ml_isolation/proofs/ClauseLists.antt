-- Lists of clauses in clause order: those put first by falling ids, and then the others by rising ones.
use Rattle.std.specs.Prelude.{◌≡◌, ℕ, zero, suc, ◌+◌, ◌<◌, Bool, true, false, ◌&&◌, ◌||◌, not, List, [], ◌∷◌, ◌++◌, map, take, drop, length}
use Rattle.std.specs.List.{filter, list_any}
use Rattle.std.proofs.Common.{refl, sym, ap, ◌∙◌, subst, arith}
use Rattle.std.proofs.lemmas.Bool.{and_parts, and_from, or_parts, or_from, not-true, not_from_false}
use Rattle.std.proofs.lemmas.List.{take-append-drop}
use Rattle.std.proofs.lemmas.List.Elements.{filter-append}
use Rattle.ml_term.specs.Keys.{numbers_from}
use Rattle.ml_search.specs.Db.{Id, Item, id_cmp, is_less, is_same_id, ids_rise, ids_fall, ids_differ, is_in_clause_order}
use Rattle.ml_isolation.proofs.Ordered.{Each, each_by, each_parts, Ordered, ordered_filter, ordered_and_one, chain, ordered_chain, chain_ordered}
use Rattle.ml_isolation.proofs.TermOrders.{id_total, less_through, later_differs, less_is_not_equal}

-- one item's id is before another's, or behind it
abbrev pub is_earlier : Item → Item → Bool
is_earlier i j = is_less (id_cmp i.id j.id)

abbrev pub IsEarlier : Item → Item → Type 0
IsEarlier i j = is_earlier i j ≡ true

abbrev pub is_later : Item → Item → Bool
is_later i j = is_less (id_cmp j.id i.id)

abbrev pub IsLater : Item → Item → Type 0
IsLater i j = is_later i j ≡ true

abbrev pub Differs : Item → Item → Type 0
Differs i j = is_same_id i.id j.id ≡ false

-- a list in clause order, by its two parts
pub record InClauseOrder (is : List Item) : Type 0 where
  pub fronts : List Item
  pub backs : List Item
  pub parts : is ≡ fronts ++ backs
  pub fall : Ordered IsLater fronts
  pub rise : Ordered IsEarlier backs
  pub differ : Ordered Differs is

rise_by_chain : (is : List Item) → ids_rise (map (λ i. i.id) is) ≡ chain is_earlier is
rise_by_chain [] = refl
rise_by_chain (i ∷ []) = refl
rise_by_chain (i ∷ j ∷ is) = rw (rise_by_chain (j ∷ is)) refl

fall_by_chain : (is : List Item) → ids_fall (map (λ i. i.id) is) ≡ chain is_later is
fall_by_chain [] = refl
fall_by_chain (i ∷ []) = refl
fall_by_chain (i ∷ j ∷ is) = rw (fall_by_chain (j ∷ is)) refl

earlier_through : (i j k : Item) → IsEarlier i j → IsEarlier j k → IsEarlier i k
earlier_through i j k = less_through id_cmp id_total i.id j.id k.id

later_through : (i j k : Item) → IsLater i j → IsLater j k → IsLater i k
later_through i j k p q = less_through id_cmp id_total k.id j.id i.id q p

-- ids that differ
none_same : (a : Id) (is : List Item) → list_any (is_same_id a) (map (λ i. i.id) is) ≡ false → Each (λ j. is_same_id a j.id ≡ false) is
none_same a [] h = tt
none_same a (i ∷ is) h = let p = or_parts (is_same_id a i.id) (list_any (is_same_id a) (map (λ i. i.id) is)) h in (p.0, none_same a is p.1)

no_same : (a : Id) (is : List Item) → Each (λ j. is_same_id a j.id ≡ false) is → list_any (is_same_id a) (map (λ i. i.id) is) ≡ false
no_same a [] e = refl
no_same a (i ∷ is) e = or_from (is_same_id a i.id) (list_any (is_same_id a) (map (λ i. i.id) is)) e.0 (no_same a is e.1)

differing : (is : List Item) → ids_differ (map (λ i. i.id) is) ≡ true → Ordered Differs is
differing [] h = tt
differing (i ∷ is) h =
    let p = and_parts (not (list_any (is_same_id i.id) (map (λ i. i.id) is))) (ids_differ (map (λ i. i.id) is)) h in
    (none_same i.id is (not-true _ p.0), differing is p.1)

all_differ : (is : List Item) → Ordered Differs is → ids_differ (map (λ i. i.id) is) ≡ true
all_differ [] o = refl
all_differ (i ∷ is) o = and_from _ _ (not_from_false _ (no_same i.id is o.0)) (all_differ is o.1)

-- a number that passes a test
some_number : (p : ℕ → Bool) (ns : List ℕ) → list_any p ns ≡ true → (n : ℕ) × (p n ≡ true)
some_number p [] h = absurd (cc h)
some_number p (n ∷ ns) h = tested (p n) refl (some_number p ns) h
  where
    tested : (b : Bool) → p n ≡ b → (list_any p ns ≡ true → (m : ℕ) × (p m ≡ true)) → (b || list_any p ns) ≡ true → (m : ℕ) × (p m ≡ true)
    tested true e further h = (n, e)
    tested false e further h = further h

or_later : (b c : Bool) → c ≡ true → (b || c) ≡ true
or_later true c h = refl
or_later false c h = h

or_first : (b c : Bool) → b ≡ true → (b || c) ≡ true
or_first true c h = refl
or_first false c h = absurd (cc h)

number_passes : (p : ℕ → Bool) (first n j : ℕ) → j < n → p (first + j) ≡ true → list_any p (numbers_from first n) ≡ true
number_passes p first zero j l h = absurd (omega (arith, l))
number_passes p first (suc n) zero l h =
    let e : first + 0 ≡ first = omega arith in or_first (p first) (list_any p (numbers_from (first + 1) n)) (subst (λ z. p z ≡ true) e h)
number_passes p first (suc n) (suc j) l h =
    let e : first + suc j ≡ (first + 1) + j = omega arith in
    or_later (p first) (list_any p (numbers_from (first + 1) n)) (number_passes p (first + 1) n j (omega (arith, l)) (subst (λ z. p z ≡ true) e h))

map_take : (n : ℕ) (is : List Item) → take n (map (λ i. i.id) is) ≡ map (λ i. i.id) (take n is)
map_take zero is = refl
map_take (suc n) [] = refl
map_take (suc n) (i ∷ is) = ap (λ z. i.id ∷ z) (map_take n is)

map_drop : (n : ℕ) (is : List Item) → drop n (map (λ i. i.id) is) ≡ map (λ i. i.id) (drop n is)
map_drop zero is = refl
map_drop (suc n) [] = refl
map_drop (suc n) (i ∷ is) = map_drop n is

-- the first part by its length, and the second
take_first : (is js : List Item) → take (length is) (map (λ i. i.id) (is ++ js)) ≡ map (λ i. i.id) is
take_first [] js = refl
take_first (i ∷ is) js = ap (λ z. i.id ∷ z) (take_first is js)

drop_first : (is js : List Item) → drop (length is) (map (λ i. i.id) (is ++ js)) ≡ map (λ i. i.id) js
drop_first [] js = refl
drop_first (i ∷ is) js = drop_first is js

longer : (is js : List Item) → length is < 1 + length (map (λ i. i.id) (is ++ js))
longer [] js = omega arith
longer (i ∷ is) js = omega (arith, longer is js)

pub ordered_clauses : (is : List Item) → is_in_clause_order (map (λ i. i.id) is) ≡ true → InClauseOrder is
ordered_clauses is h =
    let ids = map (λ i. i.id) is in
    let test : ℕ → Bool = λ n. ids_fall (take n ids) && ids_rise (drop n ids) in
    let p = and_parts (ids_differ ids) (list_any test (numbers_from 0 (1 + length ids))) h in
    let n = some_number test (numbers_from 0 (1 + length ids)) p.1 in
    let q = and_parts (ids_fall (take n.0 ids)) (ids_rise (drop n.0 ids)) n.1 in
    record {
      fronts = take n.0 is;
      backs = drop n.0 is;
      parts = sym (take-append-drop n.0 is);
      fall = ordered_chain is_later later_through (take n.0 is)
          (sym (fall_by_chain (take n.0 is)) ∙ (ap ids_fall (sym (map_take n.0 is)) ∙ q.0));
      rise = ordered_chain is_earlier earlier_through (drop n.0 is)
          (sym (rise_by_chain (drop n.0 is)) ∙ (ap ids_rise (sym (map_drop n.0 is)) ∙ q.1));
      differ = differing is p.0;
    }

two_parts : (fs bs : List Item) → Ordered IsLater fs → Ordered IsEarlier bs → Ordered Differs (fs ++ bs) →
    is_in_clause_order (map (λ i. i.id) (fs ++ bs)) ≡ true
two_parts fs bs f r d =
    let ids = map (λ i. i.id) (fs ++ bs) in
    let test : ℕ → Bool = λ n. ids_fall (take n ids) && ids_rise (drop n ids) in
    let falls : ids_fall (take (length fs) ids) ≡ true = ap ids_fall (take_first fs bs) ∙ (fall_by_chain fs ∙ chain_ordered is_later fs f) in
    let rises : ids_rise (drop (length fs) ids) ≡ true = ap ids_rise (drop_first fs bs) ∙ (rise_by_chain bs ∙ chain_ordered is_earlier bs r) in
    let e : length fs ≡ 0 + length fs = omega arith in
    and_from (ids_differ ids) (list_any test (numbers_from 0 (1 + length ids))) (all_differ (fs ++ bs) d)
    (number_passes test 0 (1 + length ids) (length fs) (longer fs bs) (subst (λ n. test n ≡ true) e (and_from _ _ falls rises)))

pub clauses_ordered : (is : List Item) → InClauseOrder is → is_in_clause_order (map (λ i. i.id) is) ≡ true
clauses_ordered is o =
    subst (λ z. is_in_clause_order (map (λ i. i.id) z) ≡ true) (sym o.parts)
    (two_parts o.fronts o.backs o.fall o.rise (subst (Ordered Differs) o.parts o.differ))

-- some of the clauses
pub clauses_filtered : (p : Item → Bool) (is : List Item) → InClauseOrder is → InClauseOrder (filter p is)
clauses_filtered p is o = record {
  fronts = filter p o.fronts;
  backs = filter p o.backs;
  parts = ap (filter p) o.parts ∙ filter-append p o.fronts o.backs;
  fall = ordered_filter IsLater p o.fronts o.fall;
  rise = ordered_filter IsEarlier p o.backs o.rise;
  differ = ordered_filter Differs p is o.differ;
}

-- a clause that is later than all others, put first or last
pub clause_first : (i : Item) (is : List Item) → InClauseOrder is → Each (IsLater i) is → InClauseOrder (i ∷ is)
clause_first i is o e = record {
  fronts = i ∷ o.fronts;
  backs = o.backs;
  parts = ap (λ z. i ∷ z) o.parts;
  fall = ((each_parts (IsLater i) o.fronts o.backs (subst (Each (IsLater i)) o.parts e)).0, o.fall);
  rise = o.rise;
  differ = (each_by (IsLater i) (Differs i) is (λ j h. later_differs id_cmp id_total i.id j.id h) e, o.differ);
}

append_one : (xs ys : List Item) (z : Item) → (xs ++ ys) ++ z ∷ [] ≡ xs ++ (ys ++ z ∷ [])
append_one [] ys z = refl
append_one (x ∷ xs) ys z = ap (λ w. x ∷ w) (append_one xs ys z)

pub clause_last : (i : Item) (is : List Item) → InClauseOrder is → Each (IsLater i) is → InClauseOrder (is ++ i ∷ [])
clause_last i is o e = record {
  fronts = o.fronts;
  backs = o.backs ++ i ∷ [];
  parts = ap (λ z. z ++ i ∷ []) o.parts ∙ append_one o.fronts o.backs i;
  fall = o.fall;
  rise = ordered_and_one IsEarlier o.backs i o.rise (each_parts (IsLater i) o.fronts o.backs (subst (Each (IsLater i)) o.parts e)).1;
  differ = ordered_and_one Differs is i o.differ (each_by (IsLater i) (λ j. Differs j i) is (λ j h. less_is_not_equal (id_cmp j.id i.id) h) e);
}

-- clauses with rising ids
pub rising_clauses : (is : List Item) → Ordered IsEarlier is → Ordered Differs is → InClauseOrder is
rising_clauses is r d = record { fronts = []; backs = is; parts = refl; fall = tt; rise = r; differ = d }
