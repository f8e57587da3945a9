-- What an insert and a removal are on the plain list, and that the items of a file have one.
use Rattle.std.proofs.Common.{◌≡◌, ◌≢◌, ◌⊎◌, inl, inr, ℕ, Bool, true, false, cond, not, List, [], ◌∷◌, ◌++◌, get_or, refl, sym, ap, ◌∙◌, subst, arith}
use Rattle.std.specs.Prelude.{Contains}
use Rattle.std.specs.List.{All, AllPairs, filter}
use Rattle.std.specs.Ordering.{is_lt, ordering_reverse}
use Rattle.std.specs.declared.cmp.Ordering.{Ordering}
use Rattle.std.specs.declared.cmp.Ordering.TheVariants.{Less, Equal, Greater}
use Rattle.std.proofs.lemmas.Bool.{both_ways, cond-false, cond-true, false_from_ne_true, not-true, not_from_false}
use Rattle.std.proofs.lemmas.List.Elements.{All-contains, All-tail, Contains-get_or}
use Rattle.std.proofs.lemmas.List.Kept.{AllPairs-cons, AllPairs-filter}
use Rattle.ml_term.specs.Patterns.{same_bits}
use Rattle.ml_term.proofs.KeyColumns.{same_bits_itself, same_bits_equal}
use Rattle.ml_term.specs.declared.declaration.Decl.{Decl}
use Rattle.ml_term.specs.declared.declaration.Kind.{Kind}
use Rattle.ml_term.specs.declared.declaration.Kind.TheVariants.{Relation, Clauses}
use Rattle.ml_region.specs.Regions.{Region, IsWellPlaced}
use Rattle.ml_region.specs.declared.item.Item.{Item}
use Rattle.ml_file.specs.Adding.{IsAdded}
use Rattle.ml_file.specs.Files.{items_in, IsAbsent, IsFile, IsHeld, IsRemoved}
use Rattle.ml_file.specs.ListSteps.{with_item, without_key}
use Rattle.ml_file.specs.PlainList.{item_cmp, IsListOf, IsWith}
use Rattle.ml_file.proofs.DifferingItems.{all_differ}
use Rattle.ml_file.proofs.ItemOrder.{equal_keys, equal_numbers, item_total, less_from}
use Rattle.ml_file.proofs.ItemOrders.{contains_cases, contains_first, contains_later, first_before, item_through, rest_rises}

all_where : {X : Type 0} (P : X → Type 0) (xs : List X) → ((x : X) → Contains xs x → P x) → All P xs
all_where P xs h k d l = h (get_or xs k d) (Contains-get_or xs k d l)

-- ---- an item at its place

abbrev IsBefore : Kind → Item → Item → Type 0
IsBefore kind a b = item_cmp kind a b ≡ Less

with_holds : (kind : Kind) (item : Item) (list : List Item) (z : Item) → Contains (with_item kind item list) z → Contains list z ⊎ (z ≡ item)
with_holds kind item [] z h = elim (contains_cases item z [] h) [ inl e ↦ inr (sym e) | inr there ↦ inl there ]
with_holds kind item (x ∷ list) z h = placed (is_lt (item_cmp kind item x)) (with_item kind item list) (with_holds kind item list z) h
  where
    placed : (b : Bool) (rest : List Item) → (Contains rest z → Contains list z ⊎ (z ≡ item)) → Contains (cond b (item ∷ x ∷ list) (x ∷ rest)) z →
        Contains (x ∷ list) z ⊎ (z ≡ item)
    placed true rest later h = elim (contains_cases item z (x ∷ list) h) [ inl e ↦ inr (sym e) | inr there ↦ inl there ]
    placed false rest later h = elim (contains_cases x z rest h) [
      | inl e ↦ inl (subst (Contains (x ∷ list)) e (contains_first x list))
      | inr there ↦ elim (later there) [ inl here ↦ inl (contains_later x z list here) | inr e ↦ inr e ]
    ]

with_has : (kind : Kind) (item : Item) (list : List Item) (z : Item) → Contains list z ⊎ (z ≡ item) → Contains (with_item kind item list) z
with_has kind item [] z either = elim either [
  | inl there ↦ absurd (omega (arith, there.1))
  | inr e ↦ subst (Contains (item ∷ [])) (sym e) (contains_first item [])
]
with_has kind item (x ∷ list) z either = placed (is_lt (item_cmp kind item x)) (with_item kind item list) (with_has kind item list z) either
  where
    placed : (b : Bool) (rest : List Item) → (Contains list z ⊎ (z ≡ item) → Contains rest z) → Contains (x ∷ list) z ⊎ (z ≡ item) →
        Contains (cond b (item ∷ x ∷ list) (x ∷ rest)) z
    placed true rest later either = elim either [
      | inl there ↦ contains_later item z (x ∷ list) there
      | inr e ↦ subst (Contains (item ∷ x ∷ list)) (sym e) (contains_first item (x ∷ list))
    ]
    placed false rest later either = elim either [
      | inl there ↦ elim (contains_cases x z list there) [
        | inl e ↦ subst (Contains (x ∷ rest)) e (contains_first x rest)
        | inr here ↦ contains_later x z rest (later (inl here))
      ]
      | inr e ↦ contains_later x z rest (later (inr e))
    ]

less_is : (o : Ordering) → is_lt o ≡ true → o ≡ Less
less_is Less h = refl
less_is Equal h = absurd (cc h)
less_is Greater h = absurd (cc h)

with_rises : (kind : Kind) (item : Item) (list : List Item) → AllPairs (IsBefore kind) list → ((x : Item) → Contains list x → item_cmp kind x item ≢ Equal)
    → AllPairs (IsBefore kind) (with_item kind item list)
with_rises kind item [] rises differ = λ i j d l h. absurd (omega (arith, l, h))
with_rises kind item (x ∷ list) rises differ =
    placed (is_lt (item_cmp kind item x)) refl (with_item kind item list) (with_holds kind item list)
    (with_rises kind item list (rest_rises (IsBefore kind) x list rises) (λ z here. differ z (contains_later x z list here)))
  where
    placed : (b : Bool) → is_lt (item_cmp kind item x) ≡ b → (rest : List Item) → ((z : Item) → Contains rest z → Contains list z ⊎ (z ≡ item)) →
        AllPairs (IsBefore kind) rest
        → AllPairs (IsBefore kind) (cond b (item ∷ x ∷ list) (x ∷ rest))
    placed true is rest holds up =
        let first : IsBefore kind item x = less_is (item_cmp kind item x) is in
        AllPairs-cons (IsBefore kind) item (x ∷ list)
        (all_where (IsBefore kind item) (x ∷ list) (λ z there. elim (contains_cases x z list there) [
          | inl e ↦ subst (IsBefore kind item) e first
          | inr here ↦ item_through kind item x z first (first_before (IsBefore kind) x list rises z here)
        ])) rises
    placed false is rest holds up =
        let first : IsBefore kind x item = less_from (item_cmp kind x item) (item_cmp kind item x) ((item_total kind).antisymm x item) is
        (differ x (contains_first x list)) in
        AllPairs-cons (IsBefore kind) x rest
        (all_where (IsBefore kind x) rest (λ z there. elim (holds z there) [
          | inl here ↦ first_before (IsBefore kind) x list rises z here
          | inr e ↦ subst (IsBefore kind x) (sym e) first
        ])) up

-- the plain list of items, one of which is new and equal to no other in their order
pub list_with : (kind : Kind) (before : List Item) (item : Item) (after list : List Item) → IsWith before item after →
    ((x : Item) → Contains before x → item_cmp kind x item ≢ Equal)
    → IsListOf kind before list → IsListOf kind after (with_item kind item list)
list_with kind before item after list more differ is =
    record {
      holds = λ x. (
        λ there. with_has kind item list x (elim ((more x).0 there) [ inl was ↦ inl ((is.holds x).0 was) | inr e ↦ inr e ]),
        λ there. (more x).1 (elim (with_holds kind item list x there) [ inl was ↦ inl ((is.holds x).1 was) | inr e ↦ inr e ]),
      );
      rises = with_rises kind item list is.rises (λ x there. differ x ((is.holds x).1 there));
    }

-- at the end and in front
pub with_last : (kind : Kind) (item : Item) (list : List Item) → All (λ x. item_cmp kind x item ≡ Less) list → with_item kind item list ≡ list ++ item ∷ []
with_last kind item [] all = refl
with_last kind item (x ∷ list) all =
    let later : item_cmp kind item x ≡ Greater = (item_total kind).antisymm item x ∙ ap ordering_reverse (all 0 x (omega arith)) in
    cond-false (is_lt (item_cmp kind item x)) (item ∷ x ∷ list) (x ∷ with_item kind item list) (ap is_lt later)
    ∙ ap (λ (rest : List Item). x ∷ rest) (with_last kind item list (All-tail (λ y. item_cmp kind y item ≡ Less) x list all))

pub with_first : (kind : Kind) (item : Item) (list : List Item) → All (λ x. item_cmp kind item x ≡ Less) list → with_item kind item list ≡ item ∷ list
with_first kind item [] all = refl
with_first kind item (x ∷ list) all = cond-true (is_lt (item_cmp kind item x)) (item ∷ x ∷ list) (x ∷ with_item kind item list)
    (ap is_lt (all 0 x (omega arith)))

-- ---- without a key

pub has_not : (x : Item) (key : List Bool) → not (same_bits x.key.bits key) ≡ true → x.key.bits ≢ key
has_not x key h e = both_ways (same_bits x.key.bits key) (not-true (same_bits x.key.bits key) h)
    (subst (λ k. same_bits x.key.bits k ≡ true) e (same_bits_itself x.key.bits))

pub is_not : (x : Item) (key : List Bool) → x.key.bits ≢ key → not (same_bits x.key.bits key) ≡ true
is_not x key d = not_from_false (same_bits x.key.bits key) (false_from_ne_true (same_bits x.key.bits key) (λ e. d (same_bits_equal x.key.bits key e)))

-- what a filter keeps
pub kept_from : (test : Item → Bool) (list : List Item) (z : Item) → Contains (filter test list) z → Contains list z × (test z ≡ true)
kept_from test [] z h = absurd (omega (arith, h.1))
kept_from test (x ∷ list) z h = tested (test x) refl (filter test list) (kept_from test list z) h
  where
    tested : (b : Bool) → test x ≡ b → (rest : List Item) → (Contains rest z → Contains list z × (test z ≡ true)) → Contains (cond b (x ∷ rest) rest) z →
        Contains (x ∷ list) z × (test z ≡ true)
    tested true is rest later h = elim (contains_cases x z rest h) [
      | inl e ↦ (subst (Contains (x ∷ list)) e (contains_first x list), subst (λ y. test y ≡ true) e is)
      | inr there ↦ let k = later there in (contains_later x z list k.0, k.1)
    ]
    tested false is rest later h = let k = later h in (contains_later x z list k.0, k.1)

pub kept_in : (test : Item → Bool) (list : List Item) (z : Item) → Contains list z → test z ≡ true → Contains (filter test list) z
kept_in test [] z h t = absurd (omega (arith, h.1))
kept_in test (x ∷ list) z h t = tested (test x) refl (filter test list) (λ there. kept_in test list z there t)
  where
    tested : (b : Bool) → test x ≡ b → (rest : List Item) → (Contains list z → Contains rest z) → Contains (cond b (x ∷ rest) rest) z
    tested true is rest later = elim (contains_cases x z list h) [
      | inl e ↦ subst (Contains (x ∷ rest)) e (contains_first x rest)
      | inr there ↦ contains_later x z rest (later there)
    ]
    tested false is rest later = elim (contains_cases x z list h) [
      | inl e ↦ absurd (both_ways (test x) is (subst (λ y. test y ≡ true) (sym e) t))
      | inr there ↦ later there
    ]

-- the plain list of items, of which the one with a key went
pub list_without : (kind : Kind) (before : List Item) (item : Item) (after list : List Item) → IsWith after item before →
    All (λ (x : Item). x.key.bits ≢ item.key.bits) after
    → IsListOf kind before list → IsListOf kind after (without_key item.key.bits list)
list_without kind before item after list more gone is =
    let test : Item → Bool = λ (x : Item). not (same_bits x.key.bits item.key.bits) in
    record {
      holds = λ x. (
        λ there. kept_in test list x ((is.holds x).0 ((more x).1 (inl there)))
            (is_not x item.key.bits (All-contains (λ (y : Item). y.key.bits ≢ item.key.bits) after x gone there)),
        λ there.
            let kept : Contains list x × (test x ≡ true) = kept_from test list x there in
            elim ((more x).0 ((is.holds x).1 kept.0)) [
              | inl was ↦ was
              | inr e ↦ absurd (has_not x item.key.bits kept.1 (ap (λ (y : Item). y.key.bits) e))
            ],
      );
      rises = AllPairs-filter (IsBefore kind) test list is.rises;
    }

-- ---- an insert

-- an item with a key and a number of its own is equal to no other
pub own_place : (kind : Kind) (items : List Item) (item : Item) → All (λ (x : Item). x.key.bits ≢ item.key.bits) items →
    (kind ≡ Clauses → All (λ (x : Item). x.number ≢ item.number) items)
    → (x : Item) → Contains items x → item_cmp kind x item ≢ Equal
own_place Relation items item absent numbered x there e = All-contains (λ (y : Item). y.key.bits ≢ item.key.bits) items x absent there (equal_keys x item e)
own_place Clauses items item absent numbered x there e =
    All-contains (λ (y : Item). y.number ≢ item.number) items x (numbered refl) there (equal_numbers x item e)

pub added_list : (kind : Kind) (old new : List Region) (item : Item) (list : List Item) → IsAdded old item new →
    (kind ≡ Clauses → All (λ (x : Item). x.number ≢ item.number) (items_in old))
    → IsListOf kind (items_in old) list → IsListOf kind (items_in new) (with_item kind item list)
added_list kind old new item list added numbered is =
    list_with kind (items_in old) item (items_in new) list added.more (own_place kind (items_in old) item added.absent numbered) is

pub unadded_list : (kind : Kind) (old new : List Region) (item : Item) (list : List Item) → IsAdded old item new → IsListOf kind (items_in new) list
    → IsListOf kind (items_in old) (without_key item.key.bits list)
unadded_list kind old new item list added is = list_without kind (items_in new) item (items_in old) list added.more added.absent is

-- ---- a removal

pub removed_list : (kind : Kind) (old : List Region) (key : List Bool) (new : List Region) (list : List Item) → IsRemoved old key new →
    IsListOf kind (items_in old) list
    → IsListOf kind (items_in new) (without_key key list)
removed_list kind old key new list removed is =
    let item : Item = removed.item in
    let same : item.key.bits ≡ key = removed.held.key_is in
    subst (λ k. IsListOf kind (items_in new) (without_key k list)) same
    (list_without kind (items_in old) item (items_in new) list removed.left
    (subst (λ k. All (λ (x : Item). x.key.bits ≢ k) (items_in new)) (sym same) removed.gone) is)

pub unremoved_list : (kind : Kind) (old : List Region) (key : List Bool) (new : List Region) (list : List Item) → (removed : IsRemoved old key new)
    → (kind ≡ Clauses → All (λ (x : Item). x.number ≢ removed.item.number) (items_in new)) → IsListOf kind (items_in new) list
    → IsListOf kind (items_in old) (with_item kind removed.item list)
unremoved_list kind old key new list removed numbered is =
    let item : Item = removed.item in
    list_with kind (items_in new) item (items_in old) list removed.left
    (own_place kind (items_in new) item (subst (λ k. All (λ (x : Item). x.key.bits ≢ k) (items_in new)) (sym removed.held.key_is) removed.gone) numbered) is

-- ---- a look

pub held_list : (kind : Kind) (regions : List Region) (key : List Bool) (x : Item) (list : List Item) → IsListOf kind (items_in regions) list →
    IsHeld regions key x
    → Contains list x × (x.key.bits ≡ key)
held_list kind regions key x list is held = ((is.holds x).0 held.inside, held.key_is)

pub absent_list : (kind : Kind) (regions : List Region) (key : List Bool) (list : List Item) → IsListOf kind (items_in regions) list → IsAbsent regions key
    → All (λ (x : Item). x.key.bits ≢ key) list
absent_list kind regions key list is absent =
    all_where (λ (x : Item). x.key.bits ≢ key) list (λ x there.
    All-contains (λ (y : Item). y.key.bits ≢ key) (items_in regions) x absent ((is.holds x).1 there))

-- ---- items have a list

items_listed : (kind : Kind) (items : List Item) → AllPairs (λ a b. item_cmp kind a b ≢ Equal) items → (list : List Item) × IsListOf kind items list
items_listed kind [] differ = ([], record { holds = λ x. (λ h. h, λ h. h); rises = λ i j d l h. absurd (omega (arith, l, h)) })
items_listed kind (x ∷ items) differ =
    let rest : (list : List Item) × IsListOf kind items list = items_listed kind items (rest_rises (λ a b. item_cmp kind a b ≢ Equal) x items differ) in
    let more : IsWith items x (x ∷ items) = λ z. (
      λ there. elim (contains_cases x z items there) [ inl e ↦ inr (sym e) | inr here ↦ inl here ],
      λ either. elim either [ inl here ↦ contains_later x z items here | inr e ↦ subst (Contains (x ∷ items)) (sym e) (contains_first x items) ],
    ) in
    let apart : (z : Item) → Contains items z → item_cmp kind z x ≢ Equal = λ z here e.
    first_before (λ a b. item_cmp kind a b ≢ Equal) x items differ z here ((item_total kind).antisymm x z ∙ ap ordering_reverse e) in
    (with_item kind x rest.0, list_with kind items x (x ∷ items) rest.0 more apart rest.1)

pub file_listed : (decl : Decl) (regions : List Region) (room : ℕ) → IsWellPlaced regions → IsFile decl regions room →
    (list : List Item) × IsListOf decl.kind (items_in regions) list
file_listed decl regions room well file = items_listed decl.kind (items_in regions) (all_differ decl regions room well file)
