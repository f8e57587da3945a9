-- The items of a file differ: no two have one key, and so no two are equal in their order.
use Rattle.std.proofs.Common.{◌≡◌, ◌≢◌, inl, inr, ℕ, suc, ◌<◌, Bool, List, [], ◌∷◌, ◌++◌, length, get_or, refl, sym, ap, ◌∙◌, subst, arith}
use Rattle.std.specs.Prelude.{Contains}
use Rattle.std.specs.List.{All, AllPairs, filter}
use Rattle.std.specs.declared.cmp.Ordering.TheVariants.{Equal}
use Rattle.std.proofs.lemmas.List.{length-map}
use Rattle.std.proofs.lemmas.List.Elements.{Contains-append_cases, Contains-get_or}
use Rattle.std.proofs.lemmas.List.Kept.{AllPairs-cons, AllPairs-filter}
use Rattle.ml_term.specs.declared.declaration.Decl.{Decl}
use Rattle.ml_term.specs.declared.declaration.Kind.{Kind}
use Rattle.ml_term.specs.declared.declaration.Kind.TheVariants.{Relation, Clauses}
use Rattle.ml_region.specs.Regions.{Region, IsWellPlaced, items_at, keys_at, keys_of, region_prefixes}
use Rattle.ml_region.specs.declared.item.Item.{Item}
use Rattle.ml_region.proofs.FoundItems.{key_of_item}
use Rattle.ml_region.proofs.OwnerSearch.{one_owner}
use Rattle.ml_split.proofs.RegionKeys.{rising_once}
use Rattle.ml_file.specs.Files.{items_in, IsFile}
use Rattle.ml_file.specs.PlainList.{item_cmp}
use Rattle.ml_file.proofs.HeldItems.{LiesIn, item_lies, contains_key}
use Rattle.ml_file.proofs.ItemOrders.{first_before, rest_rises}
use Rattle.ml_file.proofs.ItemOrder.{equal_keys, equal_numbers}

-- two items have different keys
abbrev pub DifferByKey : Item → Item → Type 0
DifferByKey x y = x.key.bits ≢ y.key.bits

-- pairs of a joined list
pairs_append : {X : Type 0} (R : X → X → Type 0) (xs ys : List X) → AllPairs R xs → AllPairs R ys → ((x y : X) → Contains xs x → Contains ys y → R x y) →
    AllPairs R (xs ++ ys)
pairs_append R [] ys first second across = second
pairs_append {X} R (x ∷ xs) ys first second across =
    let head : All (R x) (xs ++ ys) = λ k d l.
    elim (Contains-append_cases xs ys (get_or (xs ++ ys) k d) (Contains-get_or (xs ++ ys) k d l)) [
      | inl here ↦ first_before R x xs first (get_or (xs ++ ys) k d) here
      | inr there ↦ across x (get_or (xs ++ ys) k d) (0, omega arith, refl) there
    ] in
    AllPairs-cons R x (xs ++ ys) head
    (pairs_append R xs ys (rest_rises R x xs first) second (λ a b here there. across a b (suc here.0, omega (arith, here.1), here.2) there))

-- items of different regions have different keys, and so have those at different places of one region
pairs_from : (regions : List Region) → ((i : ℕ) → i < length regions → AllPairs DifferByKey (items_at regions i))
    → ((i j : ℕ) (x y : Item) → i < j → j < length regions → Contains (items_at regions i) x → Contains (items_at regions j) y → DifferByKey x y)
    → AllPairs DifferByKey (items_in regions)
pairs_from [] within across = λ i j d l h. absurd (omega (arith, h))
pairs_from (r ∷ rs) within across =
    pairs_append DifferByKey r.items (items_in rs) (within 0 (omega arith))
    (pairs_from rs (λ i h. within (suc i) (omega (arith, h))) (λ i j x y l h a b. across (suc i) (suc j) x y (omega (arith, l)) (omega (arith, h)) a b))
    (λ x y a b.
    let lies : LiesIn rs y = item_lies rs y b in
    across 0 (suc lies.region) x y (omega arith) (omega (arith, lies.within)) a lies.inside)

pub items_differ : (regions : List Region) → IsWellPlaced regions → AllPairs DifferByKey (items_in regions)
items_differ regions well = pairs_from regions inside across
  where
    inside : (i : ℕ) → i < length regions → AllPairs DifferByKey (items_at regions i)
    inside i h j k d l m e =
        let items : List Item = items_at regions i in
        let many = length-map items (λ (y : Item). y.key.bits) in
        let same : j ≡ k =
        rising_once (keys_of items) (well.ordered i h) j k (omega (arith, many, l, m)) (omega (arith, many, m))
        (key_of_item items j d (omega (arith, l, m)) ∙ e ∙ sym (key_of_item items k d m)) in
        omega (arith, same, l)

    across : (i j : ℕ) (x y : Item) → i < j → j < length regions → Contains (items_at regions i) x → Contains (items_at regions j) y → DifferByKey x y
    across i j x y l h a b e =
        let first = well.owned i x.key.bits (omega (arith, l, h)) (contains_key (items_at regions i) x a) in
        let second = well.owned j x.key.bits h (subst (Contains (keys_at regions j)) (sym e) (contains_key (items_at regions j) y b)) in
        let same : i ≡ j = one_owner (region_prefixes regions) x.key.bits i j well.rising first second in
        omega (arith, same, l)

-- and so no two of them are equal in the order of items
pub all_differ : (decl : Decl) (regions : List Region) (room : ℕ) → IsWellPlaced regions → IsFile decl regions room →
    AllPairs (λ a b. item_cmp decl.kind a b ≢ Equal) (items_in regions)
all_differ decl regions room well file i j d l h =
    let items : List Item = items_in regions in
    let x : Item = get_or items i d in
    let y : Item = get_or items j d in
    differ x y (Contains-get_or items i d (omega (arith, l, h))) (Contains-get_or items j d h) (items_differ regions well i j d l h) decl.kind refl
  where
    differ : (x y : Item) → Contains (items_in regions) x → Contains (items_in regions) y → DifferByKey x y → (kind : Kind) → decl.kind ≡ kind →
        item_cmp kind x y ≢ Equal
    differ x y a b apart Relation is e = apart (equal_keys x y e)
    differ x y a b apart Clauses is e = apart (ap (λ (z : Item). z.key.bits) (file.numbers is x y a b (equal_numbers x y e)))

-- nor are two of some of them
pub some_differ : (decl : Decl) (regions : List Region) (room : ℕ) (test : Item → Bool) → IsWellPlaced regions → IsFile decl regions room
    → AllPairs (λ a b. item_cmp decl.kind a b ≢ Equal) (filter test (items_in regions))
some_differ decl regions room test well file =
    AllPairs-filter (λ a b. item_cmp decl.kind a b ≢ Equal) test (items_in regions) (all_differ decl regions room well file)
