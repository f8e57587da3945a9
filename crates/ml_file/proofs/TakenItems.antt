-- What is left where an item was taken out.
use Rattle.std.proofs.Common.{◌≡◌, inl, inr, ℕ, ◌^◌, ◌+◌, ◌<◌, ◌≤◌, Bool, List, length, get_or, sym, ap, ◌∙◌, subst, arith}
use Rattle.std.specs.Prelude.{Contains, IsTrue}
use Rattle.std.specs.List.{All, remove}
use Rattle.std.proofs.lemmas.Bool.{cases_eq}
use Rattle.std.proofs.lemmas.List.{length-map}
use Rattle.std.proofs.lemmas.List.Edits.{length-remove}
use Rattle.std.proofs.lemmas.List.Elements.{All-contains, Contains-get_or}
use Rattle.ml_region.specs.Prefixes.{bits_at, IsOwner}
use Rattle.ml_region.specs.Regions.{Region, IsWellPlaced, items_at, keys_at, keys_of, region_prefixes, with_items}
use Rattle.ml_region.specs.Changes.{IsTaken}
use Rattle.ml_region.specs.declared.item.Item.{Item}
use Rattle.ml_region.proofs.ListInsertions.{in_remove, stays, moves}
use Rattle.ml_region.proofs.FoundItems.{key_of_item}
use Rattle.ml_region.proofs.OwnerSearch.{one_owner}
use Rattle.ml_region.proofs.PlacedRegions.{with_items_length, with_items_prefixes, items_same, items_other}
use Rattle.ml_key.specs.ItemKeys.{item_key}
use Rattle.ml_search.specs.Db.{is_allowed}
use Rattle.ml_term.specs.Seen.{seen}
use Rattle.ml_term.specs.declared.declaration.Decl.{Decl}
use Rattle.ml_split.proofs.RegionKeys.{rising_once}
use Rattle.ml_file.specs.Files.{items_in, IsAbsent, IsFile, IsRemoved}
use Rattle.ml_file.proofs.HeldItems.{LiesIn, item_lies, item_in, contains_key, taken_from}

-- the key of an element that was kept stood at another place
key_kept : (items : List Item) (j : ℕ) (x : Item) (key : List Bool) → j < length items → bits_at (keys_of items) j ≡ key → Contains (remove items j) x →
    x.key.bits ≡ key
    → (p : ℕ) × (p < length items) × (p ≡ j → ⊥) × (bits_at (keys_of items) p ≡ bits_at (keys_of items) j)
key_kept items j x key h at there is =
    let long : length (remove items j) + 1 ≡ length items = length-remove items j h in
    let within : there.0 < length (remove items j) = there.1 in
    elim (in_remove items j x there.0 h) [
      | stays l s ↦ (
        there.0,
        omega arith,
        (λ e. omega arith),
        key_of_item items there.0 x (omega arith) ∙ ap (λ (y : Item). y.key.bits) (sym s ∙ there.2) ∙ is ∙ sym at,
      )
      | moves l s ↦ (
        there.0 + 1,
        omega arith,
        (λ e. omega arith),
        key_of_item items (there.0 + 1) x (omega arith) ∙ ap (λ (y : Item). y.key.bits) (sym s ∙ there.2) ∙ is ∙ sym at,
      )
    ]

-- no other item has the key
pub gone_after : (old : List Region) (key : List Bool) (item : Item) (new : List Region) → IsWellPlaced old → IsTaken old key item new → IsAbsent new key
gone_after old key item new well taken p d l is =
    let x : Item = get_or (items_in new) p d in
    let r : ℕ = taken.found.region in
    let j : ℕ = taken.found.place in
    let items : List Item = items_at old r in
    let moved : List Region = with_items old r (remove items j) in
    let lies : LiesIn moved x = item_lies moved x (subst (λ rs. Contains (items_in rs) x) taken.same (Contains-get_or (items_in new) p d l)) in
    let at : bits_at (keys_of items) j ≡ key = key_of_item items j item taken.found.inside ∙ ap (λ (y : Item). y.key.bits) taken.found.same
    ∙ taken.found.key_is in
    elim (cases_eq lies.region r) [
      | inl e ↦
          let there : Contains (remove items j) x = subst (λ xs. Contains xs x) (items_same old r (remove items j) taken.found.within)
          (subst (λ k. Contains (items_at moved k) x) e lies.inside) in
          let other = key_kept items j x key taken.found.inside at there is in
          let many = length-map items (λ (y : Item). y.key.bits) in
          other.2 (rising_once (keys_of items) (well.ordered r taken.found.within) other.0 j (omega (arith, many, other.1))
          (omega (arith, many, taken.found.inside)) other.3)
      | inr d ↦
          let k : ℕ = lies.region in
          let within : k < length old = omega (arith, lies.within, with_items_length old r (remove items j)) in
          let there : Contains (items_at old k) x = subst (λ xs. Contains xs x) (items_other old r k (remove items j) d) lies.inside in
          let first : IsOwner (region_prefixes old) key k = well.owned k key within
          (subst (Contains (keys_at old k)) is (contains_key (items_at old k) x there)) in
          let mine : Contains (keys_at old r) key =
          subst (Contains (keys_at old r)) taken.found.key_is (contains_key items item (j, taken.found.inside, taken.found.same)) in
          d (one_owner (region_prefixes old) key k r well.rising first (well.owned r key taken.found.within mine))
    ]

pub removed_from : (old : List Region) (key : List Bool) (item : Item) (new : List Region) → IsWellPlaced old → IsTaken old key item new → IsRemoved old key new
removed_from old key item new well taken =
    record {
      item = item;
      held = record {
        inside = item_in old taken.found.region item taken.found.within (taken.found.place, taken.found.inside, taken.found.same);
        key_is =
            taken.found.key_is;
      };
      left = taken_from old key item new taken;
      gone = gone_after old key item new well taken;
      prefixes = ap region_prefixes taken.same ∙ with_items_prefixes old taken.found.region (remove (items_at old taken.found.region) taken.found.place);
    }

-- ---- what the file keeps

pub all_of : (P : Item → Type 0) (xs ys : List Item) → ((x : Item) → Contains ys x → Contains xs x) → All P xs → All P ys
all_of P xs ys part all k d l = All-contains P xs (get_or ys k d) all (part (get_or ys k d) (Contains-get_or ys k d l))

-- a file with fewer items is a file
pub file_less : (decl : Decl) (old new : List Region) (room : ℕ) → IsFile decl old room → ((x : Item) → Contains (items_in new) x → Contains (items_in old) x)
    → ((i : ℕ) → i < length new → length (items_at new i) ≤ 24) → IsFile decl new room
file_less decl old new room file part few =
    record {
      few = few;
      allowed = all_of (λ (x : Item). IsTrue (is_allowed decl (seen x.term))) (items_in old) (items_in new) part file.allowed;
      keyed = all_of (λ (x : Item). x.key.bits ≡ item_key decl.kind decl.keys (seen x.term) x.number) (items_in old) (items_in new) part file.keyed;
      numbers = λ kind x y a b e. file.numbers kind x y (part x a) (part y b) e;
      fit = all_of (λ (x : Item). x.number < 2 ^ 64) (items_in old) (items_in new) part file.fit;
      roomy = all_of (λ (x : Item). length x.key.bits ≤ room) (items_in old) (items_in new) part file.roomy;
    }

few_after : (old : List Region) (key : List Bool) (item : Item) (new : List Region) → IsTaken old key item new →
    ((i : ℕ) → i < length old → length (items_at old i) ≤ 24)
    → (i : ℕ) → i < length new → length (items_at new i) ≤ 24
few_after old key item new taken few i h =
    let r : ℕ = taken.found.region in
    let less : List Item = remove (items_at old r) taken.found.place in
    let within : i < length old = omega (arith, h, ap length taken.same, with_items_length old r less) in
    subst (λ rs. length (items_at rs i) ≤ 24) (sym taken.same)
    (elim (cases_eq i r) [
      | inl e ↦
          let at : items_at (with_items old r less) i ≡ less = ap (items_at (with_items old r less)) e ∙ items_same old r less taken.found.within in
          omega (arith, ap length at, length-remove (items_at old r) taken.found.place taken.found.inside, few r taken.found.within)
      | inr d ↦ omega (arith, ap length (items_other old r i less d), few i within)
    ])

pub file_after : (decl : Decl) (old : List Region) (key : List Bool) (item : Item) (new : List Region) (room : ℕ) → IsTaken old key item new →
    IsFile decl old room → IsFile decl new room
file_after decl old key item new room taken file =
    file_less decl old new room file (λ x there. (taken_from old key item new taken x).1 (inl there)) (few_after old key item new taken file.few)
