-- What the items of a file are where one of them was marked.
use Rattle.std.proofs.Common.{◌≡◌, ◌⊎◌, inl, inr, ℕ, ◌<◌, ◌≤◌, Bool, List, length, get_or, set, sym, ap, ◌∙◌, subst, arith, ◌^◌}
use Rattle.std.specs.Prelude.{Contains, IsTrue, ◌≢◌}
use Rattle.std.specs.List.{All}
use Rattle.std.proofs.Math.ListN.{length-set}
use Rattle.std.proofs.lemmas.Bool.{cases_eq}
use Rattle.std.proofs.lemmas.List.{length-map, get_or_default, get_or-set_same, get_or-set_other}
use Rattle.std.proofs.lemmas.List.Elements.{All-contains, Contains-get_or}
use Rattle.ml_region.specs.Prefixes.{bits_at, IsOwner}
use Rattle.ml_region.specs.Regions.{Region, IsWellPlaced, items_at, keys_at, keys_of, region_prefixes, with_items, IsFound, HasKey}
use Rattle.ml_region.specs.Changes.{IsMarked, with_mark}
use Rattle.ml_region.specs.declared.item.Id.{Id}
use Rattle.ml_region.specs.declared.item.Item.{Item}
use Rattle.ml_region.proofs.FoundItems.{key_of_item}
use Rattle.ml_region.proofs.OwnerSearch.{one_owner}
use Rattle.ml_region.proofs.PlacedRegions.{with_items_length, with_items_prefixes, items_same, items_other}
use Rattle.ml_key.specs.ItemKeys.{item_key}
use Rattle.ml_search.specs.Db.{is_allowed}
use Rattle.ml_term.specs.Seen.{seen}
use Rattle.ml_term.specs.declared.declaration.Decl.{Decl}
use Rattle.ml_split.proofs.RegionKeys.{rising_once}
use Rattle.ml_file.specs.Files.{items_in, IsFile, IsHeld}
use Rattle.ml_file.specs.Marking.{HasMark}
use Rattle.ml_file.proofs.HeldItems.{LiesIn, item_lies, item_in, contains_key, held_from, same_in, other_in}

-- a held item has its key in a region
pub has_key : (regions : List Region) (key : List Bool) → (x : Item) × IsHeld regions key x → HasKey regions key
has_key regions key held =
    let x : Item = held.0 in
    let lies : LiesIn regions x = item_lies regions x held.1.inside in
    record {
      region = lies.region;
      within = lies.within;
      among =
          subst (Contains (keys_at regions lies.region)) held.1.key_is (contains_key (items_at regions lies.region) x lies.inside);
    }

-- ---- one key is of one item

-- no item of another region has the key of one that was found
elsewhere : (regions : List Region) (key : List Bool) (item x : Item) (k : ℕ) → IsWellPlaced regions → (found : IsFound regions key item) → k < length regions →
    k ≢ found.region
    → Contains (items_at regions k) x → x.key.bits ≢ key
elsewhere regions key item x k well found within d there is =
    let r : ℕ = found.region in
    let first : IsOwner (region_prefixes regions) key k =
    well.owned k key within (subst (Contains (keys_at regions k)) is (contains_key (items_at regions k) x there)) in
    let mine : Contains (keys_at regions r) key = subst (Contains (keys_at regions r)) found.key_is
    (contains_key (items_at regions r) item (found.place, found.inside, found.same)) in
    d (one_owner (region_prefixes regions) key k r well.rising first (well.owned r key found.within mine))

-- no item at another place of its region has the key
beside : (regions : List Region) (key : List Bool) (item x : Item) (p : ℕ) → IsWellPlaced regions → (found : IsFound regions key item) →
    p < length (items_at regions found.region) → p ≢ found.place
    → get_or (items_at regions found.region) p x ≡ x → x.key.bits ≢ key
beside regions key item x p well found within d there is =
    let items : List Item = items_at regions found.region in
    let many = length-map items (λ (y : Item). y.key.bits) in
    let at : bits_at (keys_of items) found.place ≡ key = key_of_item items found.place item found.inside ∙ ap (λ (y : Item). y.key.bits) found.same
    ∙ found.key_is in
    let other : bits_at (keys_of items) p ≡ key = key_of_item items p x within ∙ ap (λ (y : Item). y.key.bits) there ∙ is in
    d (rising_once (keys_of items) (well.ordered found.region found.within) p found.place (omega (arith, many, within)) (omega (arith, many, found.inside))
    (other ∙ sym at))

-- ---- the items after a mark

-- an element of a list in which one was set is that one, or stands at another place
pub after_set : {X : Type 0} (xs : List X) (j : ℕ) (y z : X) → j < length xs → Contains (set xs j y) z →
    (z ≡ y) ⊎ ((p : ℕ) × (p < length xs) × (p ≢ j) × (get_or xs p z ≡ z))
after_set xs j y z h there =
    elim (cases_eq there.0 j) [
      | inl e ↦ inl (sym there.2 ∙ ap (λ k. get_or (set xs j y) k z) e ∙ get_or-set_same xs j y z h)
      | inr d ↦ inr (there.0, omega (arith, there.1, length-set xs j y), d, sym (get_or-set_other xs j there.0 y z d) ∙ there.2)
    ]

marked_cases : (old : List Region) (key : List Bool) (committed : Bool) (id : Id) (new : List Region) (x : Item) → IsWellPlaced old →
    (m : IsMarked old key committed id new) → Contains (items_in new) x
    → (Contains (items_in old) x × (x.key.bits ≢ key)) ⊎ (x ≡ with_mark m.item committed id)
marked_cases old key committed id new x well m there =
    let r : ℕ = m.found.region in
    let items : List Item = items_at old r in
    let y : Item = with_mark m.item committed id in
    let changed : List Item = set items m.found.place y in
    let moved : List Region = with_items old r changed in
    let lies : LiesIn moved x = item_lies moved x (subst (λ rs. Contains (items_in rs) x) m.same there) in
    elim (cases_eq lies.region r) [
      | inl e ↦
          let inside : Contains changed x = subst (λ xs. Contains xs x) (items_same old r changed m.found.within)
          (subst (λ k. Contains (items_at moved k) x) e lies.inside) in
          elim (after_set items m.found.place y x m.found.inside inside) [
            | inl s ↦ inr s
            | inr o ↦ inl (item_in old r x m.found.within (o.0, o.1, o.3), beside old key m.item x o.0 well m.found o.1 o.2 o.3)
          ]
      | inr d ↦
          let k : ℕ = lies.region in
          let within : k < length old = omega (arith, lies.within, with_items_length old r changed) in
          let inside : Contains (items_at old k) x = subst (λ xs. Contains xs x) (items_other old r k changed d) lies.inside in
          inl (item_in old k x within inside, elsewhere old key m.item x k well m.found within d inside)
    ]

marked_back : (old : List Region) (key : List Bool) (committed : Bool) (id : Id) (new : List Region) (x : Item) → (m : IsMarked old key committed id new)
    → (Contains (items_in old) x × (x.key.bits ≢ key)) ⊎ (x ≡ with_mark m.item committed id) → Contains (items_in new) x
marked_back old key committed id new x m either =
    let r : ℕ = m.found.region in
    let j : ℕ = m.found.place in
    let items : List Item = items_at old r in
    let y : Item = with_mark m.item committed id in
    let changed : List Item = set items j y in
    let back : Contains (items_in (with_items old r changed)) x → Contains (items_in new) x = subst (λ rs. Contains (items_in rs) x) (sym m.same) in
    elim either [
      | inl kept ↦
          let lies : LiesIn old x = item_lies old x kept.0 in
          elim (cases_eq lies.region r) [
            | inl e ↦
                let inside : Contains items x = subst (λ k. Contains (items_at old k) x) e lies.inside in
                elim (cases_eq inside.0 j) [
                  | inl same ↦
                      let is : m.item ≡ x = sym m.found.same ∙ get_or_default items j m.item x m.found.inside ∙ ap (λ k. get_or items k x) (sym same)
                      ∙ inside.2 in
                      absurd (kept.1 (ap (λ (z : Item). z.key.bits) (sym is) ∙ m.found.key_is))
                  | inr d ↦ back (same_in old r changed x m.found.within
                      (inside.0, omega (arith, inside.1, length-set items j y), get_or-set_other items j inside.0 y x d ∙ inside.2))
                ]
            | inr d ↦ back (other_in old r lies.region changed x lies.within d lies.inside)
          ]
      | inr s ↦
          let inside : Contains changed y = (j, omega (arith, m.found.inside, length-set items j y), get_or-set_same items j y y m.found.inside) in
          back (subst (Contains (items_in (with_items old r changed))) (sym s) (same_in old r changed y m.found.within inside))
    ]

pub marked_from : (old : List Region) (key : List Bool) (committed : Bool) (id : Id) (new : List Region) → IsWellPlaced old →
    IsMarked old key committed id new → HasMark old key committed id new
marked_from old key committed id new well m =
    record {
      item = m.item;
      held = held_from old key m.item m.found;
      items = λ x. (marked_cases old key committed id new x well m, marked_back old key committed id new x m);
      prefixes = ap region_prefixes m.same ∙ with_items_prefixes old m.found.region
          (set (items_at old m.found.region) m.found.place (with_mark m.item committed id));
    }

-- ---- what the file keeps

module _ (old : List Region) (key : List Bool) (committed : Bool) (id : Id) (new : List Region) (mark : HasMark old key committed id new) where
  abbrev after : Item
  after = with_mark mark.item committed id

  -- what holds of all items, whatever their marks, holds after it
  all_marked : (P : Item → Type 0) → (P mark.item → P after) → All P (items_in old) → All P (items_in new)
  all_marked P same all k d l =
      let x : Item = get_or (items_in new) k d in
      elim ((mark.items x).0 (Contains-get_or (items_in new) k d l)) [
        | inl kept ↦ All-contains P (items_in old) x all kept.0
        | inr s ↦ subst P (sym s) (same (All-contains P (items_in old) mark.item all mark.held.inside))
      ]

  -- and no two clauses have one number
  numbers_marked : ((x y : Item) → Contains (items_in old) x → Contains (items_in old) y → x.number ≡ y.number → x ≡ y)
      → (x y : Item) → Contains (items_in new) x → Contains (items_in new) y → x.number ≡ y.number → x ≡ y
  numbers_marked numbers x y a b e =
      let clash : (z : Item) → Contains (items_in old) z → z.key.bits ≢ key → z.number ≢ mark.item.number =
      λ z there other s. other (ap (λ (w : Item). w.key.bits) (numbers z mark.item there mark.held.inside s) ∙ mark.held.key_is) in
      elim ((mark.items x).0 a) [
        | inl first ↦ elim ((mark.items y).0 b) [
          | inl second ↦ numbers x y first.0 second.0 e
          | inr s ↦ absurd (clash x first.0 first.1 (e ∙ ap (λ (w : Item). w.number) s))
        ]
        | inr s ↦ elim ((mark.items y).0 b) [
          | inl second ↦ absurd (clash y second.0 second.1 (sym e ∙ ap (λ (w : Item). w.number) s))
          | inr t ↦ s ∙ sym t
        ]
      ]

few_marked : (old : List Region) (key : List Bool) (committed : Bool) (id : Id) (new : List Region) → IsMarked old key committed id new →
    ((i : ℕ) → i < length old → length (items_at old i) ≤ 24)
    → (i : ℕ) → i < length new → length (items_at new i) ≤ 24
few_marked old key committed id new m few i h =
    let r : ℕ = m.found.region in
    let changed : List Item = set (items_at old r) m.found.place (with_mark m.item committed id) in
    let within : i < length old = omega (arith, h, ap length m.same, with_items_length old r changed) in
    subst (λ rs. length (items_at rs i) ≤ 24) (sym m.same)
    (elim (cases_eq i r) [
      | inl e ↦
          let at : items_at (with_items old r changed) i ≡ changed = ap (items_at (with_items old r changed)) e ∙ items_same old r changed m.found.within in
          omega (arith, ap length at, length-set (items_at old r) m.found.place (with_mark m.item committed id), few r m.found.within)
      | inr d ↦ omega (arith, ap length (items_other old r i changed d), few i within)
    ])

pub file_marked : (decl : Decl) (old : List Region) (key : List Bool) (committed : Bool) (id : Id) (new : List Region) (room : ℕ) → IsWellPlaced old →
    IsMarked old key committed id new
    → IsFile decl old room → IsFile decl new room
file_marked decl old key committed id new room well m file =
    let mark : HasMark old key committed id new = marked_from old key committed id new well m in
    record {
      few = few_marked old key committed id new m file.few;
      allowed = all_marked old key committed id new mark (λ (x : Item). IsTrue (is_allowed decl (seen x.term))) (λ h. h) file.allowed;
      keyed = all_marked old key committed id new mark (λ (x : Item). x.key.bits ≡ item_key decl.kind decl.keys (seen x.term) x.number) (λ h. h) file.keyed;
      numbers = λ kind. numbers_marked old key committed id new mark (file.numbers kind);
      fit = all_marked old key committed id new mark (λ (x : Item). x.number < 2 ^ 64) (λ h. h) file.fit;
      roomy = all_marked old key committed id new mark (λ (x : Item). length x.key.bits ≤ room) (λ h. h) file.roomy;
    }
