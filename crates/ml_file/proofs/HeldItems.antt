-- The items of all regions are those of the single ones.
use Rattle.std.proofs.Common.{◌≡◌, ◌⊎◌, inl, inr, ℕ, zero, suc, ◌<◌, List, [], ◌∷◌, length, get_or, map, sym, ap, ◌∙◌, subst, arith}
use Rattle.std.specs.Prelude.{Contains, Bool, MatchOption, Option, Some, None, ◌≢◌}
use Rattle.std.specs.List.{remove}
use Rattle.std.proofs.lemmas.Bool.{cases_eq}
use Rattle.std.proofs.lemmas.List.Sorted.{Contains-permutation, IsPermutation-remove}
use Rattle.std.proofs.lemmas.List.{length-map, get_or-map}
use Rattle.std.proofs.lemmas.List.Elements.{Contains-append_left, Contains-append_right, Contains-append_cases, Contains-get_or}
use Rattle.ml_region.specs.Regions.{Region, items_at, keys_at, with_items, HasNoKey, IsFound}
use Rattle.ml_region.specs.Changes.{IsTaken}
use Rattle.ml_region.proofs.PlacedRegions.{with_items_length, items_same, items_other}
use Rattle.ml_region.proofs.ListInsertions.{contains_remove}
use Rattle.ml_region.specs.declared.item.Item.{Item}
use Rattle.ml_file.specs.Files.{items_in, IsAbsent, IsHeld}
use Rattle.ml_file.specs.PlainList.{IsWith}
use Rattle.ml_file.proofs.ItemOrders.{contains_cases}

-- an item of a region is one of the file
pub item_in : (regions : List Region) (i : ℕ) (x : Item) → i < length regions → Contains (items_at regions i) x → Contains (items_in regions) x
item_in [] i x l h = absurd (omega arith)
item_in (r ∷ regions) zero x l h = Contains-append_left r.items (items_in regions) x h
item_in (r ∷ regions) (suc i) x l h = Contains-append_right r.items (items_in regions) x (item_in regions i x (omega arith) h)

-- an item of a file lies in one of its regions
pub record LiesIn (regions : List Region) (x : Item) : Type 0 where
  pub region : ℕ
  pub within : region < length regions
  pub inside : Contains (items_at regions region) x

pub item_lies : (regions : List Region) (x : Item) → Contains (items_in regions) x → LiesIn regions x
item_lies [] x h = absurd (omega (arith, h.1))
item_lies (r ∷ regions) x h =
    elim (Contains-append_cases r.items (items_in regions) x h) [
      | inl here ↦ record { region = 0; within = omega arith; inside = here }
      | inr there ↦
          let later : LiesIn regions x = item_lies regions x there in
          record { region = suc later.region; within = omega (arith, later.within); inside = later.inside }
    ]

pub contains_key : (items : List Item) (x : Item) → Contains items x → Contains (map (λ (y : Item). y.key.bits) items) x.key.bits
contains_key items x h = (
  h.0,
  omega (arith, h.1, length-map items (λ (y : Item). y.key.bits)),
  get_or-map (λ (y : Item). y.key.bits) items h.0 x x.key.bits h.1 ∙ ap (λ (y : Item). y.key.bits) h.2,
)

-- what was not found in any region is not there
pub absent_from : (regions : List Region) (key : List Bool) → HasNoKey regions key → IsAbsent regions key
absent_from regions key none k d l e =
    let x : Item = get_or (items_in regions) k d in
    let lies : LiesIn regions x = item_lies regions x (Contains-get_or (items_in regions) k d l) in
    none lies.region lies.within (subst (Contains (keys_at regions lies.region)) e (contains_key (items_at regions lies.region) x lies.inside))

-- and what was found is there
pub held_from : (regions : List Region) (key : List Bool) (x : Item) → IsFound regions key x → IsHeld regions key x
held_from regions key x found =
    record { inside = item_in regions found.region x found.within (found.place, found.inside, found.same); key_is = found.key_is }

-- what is said of a value or of none, said more weakly
pub weaker : {X : Type 0} (o : Option X) (P Q : Type 0) (R S : X → Type 0) → (P → Q) → ((x : X) → R x → S x) → MatchOption o P R → MatchOption o Q S
weaker None P Q R S first second h = first h
weaker (Some x) P Q R S first second h = second x h

-- ---- an item that goes

-- the items of all regions where one region has others
pub others_in : (regions : List Region) (i : ℕ) (items : List Item) (x : Item) → i < length regions → Contains (items_in (with_items regions i items)) x
    → Contains items x ⊎ ((k : ℕ) × (k < length regions) × (k ≢ i) × Contains (items_at regions k) x)
others_in regions i items x h there =
    let lies : LiesIn (with_items regions i items) x = item_lies (with_items regions i items) x there in
    elim (cases_eq lies.region i) [
      | inl e ↦ inl (subst (λ xs. Contains xs x) (items_same regions i items h)
          (subst (λ k. Contains (items_at (with_items regions i items) k) x) e lies.inside))
      | inr d ↦ inr (
        lies.region,
        omega (arith, lies.within, with_items_length regions i items),
        d,
        subst (λ xs. Contains xs x) (items_other regions i lies.region items d) lies.inside,
      )
    ]

pub same_in : (regions : List Region) (i : ℕ) (items : List Item) (x : Item) → i < length regions → Contains items x →
    Contains (items_in (with_items regions i items)) x
same_in regions i items x h there =
    item_in (with_items regions i items) i x (omega (arith, with_items_length regions i items))
    (subst (λ xs. Contains xs x) (sym (items_same regions i items h)) there)

pub other_in : (regions : List Region) (i k : ℕ) (items : List Item) (x : Item) → k < length regions → (k ≡ i → ⊥) → Contains (items_at regions k) x →
    Contains (items_in (with_items regions i items)) x
other_in regions i k items x h d there =
    item_in (with_items regions i items) k x (omega (arith, with_items_length regions i items))
    (subst (λ xs. Contains xs x) (sym (items_other regions i k items d)) there)

-- the elements of a list from which one was removed are those at other places
pub after_remove : {X : Type 0} (xs : List X) (j : ℕ) (x z : X) → j < length xs → get_or xs j x ≡ x → Contains xs z → Contains (remove xs j) z ⊎ (z ≡ x)
after_remove xs j x z l e there =
    elim (contains_cases x z (remove xs j) (Contains-permutation xs (x ∷ remove xs j) z (IsPermutation-remove xs j x l (sym e)) there)) [
      | inl s ↦ inr (sym s)
      | inr r ↦ inl r
    ]

-- the items before are those after and the one that was taken
pub taken_from : (old : List Region) (key : List Bool) (item : Item) (new : List Region) → IsTaken old key item new → IsWith (items_in new) item (items_in old)
taken_from old key item new taken x =
    let r : ℕ = taken.found.region in
    let items : List Item = items_at old r in
    let less : List Item = remove items taken.found.place in
    let before : Contains (items_in old) item = item_in old r item taken.found.within (taken.found.place, taken.found.inside, taken.found.same) in (
      λ there.
          let lies : LiesIn old x = item_lies old x there in
          elim (cases_eq lies.region r) [
            | inl e ↦
                elim (after_remove items taken.found.place item x taken.found.inside taken.found.same
                (subst (λ k. Contains (items_at old k) x) e lies.inside)) [
                  | inl kept ↦ inl (subst (λ rs. Contains (items_in rs) x) (sym taken.same) (same_in old r less x taken.found.within kept))
                  | inr s ↦ inr s
                ]
            | inr d ↦ inl (subst (λ rs. Contains (items_in rs) x) (sym taken.same) (other_in old r lies.region less x lies.within d lies.inside))
          ],
      λ either. elim either [
        | inl there ↦
            elim (others_in old r less x taken.found.within (subst (λ rs. Contains (items_in rs) x) taken.same there)) [
              | inl kept ↦ item_in old r x taken.found.within (contains_remove items taken.found.place x taken.found.inside kept)
              | inr far ↦ item_in old far.0 x far.1 far.3
            ]
        | inr s ↦ subst (Contains (items_in old)) (sym s) before
      ],
    )
