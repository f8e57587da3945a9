-- An item is found at one place.
use Rattle.std.proofs.Common.{◌≡◌, ℕ, ◌<◌, Bool, true, List, [], length, get_or, sym, ap, subst, ◌∙◌, arith}
use Rattle.std.specs.Prelude.{Contains, Option}
use Rattle.std.proofs.lemmas.List.{get_or_default}
use Rattle.ml_key.proofs.BitBeginnings.{owner_holds}
use Rattle.ml_term.specs.Patterns.{fits, may_hold}
use Rattle.ml_region.specs.Prefixes.{bits_at, IsOwner}
use Rattle.ml_region.specs.Regions.{Region, region_prefixes, items_at, keys_at, HasKey, IsFound, IsWellPlaced}
use Rattle.ml_region.specs.declared.item.Item.{Item}
use Rattle.ml_region.proofs.FoundItems.{key_of_item}
use Rattle.ml_region.proofs.OwnerSearch.{one_owner, one_place}
use Rattle.ml_region.proofs.RegionItems.{keys_length}

found_key : (regions : List Region) (key : List Bool) (x : Item) (f : IsFound regions key x) → bits_at (keys_at regions f.region) f.place ≡ key
found_key regions key x f =
    key_of_item (items_at regions f.region) f.place x f.inside ∙ ap (λ (y : Item). y.key.bits) f.same ∙ f.key_is

found_among : (regions : List Region) (key : List Bool) (x : Item) (f : IsFound regions key x) → Contains (keys_at regions f.region) key
found_among regions key x f =
    let h : f.place < length (keys_at regions f.region) = omega (arith, keys_length (items_at regions f.region), f.inside) in
    (f.place, h, get_or_default (keys_at regions f.region) f.place key [] h ∙ found_key regions key x f)

pub found_in_owner : (regions : List Region) (key : List Bool) (x : Item) (i : ℕ) → IsWellPlaced regions → (f : IsFound regions key x) →
    IsOwner (region_prefixes regions) key i → f.region ≡ i
found_in_owner regions key x i placed f owner =
    one_owner (region_prefixes regions) key f.region i placed.rising (placed.owned f.region key f.within (found_among regions key x f)) owner

same_by : (regions : List Region) (key : List Bool) (x y : Item) (r s p q : ℕ) → IsWellPlaced regions → r < length regions → r ≡ s
    → p < length (items_at regions r) → q < length (items_at regions s) → get_or (items_at regions r) p x ≡ x → get_or (items_at regions s) q y ≡ y
    → bits_at (keys_at regions r) p ≡ key → bits_at (keys_at regions s) q ≡ key → x ≡ y
same_by regions key x y r s p q placed h e a b c d f g =
    let b' : q < length (items_at regions r) = subst (λ m. q < length (items_at regions m)) (sym e) b in
    let d' : get_or (items_at regions r) q y ≡ y = subst (λ m. get_or (items_at regions m) q y ≡ y) (sym e) d in
    let g' : bits_at (keys_at regions r) q ≡ key = subst (λ m. bits_at (keys_at regions m) q ≡ key) (sym e) g in
    let place : p ≡ q =
    one_place (keys_at regions r) p q (placed.ordered r h) (omega (arith, keys_length (items_at regions r))) (omega (arith, keys_length (items_at regions r)))
    (f ∙ sym g') in
    sym c ∙ get_or_default (items_at regions r) p x y a ∙ ap (λ n. get_or (items_at regions r) n y) place ∙ d'

pub one_item : (regions : List Region) (key : List Bool) (x y : Item) → IsWellPlaced regions → IsFound regions key x → IsFound regions key y → x ≡ y
one_item regions key x y placed f g =
    let region : f.region ≡ g.region =
    found_in_owner regions key x g.region placed f (placed.owned g.region key g.within (found_among regions key y g)) in
    same_by regions key x y f.region g.region f.place g.place placed f.within region f.inside g.inside f.same g.same (found_key regions key x f)
    (found_key regions key y g)

pub owner_may_hold : (regions : List Region) (pattern : List (Option (List Bool))) (key : List Bool) (i : ℕ) → IsOwner (region_prefixes regions) key i →
    fits pattern key ≡ true
    → may_hold pattern (bits_at (region_prefixes regions) i) ≡ true
owner_may_hold regions pattern key i owner t = owner_holds pattern (bits_at (region_prefixes regions) i) key t owner.begins

-- a key of which an item is found is there
pub found_key_is_there : (regions : List Region) (key : List Bool) (x : Item) → IsFound regions key x → HasKey regions key
found_key_is_there regions key x f = record { region = f.region; within = f.within; among = found_among regions key x f }
