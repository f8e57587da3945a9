-- How many items a file has.
use Rattle.std.proofs.Common.{◌≡◌, inl, inr, ℕ, zero, suc, ◌+◌, ◌*◌, ◌<◌, ◌≤◌, Bool, ltb, List, [], ◌∷◌, length, refl, sym, ◌∙◌, subst, arith, length-append}
use Rattle.std.specs.Prelude.{Contains}
use Rattle.std.specs.List.{AllPairs, remove}
use Rattle.std.specs.declared.cmp.Ordering.TheVariants.{Less}
use Rattle.std.proofs.lemmas.Bool.{and_cases, ltb-false}
use Rattle.std.proofs.lemmas.List.{length-map}
use Rattle.std.proofs.lemmas.List.Edits.{length-remove}
use Rattle.ml_term.specs.declared.declaration.Kind.{Kind}
use Rattle.ml_region.specs.Regions.{Region, IsWellPlaced, items_at, region_at, region_prefixes}
use Rattle.ml_region.specs.declared.item.Item.{Item}
use Rattle.ml_split.proofs.RegionKeys.{prefix_is, rising_once}
use Rattle.ml_file.specs.Files.{items_in}
use Rattle.ml_file.specs.PlainList.{item_cmp, IsListOf}
use Rattle.ml_file.specs.Settled.{AreSettled}
use Rattle.ml_file.proofs.DifferingItems.{DifferByKey, items_differ}
use Rattle.ml_file.proofs.HeldItems.{after_remove}
use Rattle.ml_file.proofs.ItemOrders.{contains_first, contains_later, first_before, item_itself, rest_rises}

-- different elements that are all among some others are no more than these
no_more : {X : Type 0} (R : X → X → Type 0) → ((x : X) → R x x → ⊥) → (xs ys : List X) → AllPairs R xs → ((z : X) → Contains xs z → Contains ys z) →
    length xs ≤ length ys
no_more R irreflexive [] ys differ among = omega arith
no_more R irreflexive (x ∷ xs) ys differ among =
    let there : Contains ys x = among x (contains_first x xs) in
    let rest = no_more R irreflexive xs (remove ys there.0) (rest_rises R x xs differ)
    (λ z here. elim (after_remove ys there.0 x z there.1 there.2 (among z (contains_later x z xs here))) [
      | inl kept ↦ kept
      | inr e ↦ absurd (irreflexive x (subst (R x) e (first_before R x xs differ z here)))
    ]) in
    omega (arith, rest, length-remove ys there.0 there.1)

-- the plain list of a file has as many items as its regions
pub as_many : (kind : Kind) (regions : List Region) (list : List Item) → IsWellPlaced regions → IsListOf kind (items_in regions) list →
    length list ≡ length (items_in regions)
as_many kind regions list well is =
    let items : List Item = items_in regions in
    let to : length list ≤ length items = no_more (λ x y. item_cmp kind x y ≡ Less) (item_itself kind) list items is.rises (λ z h. (is.holds z).1 h) in
    let from : length items ≤ length list = no_more DifferByKey (λ x d. d refl) items list (items_differ regions well) (λ z h. (is.holds z).0 h) in
    omega arith

-- regions of at least 8 items each
eights : (regions : List Region) → ((i : ℕ) → i < length regions → 8 ≤ length (items_at regions i)) → 8 * length regions ≤ length (items_in regions)
eights [] many = omega arith
eights (r ∷ regions) many =
    let first : 8 ≤ length r.items = many zero (omega arith) in
    let rest : 8 * length regions ≤ length (items_in regions) = eights regions (λ i h. many (suc i) (omega (arith, h))) in
    omega (arith, length-append r.items (items_in regions))

-- behind the first region of a settled file each has at least 8 items
settled_eight : (regions : List Region) → IsWellPlaced regions → AreSettled regions → (i : ℕ) → 0 < i → i < length regions → 8 ≤ length (items_at regions i)
settled_eight regions well settled i above h =
    elim (and_cases (ltb 0 (length (region_at regions i).prefix)) (ltb (length (items_at regions i)) 8) (settled i h)) [
      | inl e ↦
          let short : length (region_at regions i).prefix ≤ 0 = ltb-false 0 (length (region_at regions i).prefix) e in
          absurd (omega (arith, root_alone short))
      | inr e ↦ ltb-false (length (items_at regions i)) 8 e
    ]
  where
    no_bits : (bits : List Bool) → length bits ≤ 0 → bits ≡ []
    no_bits [] l = refl
    no_bits (b ∷ bits) l = absurd (omega (arith, l))

    root_alone : length (region_at regions i).prefix ≤ 0 → i ≡ 0
    root_alone short =
        let many = length-map regions (λ (r : Region). r.prefix) in
        rising_once (region_prefixes regions) well.rising i 0 (omega (arith, many, h)) (omega (arith, many, h, above))
        (prefix_is regions i h ∙ no_bits (region_at regions i).prefix short ∙ sym well.root ∙ sym (prefix_is regions 0 (omega (arith, h, above))))

pub settled_many : (regions : List Region) → IsWellPlaced regions → AreSettled regions → 8 * length regions ≤ 8 + length (items_in regions)
settled_many [] well settled = omega arith
settled_many (r ∷ regions) well settled =
    let rest : 8 * length regions ≤ length (items_in regions) =
    eights regions (λ i h. settled_eight (r ∷ regions) well settled (suc i) (omega arith) (omega (arith, h))) in
    omega (arith, length-append r.items (items_in regions))
