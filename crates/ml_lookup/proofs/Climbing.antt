-- The regions that enclose a key, one after another.
use Rattle.std.proofs.Common.{◌≡◌, inl, inr, ℕ, ◌<◌, ◌≤◌, List, [], ◌++◌, length, sym, ap, ◌∙◌, subst, arith}
use Rattle.std.specs.Prelude.{Contains, Option, Some, None}
use Rattle.std.specs.Borrow.{Bor}
use Rattle.std.proofs.lemmas.Bool.{cases_lt}
use Rattle.std.proofs.lemmas.List.Elements.{Contains-append_left, Contains-append_right, Contains-append_cases}
use Rattle.ml_bits.specs.BitList.{Begins, BitList}
use Rattle.ml_bits.proofs.OrderLaws.{begins_both, begins_shorter, begins_trans}
use Rattle.ml_file.specs.Files.{items_in}
use Rattle.ml_file.proofs.HeldItems.{item_in}
use Rattle.ml_region.specs.Prefixes.{IsOwner, IsParent, bits_at}
use Rattle.ml_region.specs.Regions.{IsWellPlaced, Region, items_at, region_at, region_prefixes}
use Rattle.ml_region.specs.declared.item.Item.{Item}
use Rattle.ml_region.proofs.OwnerSearch.{one_place}
use Rattle.ml_region.proofs.StoredRegions.{prefix_of_region, region_prefixes_length}
use Rattle.ml_term.specs.Tree.{Tree}
use Rattle.ml_term.specs.declared.declaration.Kind.{Kind}
use Rattle.ml_lookup.specs.Next.{IsNextIn}
use Rattle.ml_lookup.specs.inside.Walks.{HasAbove}
use Rattle.ml_lookup.proofs.NextItems.{none_in}

module _ (kind : Kind) (pattern : Tree) (after : BitList) (regions : List Region) where
  -- the regions below one that enclose the key were looked at
  pub record IsClimbing (i : ℕ) (best : Option (Bor Item)) : Type 0 where
    pub within : i < length regions
    pub begins : Begins (region_at regions i).prefix after.bits
    pub items : List Item
    pub next : IsNextIn kind pattern (Some after) items best
    pub part : (x : Item) → Contains items x → Contains (items_in regions) x
    pub longer : (k : ℕ) (x : Item) → k < length regions → Begins (region_at regions k).prefix after.bits →
        length (region_at regions i).prefix < length (region_at regions k).prefix → Contains (items_at regions k) x → Contains items x

  pub climbing_begins : (i : ℕ) → IsOwner (region_prefixes regions) after.bits i → IsClimbing i None
  climbing_begins i owner =
      let within : i < length regions = omega (arith, owner.within, region_prefixes_length regions) in
      record {
        within = within;
        begins = subst (λ p. Begins p after.bits) (prefix_of_region regions i) owner.begins;
        items = [];
        next = none_in kind pattern (Some after);
        part = λ x there. absurd (omega (arith, there.1));
        longer = λ k x h b l there.
            let begun : Begins (bits_at (region_prefixes regions) k) after.bits = subst (λ p. Begins p after.bits) (sym (prefix_of_region regions k)) b in
            let upto = owner.longest k (omega (arith, h, region_prefixes_length regions)) begun in
            absurd (omega (arith, l, upto, ap length (prefix_of_region regions k), ap length (prefix_of_region regions i)));
      }

  more_part : (i : ℕ) (best : Option (Bor Item)) (was : IsClimbing i best) (x : Item) → Contains (was.items ++ items_at regions i) x →
      Contains (items_in regions) x
  more_part i best was x there = elim (Contains-append_cases was.items (items_at regions i) x there) [
    | inl h ↦ was.part x h
    | inr h ↦ item_in regions i x was.within h
  ]

  -- with the items of this region, those of all that are as long
  as_long : (i : ℕ) (best : Option (Bor Item)) (was : IsClimbing i best) (k : ℕ) (x : Item) → IsWellPlaced regions → k < length regions →
      Begins (region_at regions k).prefix after.bits → length (region_at regions i).prefix ≤ length (region_at regions k).prefix →
      Contains (items_at regions k) x
      → Contains (was.items ++ items_at regions i) x
  as_long i best was k x well h b l there = elim (cases_lt (length (region_at regions i).prefix) (length (region_at regions k).prefix)) [
    | inl m ↦ Contains-append_left was.items (items_at regions i) x (was.longer k x h b m there)
    | inr m ↦
        let first : Begins (region_at regions k).prefix (region_at regions i).prefix =
        begins_shorter (region_at regions k).prefix (region_at regions i).prefix after.bits b was.begins m in
        let second : Begins (region_at regions i).prefix (region_at regions k).prefix =
        begins_shorter (region_at regions i).prefix (region_at regions k).prefix after.bits was.begins b l in
        let bits : bits_at (region_prefixes regions) k ≡ bits_at (region_prefixes regions) i =
        prefix_of_region regions k ∙ begins_both (region_at regions k).prefix (region_at regions i).prefix first second ∙ sym (prefix_of_region regions i) in
        let long = region_prefixes_length regions in
        let place : k ≡ i = one_place (region_prefixes regions) k i well.rising (omega (arith, h, long)) (omega (arith, was.within, long)) bits in
        Contains-append_right was.items (items_at regions i) x (subst (λ j. Contains (items_at regions j) x) place there)
  ]

  pub climbing_on : (i p : ℕ) (best found : Option (Bor Item)) → IsWellPlaced regions → (was : IsClimbing i best) →
      IsNextIn kind pattern (Some after) (was.items ++ items_at regions i) found → IsParent (region_prefixes regions) (region_at regions i).prefix p →
      IsClimbing p found
  climbing_on i p best found well was next parent =
      let long = region_prefixes_length regions in
      let at_parent = prefix_of_region regions p in
      record {
        within = omega (arith, parent.within, long);
        begins =
            begins_trans (region_at regions p).prefix (region_at regions i).prefix after.bits
            (subst (λ q. Begins q (region_at regions i).prefix) at_parent parent.begins) was.begins;
        items = was.items ++ items_at regions i;
        next = next;
        part = more_part i best was;
        longer = λ k x h b l there. elim (cases_lt (length (region_at regions k).prefix) (length (region_at regions i).prefix)) [
          | inl m ↦
              let at : bits_at (region_prefixes regions) k ≡ (region_at regions k).prefix = prefix_of_region regions k in
              let begun : Begins (region_at regions k).prefix (region_at regions i).prefix =
              begins_shorter (region_at regions k).prefix (region_at regions i).prefix after.bits b was.begins (omega arith) in
              let upto = parent.longest k (omega (arith, h, long)) (subst (λ q. Begins q (region_at regions i).prefix) (sym at) begun)
              (omega (arith, m, ap length at)) in
              absurd (omega (arith, upto, l, ap length at, ap length at_parent))
          | inr m ↦ as_long i best was k x well h b m there
        ];
      }

  -- in the region of the empty prefix
  pub climbed : (i : ℕ) (best found : Option (Bor Item)) → IsWellPlaced regions → (was : IsClimbing i best) →
      IsNextIn kind pattern (Some after) (was.items ++ items_at regions i) found → i ≡ 0 →
      (items : List Item) × (IsNextIn kind pattern (Some after) items found × HasAbove regions after.bits items)
  climbed i best found well was next root = (
    was.items ++ items_at regions i,
    (
      next,
      record {
        part = more_part i best was;
        above = λ k x h b there. as_long i best was k x well h b
            (omega (arith, ap (λ j. length (region_at regions j).prefix) root, ap length well.root)) there;
      },
    ),
  )
