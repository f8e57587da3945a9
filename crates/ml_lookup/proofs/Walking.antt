-- The regions behind a key, one after another.
use Rattle.std.proofs.Common.{◌≡◌, ◌≢◌, inl, inr, ℕ, ◌+◌, ◌<◌, ◌≤◌, Bool, true, false, true≢false, List, [], ◌++◌, length, refl, sym, ◌∙◌, subst, arith}
use Rattle.std.specs.Prelude.{Contains, MatchOption, Option, Some, None}
use Rattle.std.specs.Borrow.{Bor}
use Rattle.std.specs.declared.cmp.Ordering.TheVariants.{Less, Greater}
use Rattle.std.proofs.lemmas.Bool.{cases_lt}
use Rattle.std.proofs.lemmas.List.Elements.{All-contains, Contains-append_left, Contains-append_right, Contains-append_cases}
use Rattle.ml_bits.specs.BitList.{Begins, BitList}
use Rattle.ml_bits.proofs.OrderLaws.{begins_itself, same_from_cmp}
use Rattle.ml_key.proofs.BitBeginnings.{shorter_holds}
use Rattle.ml_key.specs.ItemKeys.{item_key}
use Rattle.ml_file.specs.Files.{IsFile, items_in}
use Rattle.ml_file.specs.Hits.{is_hit}
use Rattle.ml_file.proofs.HeldItems.{LiesIn, contains_key, item_in, item_lies}
use Rattle.ml_file.proofs.ItemHits.{met_key_fits}
use Rattle.ml_region.specs.Below.{IsEndOfBelow}
use Rattle.ml_region.specs.Prefixes.{IsLastUpTo, IsOwner, bits_at}
use Rattle.ml_region.specs.Regions.{IsWellPlaced, Region, items_at, region_at, region_prefixes}
use Rattle.ml_region.specs.declared.item.Item.{Item}
use Rattle.ml_region.proofs.ItemPlaces.{owner_may_hold}
use Rattle.ml_region.proofs.KeyOrder.{beginning_upto, less_trans, not_greater}
use Rattle.ml_region.proofs.PrefixesBelow.{between}
use Rattle.ml_region.proofs.StoredRegions.{prefix_of_region, region_prefixes_length}
use Rattle.ml_search.specs.Db.{is_allowed}
use Rattle.ml_term.specs.Instances.{is_head}
use Rattle.ml_term.specs.Keys.{key_cmp}
use Rattle.ml_term.specs.Patterns.{fits, may_hold, pattern_of}
use Rattle.ml_term.specs.Seen.{seen}
use Rattle.ml_term.specs.Tree.{Tree}
use Rattle.ml_term.specs.declared.declaration.Decl.{Decl}
use Rattle.ml_term.specs.declared.declaration.Kind.{Kind}
use Rattle.ml_lookup.specs.Next.{IsMet, IsNextIn}
use Rattle.ml_lookup.specs.inside.Walks.{HasAbove, HasBefore}
use Rattle.ml_lookup.proofs.NextItems.{first_of_all, next_of_all, not_back}

-- ---- what a region has

-- the prefix of a region begins the keys of its items
pub begins_keys : (regions : List Region) (k : ℕ) (x : Item) → IsWellPlaced regions → k < length regions → Contains (items_at regions k) x →
    Begins (region_at regions k).prefix x.key.bits
begins_keys regions k x well h there =
    subst (λ p. Begins p x.key.bits) (prefix_of_region regions k) (well.owned k x.key.bits h (contains_key (items_at regions k) x there)).begins

-- a region that can't hold a fitting key has nothing that is met
pub not_met : (d : Decl) (regions : List Region) (room : ℕ) (pattern : Tree) (k : ℕ) (x : Item) → IsWellPlaced regions → IsFile d regions room →
    is_head pattern ≡ true → k < length regions → may_hold (pattern_of d.keys pattern) (region_at regions k).prefix ≡ false →
    Contains (items_at regions k) x → is_hit d.kind pattern (seen x.term) ≡ true → ⊥
not_met d regions room pattern k x well file head h lacks there met =
    let all : Contains (items_in regions) x = item_in regions k x h there in
    let allowed : is_allowed d (seen x.term) ≡ true = All-contains (λ (y : Item). is_allowed d (seen y.term) ≡ true) (items_in regions) x file.allowed all in
    let keyed : x.key.bits ≡ item_key d.kind d.keys (seen x.term) x.number =
    All-contains (λ (y : Item). y.key.bits ≡ item_key d.kind d.keys (seen y.term) y.number) (items_in regions) x file.keyed all in
    let fitting : fits (pattern_of d.keys pattern) x.key.bits ≡ true =
    subst (λ key. fits (pattern_of d.keys pattern) key ≡ true) (sym keyed) (met_key_fits d pattern (seen x.term) x.number head allowed met) in
    let owner : IsOwner (region_prefixes regions) x.key.bits k = well.owned k x.key.bits h (contains_key (items_at regions k) x there) in
    let holds : may_hold (pattern_of d.keys pattern) (bits_at (region_prefixes regions) k) ≡ true =
    owner_may_hold regions (pattern_of d.keys pattern) x.key.bits k owner fitting in
    true≢false (sym (subst (λ q. may_hold (pattern_of d.keys pattern) q ≡ true) (prefix_of_region regions k) holds) ∙ lacks)

-- ---- the walk

module _ (kind : Kind) (pattern : Tree) (after : Option BitList) (regions : List Region) where
  -- the first one of the items in front of a place
  pub record IsWalking (place : ℕ) (best : Option (Bor Item)) : Type 0 where
    pub items : List Item
    pub next : IsNextIn kind pattern after items best
    pub has : HasBefore kind pattern after regions place items

  pub walking_on : (i : ℕ) (best found : Option (Bor Item)) → i < length regions → (was : IsWalking i best) →
      IsNextIn kind pattern after (was.items ++ items_at regions i) found → IsWalking (i + 1) found
  walking_on i best found h was next = record {
    items = was.items ++ items_at regions i;
    next = next;
    has = record {
      part = λ x there. elim (Contains-append_cases was.items (items_at regions i) x there) [
        | inl l ↦ was.has.part x l
        | inr r ↦ item_in regions i x h r
      ];
      before = λ k x l within there met. elim (cases_lt k i) [
        | inl m ↦ Contains-append_left was.items (items_at regions i) x (was.has.before k x m within there met)
        | inr m ↦
            let same : k ≡ i = omega arith in
            Contains-append_right was.items (items_at regions i) x (subst (λ j. Contains (items_at regions j) x) same there)
      ];
    };
  }

  -- where nothing up to a place is met
  pub walking_past : (i end : ℕ) (best : Option (Bor Item)) → IsWalking i best →
      ((k : ℕ) (x : Item) → i ≤ k → k < end → k < length regions → Contains (items_at regions k) x → IsMet kind pattern after x → ⊥) → IsWalking end best
  walking_past i end best was none = record {
    items = was.items;
    next = was.next;
    has = record {
      part = was.has.part;
      before = λ k x l within there met. elim (cases_lt k i) [
        | inl m ↦ was.has.before k x m within there met
        | inr m ↦ absurd (none k x m l within there met)
      ];
    };
  }

  -- behind the last region
  pub walked : (i : ℕ) (best : Option (Bor Item)) → IsWalking i best → length regions ≤ i → IsNextIn kind pattern after (items_in regions) best
  walked i best was end = next_of_all kind pattern after was.items (items_in regions) best was.next was.has.part (λ x there met.
      let lies : LiesIn regions x = item_lies regions x there in
      was.has.before lies.region x (omega (arith, lies.within, end)) lies.within lies.inside met)

  -- before a prefix that comes behind what was found
  pub stopped : (i : ℕ) (best : Option (Bor Item)) → IsWellPlaced regions → IsWalking i best → i < length regions →
      MatchOption best ⊥ (λ (y : Bor Item). key_cmp y.now.key.bits (region_at regions i).prefix ≡ Less) → IsNextIn kind pattern after (items_in regions) best
  stopped i None well was h near = absurd near
  stopped i (Some y) well was h near = first_of_all kind pattern after was.items (items_in regions) y.now was.next was.has.part (λ x there met.
      let lies : LiesIn regions x = item_lies regions x there in
      let k : ℕ = lies.region in
      elim (cases_lt k i) [
        | inl l ↦ inl (was.has.before k x l lies.within lies.inside met)
        | inr l ↦
            let own : List Bool = (region_at regions k).prefix in
            let before_own : key_cmp y.now.key.bits own ≡ Less = elim (cases_lt i k) [
              | inl m ↦
                  let long = region_prefixes_length regions in
                  let up : key_cmp (region_at regions i).prefix own ≡ Less =
                  subst (λ p. key_cmp p own ≡ Less) (prefix_of_region regions i)
                  (subst (λ p. key_cmp (bits_at (region_prefixes regions) i) p ≡ Less) (prefix_of_region regions k)
                  (well.rising.rises i k m (omega (arith, lies.within, long)))) in
                  less_trans y.now.key.bits (region_at regions i).prefix own near up
              | inr m ↦ let same : i ≡ k = omega arith in subst (λ j. key_cmp y.now.key.bits (region_at regions j).prefix ≡ Less) same near
            ] in
            let begins : Begins own x.key.bits = begins_keys regions k x well lies.within lies.inside in
            let less : key_cmp y.now.key.bits x.key.bits ≡ Less = elim (not_greater (key_cmp own x.key.bits) (beginning_upto own x.key.bits begins)) [
              | inl e ↦ less_trans y.now.key.bits own x.key.bits before_own e
              | inr e ↦ subst (λ p. key_cmp y.now.key.bits p ≡ Less) (same_from_cmp own x.key.bits e) before_own
            ] in
            inr (not_back y.now.key.bits x.key.bits less)
      ])

-- the walk over regions that can't hold a fitting key
pub none_below : (d : Decl) (regions : List Region) (room : ℕ) (pattern : Tree) (after : Option BitList) (i end : ℕ) → IsWellPlaced regions →
    IsFile d regions room → is_head pattern ≡ true → may_hold (pattern_of d.keys pattern) (region_at regions i).prefix ≡ false →
    IsEndOfBelow (region_prefixes regions) i end
    → (k : ℕ) (x : Item) → i ≤ k → k < end → k < length regions → Contains (items_at regions k) x → IsMet d.kind pattern after x → ⊥
none_below d regions room pattern after i end well file head lacks below k x l m h there met =
    let begun : Begins (region_at regions i).prefix (region_at regions k).prefix =
    subst (λ p. Begins p (region_at regions k).prefix) (prefix_of_region regions i)
    (subst (Begins (bits_at (region_prefixes regions) i)) (prefix_of_region regions k) (below.below k l m)) in
    let none : may_hold (pattern_of d.keys pattern) (region_at regions k).prefix ≡ false =
    not_true (may_hold (pattern_of d.keys pattern) (region_at regions k).prefix)
    (λ t. true≢false (sym (shorter_holds (pattern_of d.keys pattern) (region_at regions i).prefix (region_at regions k).prefix begun t) ∙ lacks)) in
    not_met d regions room pattern k x well file head h none there met.hit
  where
    not_true : (b : Bool) → (b ≡ true → ⊥) → b ≡ false
    not_true true f = absurd (f refl)
    not_true false f = refl

-- ---- where the walk begins

pub nothing_before : (kind : Kind) (pattern : Tree) (after : Option BitList) (regions : List Region) → HasBefore kind pattern after regions 0 []
nothing_before kind pattern after regions = record {
  part = λ x there. absurd (omega (arith, there.1));
  before = λ k x l. absurd (omega (arith, l));
}

-- the items behind a key in regions whose prefixes don't come after it are those of the regions that enclose it
pub above_before : (kind : Kind) (pattern : Tree) (after : BitList) (regions : List Region) (last : ℕ) (items : List Item) → IsWellPlaced regions →
    IsLastUpTo (region_prefixes regions) after.bits last → HasAbove regions after.bits items → HasBefore kind pattern (Some after) regions (last + 1) items
above_before kind pattern after regions last items well upto above = record {
  part = above.part;
  before = λ k x l h there met.
      let own : List Bool = (region_at regions k).prefix in
      let begins : Begins own x.key.bits = begins_keys regions k x well h there in
      let not_after : key_cmp own after.bits ≢ Greater =
      subst (λ p. key_cmp p after.bits ≢ Greater) (prefix_of_region regions k) (upto.upto k (omega arith)) in
      let begun : Begins own after.bits = elim (not_greater (key_cmp own after.bits) not_after) [
        | inl e ↦ between own after.bits x.key.bits e met.behind begins
        | inr e ↦ subst (Begins own) (same_from_cmp own after.bits e) (begins_itself own)
      ] in
      above.above k x h begun there;
}
