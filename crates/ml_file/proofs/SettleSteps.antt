-- One step of settling a file.
use Rattle.std.proofs.Common.{◌≡◌, inl, inr, ℕ, ◌<◌, ◌≤◌, Bool, true, ltb, List, ◌++◌, length, get_or, refl, sym, ap, ◌∙◌, subst, arith}
use Rattle.std.specs.List.{All}
use Rattle.std.proofs.lemmas.Bool.{and_parts, both_ways, cases_lt, ltb-true}
use Rattle.std.proofs.lemmas.List.Elements.{All-append, All-contains, Contains-get_or}
use Rattle.ml_region.specs.Regions.{Region, IsWellPlaced, items_at, keys_at, region_at}
use Rattle.ml_region.specs.declared.item.Item.{Item}
use Rattle.ml_split.specs.RegionSplits.{IsSettled, goes_in, splits_again}
use Rattle.ml_split.specs.Splitting.{IsFair}
use Rattle.ml_split.proofs.RegionKeys.{one_parent}
use Rattle.ml_file.specs.Files.{items_in}
use Rattle.ml_split.specs.RegionSplits.{is_thin}
use Rattle.ml_file.specs.Settled.{AreSettled, AreSettledBefore, HasSameItems, IsFirstThin, IsSettledThrough, at_rest, one_more}
use Rattle.ml_file.proofs.ComingItems.{HasKeyOf, key_of_one}
use Rattle.ml_file.proofs.HeldItems.{item_in}
use Rattle.ml_file.proofs.RegionSettling.{Recut, goes_facts, recut_facts}
use Rattle.ml_file.proofs.TakenItems.{all_of}

-- a thin region is not that of the empty prefix
pub thin_nested : (regions : List Region) (i : ℕ) → IsWellPlaced regions → is_thin (region_at regions i) ≡ true → 0 < i
thin_nested regions i well thin =
    let some : 0 < length (region_at regions i).prefix = ltb-true 0 (length (region_at regions i).prefix)
    (and_parts (ltb 0 (length (region_at regions i).prefix)) (ltb (length (items_at regions i)) 8) thin).0 in
    elim (cases_lt 0 i) [
      | inl l ↦ l
      | inr l ↦
          let root : i ≡ 0 = omega arith in
          absurd (omega (arith, some, ap (λ k. length (region_at regions k).prefix) root, ap length well.root))
    ]

pub thin_few : (regions : List Region) (i : ℕ) → is_thin (region_at regions i) ≡ true → length (items_at regions i) < 8
thin_few regions i thin = ltb-true (length (items_at regions i)) 8
    (and_parts (ltb 0 (length (region_at regions i).prefix)) (ltb (length (items_at regions i)) 8) thin).1

-- every key has room
keys_room : (regions : List Region) (room k : ℕ) → k < length regions → All (λ (x : Item). length x.key.bits ≤ room) (items_in regions) →
    All (λ (key : List Bool). length key ≤ room) (keys_at regions k)
keys_room regions room k h roomy n d l =
    let key : List Bool = get_or (keys_at regions k) n d in
    let found : HasKeyOf (items_at regions k) key = key_of_one (items_at regions k) key (Contains-get_or (keys_at regions k) n d l) in
    subst (λ x. length x ≤ room) found.key_is (All-contains (λ (x : Item). length x.key.bits ≤ room) (items_in regions) found.item roomy
    (item_in regions k found.item h found.among))

pub both_room : (regions : List Region) (room i p : ℕ) → i < length regions → p < length regions →
    All (λ (x : Item). length x.key.bits ≤ room) (items_in regions)
    → All (λ (key : List Bool). length key ≤ room) (keys_at regions i ++ keys_at regions p)
both_room regions room i p h k roomy =
    All-append (λ (key : List Bool). length key ≤ room) (keys_at regions i) (keys_at regions p) (keys_room regions room i h roomy)
    (keys_room regions room p k roomy)

-- what is known after one step
pub settled_facts : (old : List Region) (i : ℕ) (new : List Region) → IsWellPlaced old → i < length old → is_thin (region_at old i) ≡ true
    → ((k : ℕ) → k < length old → length (items_at old k) ≤ 24) → IsSettled old i new → Recut old i new
settled_facts old i new well h thin few (goes_in parent is_parent little merged) =
    let same : parent ≡ merged.parent = one_parent old well (region_at old i).prefix parent merged.parent is_parent merged.is_parent in
    goes_facts old i new well h thin few merged (subst (λ p. length (keys_at old i ++ keys_at old p) ≤ 24) same little)
settled_facts old i new well h thin few (splits_again parent prefix is_parent many split fair recut) =
    let same : parent ≡ recut.merged.parent = one_parent old well (region_at old i).prefix parent recut.merged.parent is_parent recut.merged.is_parent in
    recut_facts old i prefix new well h thin few recut (subst (λ p. 24 < length (keys_at old i ++ keys_at old p)) same many) (region_at old parent).prefix
    (subst (λ p. IsFair (keys_at old i ++ keys_at old p) (region_at old parent).prefix prefix) same fair)

pub same_itself : (regions : List Region) → HasSameItems regions regions
same_itself regions = record { same = λ x. (λ h. h, λ h. h) }

pub same_through : (a b c : List Region) → HasSameItems a b → HasSameItems b c → HasSameItems a c
same_through a b c first second = record { same = λ x. (λ h. (first.same x).0 ((second.same x).0 h), λ h. (second.same x).1 ((first.same x).1 h)) }

pub all_same : (P : Item → Type 0) (old new : List Region) → HasSameItems old new → All P (items_in old) → All P (items_in new)
all_same P old new same all = all_of P (items_in old) (items_in new) (λ x h. (same.same x).0 h) all

-- what holds at each step
pub record IsSettling (start : List Region) (room : ℕ) (regions : List Region) (now from : ℕ) : Type 0 where
  pub few : (k : ℕ) → k < length regions → length (items_at regions k) ≤ 24
  pub roomy : All (λ (x : Item). length x.key.bits ≤ now) (items_in regions)
  pub same : HasSameItems start regions
  pub room_is : now ≡ room
  pub reached : from ≤ length regions
  pub ahead : AreSettledBefore regions from
  pub on : (end : List Region) → IsSettledThrough regions end → IsSettledThrough start end

-- the first thin region was settled
pub settling_on : (start : List Region) (room : ℕ) (old : List Region) (before from : ℕ) (new : List Region) (after i : ℕ) →
    IsSettling start room old before from → IsFirstThin old i
    → IsSettled old i new → Recut old i new → after ≡ before → IsSettling start room new after i
settling_on start room old before from new after i was thin settled step e =
    record {
      few = step.few;
      roomy = all_same (λ (x : Item). length x.key.bits ≤ after) old new step.same
          (subst (λ r. All (λ (x : Item). length x.key.bits ≤ r) (items_in old)) (sym e) was.roomy);
      same = same_through start old new was.same step.same;
      room_is = e ∙ was.room_is;
      reached = step.within;
      ahead = step.ahead thin.first;
      on = λ end rest. was.on end (one_more new i thin settled rest);
    }

-- a settled file stays as it was
pub rests : (old new : List Region) → IsSettledThrough old new → AreSettled old → new ≡ old
rests old new (at_rest settled) _ = refl
rests old new (one_more middle i first step rest) settled = absurd (both_ways (is_thin (region_at old i)) (settled i first.within) first.thin)
