-- Settling that leaves what is held.
use Rattle.std.proofs.Common.{◌≡◌, ℕ, ◌<◌, ◌≤◌, Bool, true, false, not, List, length, refl, sym, ap, ◌∙◌, subst}
use Rattle.std.specs.List.{All}
use Rattle.std.proofs.lemmas.Bool.{not-true, not_from_false}
use Rattle.ml_region.specs.Prefixes.{IsParent}
use Rattle.ml_region.specs.Regions.{Region, IsWellPlaced, items_at, region_at, region_prefixes}
use Rattle.ml_region.specs.declared.item.Item.{Item}
use Rattle.ml_split.specs.RegionSplits.{IsSettled, is_thin}
use Rattle.ml_split.proofs.RegionKeys.{one_parent}
use Rattle.ml_file.specs.Files.{items_in}
use Rattle.ml_file.specs.Settled.{HasSameItems}
use Rattle.ml_file.specs.SettledUnless.{IsFirstFreeThin, IsFreeThin, IsSettledUnless, goes_on}
use Rattle.ml_file.proofs.RegionSettling.{Recut}
use Rattle.ml_file.proofs.SettleSteps.{all_same, same_through}

-- a thin region whose own prefix isn't held is free by what is answered for its parent
pub free_by : (h : List Bool → Bool) (regions : List Region) (i p : ℕ) (answer : Bool) → IsWellPlaced regions → i < length regions →
    is_thin (region_at regions i) ≡ true → h (region_at regions i).prefix ≡ false → IsParent (region_prefixes regions) (region_at regions i).prefix p →
    answer ≡ h (region_at regions p).prefix
    → (not answer ≡ true → IsFreeThin h regions i) × (IsFreeThin h regions i → not answer ≡ true)
free_by h regions i p answer well within thin free parent is = (
  λ said. record {
    within = within;
    thin = thin;
    free = free;
    parent = λ q other.
        let same : p ≡ q = one_parent regions well (region_at regions i).prefix p q parent other in
        subst (λ k. h (region_at regions k).prefix ≡ false) same (sym is ∙ not-true answer said);
  },
  λ known. not_from_false answer (is ∙ known.parent p parent),
)

-- what holds at each step, by which functions answer
pub record IsSettling (A : (List Bool → Bool) → Type 0) (start : List Region) (room : ℕ) (regions : List Region) (now : ℕ) : Type 0 where
  pub few : (k : ℕ) → k < length regions → length (items_at regions k) ≤ 24
  pub roomy : All (λ (x : Item). length x.key.bits ≤ now) (items_in regions)
  pub same : HasSameItems start regions
  pub room_is : now ≡ room
  pub on : (h : List Bool → Bool) → A h → (end : List Region) → IsSettledUnless h regions end → IsSettledUnless h start end

-- the first free thin region was settled
pub settling_free : (A : (List Bool → Bool) → Type 0) (start : List Region) (room : ℕ) (old : List Region) (before : ℕ) (new : List Region) (after i : ℕ) →
    IsSettling A start room old before → ((h : List Bool → Bool) → A h → IsFirstFreeThin h old i) → IsSettled old i new → Recut old i new → after ≡ before
    → IsSettling A start room new after
settling_free A start room old before new after i was first settled step e =
    record {
      few = step.few;
      roomy = all_same (λ (x : Item). length x.key.bits ≤ after) old new step.same
          (subst (λ r. All (λ (x : Item). length x.key.bits ≤ r) (items_in old)) (sym e) was.roomy);
      same = same_through start old new was.same step.same;
      room_is = e ∙ was.room_is;
      on = λ h a end rest. was.on h a end (goes_on new i (first h a) settled rest);
    }
