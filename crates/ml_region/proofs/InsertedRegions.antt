-- Regions stay well placed where a new region comes between them.
use Rattle.std.proofs.Common.{◌≡◌, ℕ, zero, suc, ◌+◌, ◌<◌, ◌≤◌, Bool, List, [], length, sym, ap, subst, ◌∙◌, arith}
use Rattle.std.specs.Prelude.{Contains}
use Rattle.std.specs.List.{insert}
use Rattle.std.proofs.lemmas.List.Edits.{length-insert, get_or-insert_below}
use Rattle.ml_bits.specs.BitList.{Begins}
use Rattle.ml_term.specs.Keys.{key_cmp}
use Rattle.ml_region.specs.Prefixes.{bits_at, IsRising, IsPlaceFor, IsOwner}
use Rattle.ml_region.specs.Regions.{Region, region_prefixes, empty_region, region_at, keys_of, keys_at, IsWellPlaced}
use Rattle.ml_region.proofs.ListInsertions.{map_insert, in_insert, rising_insert}
use Rattle.ml_region.proofs.ListInsertions.InInsert.{in_front, itself, behind}
use Rattle.ml_region.proofs.ListingChanges.{not_before_root}
use Rattle.ml_region.proofs.StoredRegions.{prefix_of_region, region_prefixes_length}

-- what a new region must keep
pub record MayCome (regions : List Region) (r : Region) (c : ℕ) : Type 0 where
  pub fits : IsPlaceFor (region_prefixes regions) r.prefix c
  pub ordered : IsRising (keys_of r.items)
  pub few : length r.items ≤ 31
  pub begins : (key : List Bool) → Contains (keys_of r.items) key → Begins r.prefix key
  pub longest : (key : List Bool) (m : ℕ) → Contains (keys_of r.items) key → m < length regions → Begins (bits_at (region_prefixes regions) m) key
      → length (bits_at (region_prefixes regions) m) ≤ length r.prefix
  pub others : (m : ℕ) (key : List Bool) → m < length regions → Contains (keys_at regions m) key → Begins r.prefix key →
      length r.prefix ≤ length (bits_at (region_prefixes regions) m)
  pub inside : (key other : List Bool) → Contains (keys_of r.items) key → Contains (keys_of r.items) other → Begins key other → key ≡ other
  pub outside : (m : ℕ) (key other : List Bool) → m < length regions → Contains (keys_of r.items) key → Contains (keys_at regions m) other
      → (Begins key other → key ≡ other) × (Begins other key → other ≡ key)

prefixes_with : (regions : List Region) (c : ℕ) (r : Region) → region_prefixes (insert regions c r) ≡ insert (region_prefixes regions) c r.prefix
prefixes_with regions c r = map_insert (λ (r : Region). r.prefix) regions c r

same_prefix : (regions new : List Region) (n m : ℕ) → region_at new n ≡ region_at regions m →
    bits_at (region_prefixes new) n ≡ bits_at (region_prefixes regions) m
same_prefix regions new n m e = prefix_of_region new n ∙ ap (λ (r : Region). r.prefix) e ∙ sym (prefix_of_region regions m)

-- each prefix of the new list is an old one or the new one
longest_with : (regions : List Region) (c : ℕ) (r : Region) (key : List Bool) (bound : ℕ) → c ≤ length regions
    → ((m : ℕ) → m < length regions → Begins (bits_at (region_prefixes regions) m) key → length (bits_at (region_prefixes regions) m) ≤ bound)
    → (Begins r.prefix key → length r.prefix ≤ bound)
    → (i : ℕ) → i < length (region_prefixes (insert regions c r)) → Begins (bits_at (region_prefixes (insert regions c r)) i) key
    → length (bits_at (region_prefixes (insert regions c r)) i) ≤ bound
longest_with regions c r key bound h old new i l b =
    let long : length (insert regions c r) ≡ length regions + 1 = length-insert regions c r h in
    let l' : i < length (insert regions c r) = omega (arith, region_prefixes_length (insert regions c r)) in
    elim (in_insert regions c r empty_region i h) [
      | in_front a e ↦
          let s : bits_at (region_prefixes (insert regions c r)) i ≡ bits_at (region_prefixes regions) i = same_prefix regions (insert regions c r) i i e in
          subst (λ p. length p ≤ bound) (sym s) (old i (omega arith) (subst (λ p. Begins p key) s b))
      | itself a e ↦
          let s : bits_at (region_prefixes (insert regions c r)) i ≡ r.prefix = prefix_of_region (insert regions c r) i ∙ ap (λ (r : Region). r.prefix) e in
          subst (λ p. length p ≤ bound) (sym s) (new (subst (λ p. Begins p key) s b))
      | behind j f a e ↦
          let s : bits_at (region_prefixes (insert regions c r)) i ≡ bits_at (region_prefixes regions) j = same_prefix regions (insert regions c r) i j e in
          subst (λ p. length p ≤ bound) (sym s) (old j (omega arith) (subst (λ p. Begins p key) s b))
    ]

owner_stays : (regions : List Region) (c : ℕ) (r : Region) (key : List Bool) (n m : ℕ) → c ≤ length regions → n < length (insert regions c r)
    → region_at (insert regions c r) n ≡ region_at regions m → IsOwner (region_prefixes regions) key m
    → (Begins r.prefix key → length r.prefix ≤ length (bits_at (region_prefixes regions) m)) → IsOwner (region_prefixes (insert regions c r)) key n
owner_stays regions c r key n m h l e owner other =
    let s : bits_at (region_prefixes (insert regions c r)) n ≡ bits_at (region_prefixes regions) m = same_prefix regions (insert regions c r) n m e in
    record {
      within = omega (arith, region_prefixes_length (insert regions c r));
      begins = subst (λ p. Begins p key) (sym s) owner.begins;
      longest = λ i g b. subst (λ p. length (bits_at (region_prefixes (insert regions c r)) i) ≤ length p) (sym s)
          (longest_with regions c r key (length (bits_at (region_prefixes regions) m)) h
          (λ k f d. owner.longest k (omega (arith, region_prefixes_length regions)) d) other i g b);
    }

owner_comes : (regions : List Region) (c : ℕ) (r : Region) (key : List Bool) (n : ℕ) → MayCome regions r c → c ≤ length regions →
    n < length (insert regions c r)
    → region_at (insert regions c r) n ≡ r → Contains (keys_of r.items) key → IsOwner (region_prefixes (insert regions c r)) key n
owner_comes regions c r key n may h l e there =
    let s : bits_at (region_prefixes (insert regions c r)) n ≡ r.prefix = prefix_of_region (insert regions c r) n ∙ ap (λ (r : Region). r.prefix) e in
    record {
      within = omega (arith, region_prefixes_length (insert regions c r));
      begins = subst (λ p. Begins p key) (sym s) (may.begins key there);
      longest = λ i g b. subst (λ p. length (bits_at (region_prefixes (insert regions c r)) i) ≤ length p) (sym s)
          (longest_with regions c r key (length r.prefix) h (λ k f d. may.longest key k there f d) (λ d. omega arith) i g b);
    }

keys_moved : (key : List Bool) (r q : Region) → r ≡ q → Contains (keys_of r.items) key → Contains (keys_of q.items) key
keys_moved key r q e c = subst (λ (r : Region). Contains (keys_of r.items) key) e c

-- the root stays in front
behind_first : (regions : List Region) (c : ℕ) (r : Region) → IsWellPlaced regions → MayCome regions r c → 0 < c
behind_first regions zero r placed may =
    let root : bits_at (region_prefixes regions) 0 ≡ [] = prefix_of_region regions 0 ∙ placed.root in
    absurd (not_before_root r.prefix (ap (key_cmp r.prefix) (sym root)
    ∙ may.fits.above 0 (omega arith) (omega (arith, placed.some, region_prefixes_length regions))))
behind_first regions (suc c) r placed may = omega arith

-- the keys of an old region and of any
apart_from : (regions : List Region) (c : ℕ) (r : Region) → IsWellPlaced regions → MayCome regions r c → (k m : ℕ) (key other : List Bool) → k < length regions
    → m < length (insert regions c r) → Contains (keys_at regions k) key → Contains (keys_at (insert regions c r) m) other → Begins key other → key ≡ other
apart_from regions c r placed may k m key other l g there too b =
    let h : c ≤ length regions = omega (arith, may.fits.within, region_prefixes_length regions) in
    let long : length (insert regions c r) ≡ length regions + 1 = length-insert regions c r h in
    elim (in_insert regions c r empty_region m h) [
      | in_front a e ↦ placed.apart k m key other l (omega arith) there (keys_moved other (region_at (insert regions c r) m) (region_at regions m) e too) b
      | itself a e ↦ (may.outside k other key l (keys_moved other (region_at (insert regions c r) m) r e too) there).1 b
      | behind j f a e ↦ placed.apart k j key other l (omega arith) there (keys_moved other (region_at (insert regions c r) m) (region_at regions j) e too) b
    ]

-- the keys of the new region and of any
apart_new : (regions : List Region) (c : ℕ) (r : Region) → IsWellPlaced regions → MayCome regions r c → (m : ℕ) (key other : List Bool)
    → m < length (insert regions c r) → Contains (keys_of r.items) key → Contains (keys_at (insert regions c r) m) other → Begins key other → key ≡ other
apart_new regions c r placed may m key other g there too b =
    let h : c ≤ length regions = omega (arith, may.fits.within, region_prefixes_length regions) in
    let long : length (insert regions c r) ≡ length regions + 1 = length-insert regions c r h in
    elim (in_insert regions c r empty_region m h) [
      | in_front a e ↦ (may.outside m key other (omega arith) there (keys_moved other (region_at (insert regions c r) m) (region_at regions m) e too)).0 b
      | itself a e ↦ may.inside key other there (keys_moved other (region_at (insert regions c r) m) r e too) b
      | behind j f a e ↦ (may.outside j key other (omega arith) there (keys_moved other (region_at (insert regions c r) m) (region_at regions j) e too)).0 b
    ]

pub placed_insert : (regions : List Region) (c : ℕ) (r : Region) → IsWellPlaced regions → MayCome regions r c → IsWellPlaced (insert regions c r)
placed_insert regions c r placed may =
    let new : List Region = insert regions c r in
    let h : c ≤ length regions = omega (arith, may.fits.within, region_prefixes_length regions) in
    let long : length new ≡ length regions + 1 = length-insert regions c r h in
    let nested : 0 < c = behind_first regions c r placed may in
    record {
      some = omega arith;
      root = ap (λ (q : Region). q.prefix) (get_or-insert_below regions c r empty_region 0 nested h) ∙ placed.root;
      rising = subst IsRising (sym (prefixes_with regions c r)) (rising_insert (region_prefixes regions) r.prefix c placed.rising may.fits);
      ordered = λ n l. elim (in_insert regions c r empty_region n h) [
        | in_front a e ↦ subst (λ (q : Region). IsRising (keys_of q.items)) (sym e) (placed.ordered n (omega arith))
        | itself a e ↦ subst (λ (q : Region). IsRising (keys_of q.items)) (sym e) may.ordered
        | behind j f a e ↦ subst (λ (q : Region). IsRising (keys_of q.items)) (sym e) (placed.ordered j (omega arith))
      ];
      few = λ n l. elim (in_insert regions c r empty_region n h) [
        | in_front a e ↦ subst (λ (q : Region). length q.items ≤ 31) (sym e) (placed.few n (omega arith))
        | itself a e ↦ subst (λ (q : Region). length q.items ≤ 31) (sym e) may.few
        | behind j f a e ↦ subst (λ (q : Region). length q.items ≤ 31) (sym e) (placed.few j (omega arith))
      ];
      owned = λ n key l there. elim (in_insert regions c r empty_region n h) [
        | in_front a e ↦
            let there' : Contains (keys_at regions n) key = keys_moved key (region_at new n) (region_at regions n) e there in
            owner_stays regions c r key n n h l e (placed.owned n key (omega arith) there') (may.others n key (omega arith) there')
        | itself a e ↦ owner_comes regions c r key n may h l e (keys_moved key (region_at new n) r e there)
        | behind j f a e ↦
            let there' : Contains (keys_at regions j) key = keys_moved key (region_at new n) (region_at regions j) e there in
            owner_stays regions c r key n j h l e (placed.owned j key (omega arith) there') (may.others j key (omega arith) there')
      ];
      apart = λ n m key other l g there too b. elim (in_insert regions c r empty_region n h) [
        | in_front a e ↦ apart_from regions c r placed may n m key other (omega arith) g (keys_moved key (region_at new n) (region_at regions n) e there) too b
        | itself a e ↦ apart_new regions c r placed may m key other g (keys_moved key (region_at new n) r e there) too b
        | behind j f a e ↦ apart_from regions c r placed may j m key other (omega arith) g
            (keys_moved key (region_at new n) (region_at regions j) e there) too b
      ];
    }
