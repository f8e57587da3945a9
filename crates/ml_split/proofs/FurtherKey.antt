-- A region that is split for its keys and a further one.
use Rattle.std.proofs.Common.{◌≡◌, ℕ, ◌<◌, ◌≤◌, Bool, List, [], ◌∷◌, ◌++◌, length, take, sym, ap, ◌∙◌, subst, arith, length-append}
use Rattle.std.specs.Prelude.{Some}
use Rattle.std.specs.List.{All}
use Rattle.std.specs.Option.{ForSome}
use Rattle.std.proofs.lemmas.List.{length-map, get_or_append_left}
use Rattle.ml_bits.specs.BitList.{BitList, Begins}
use Rattle.ml_region.specs.Prefixes.{bits_at}
use Rattle.ml_region.specs.Regions.{Region, IsWellPlaced, items_at, keys_at, region_at}
use Rattle.ml_region.specs.declared.item.Item.{Item}
use Rattle.ml_split.specs.RegionSplits.{IsNewTo}
use Rattle.ml_split.specs.Splitting.{AreApart, IsFair, IsSplit}
use Rattle.ml_split.proofs.SplitWalk.{is_fair}
use Rattle.ml_split.proofs.RegionKeys.{further_apart, further_begins, last_key}

pub some_new : (regions : List Region) (i : ℕ) (key : BitList) → IsNewTo regions i key.bits → ForSome (Some key) (λ k. IsNewTo regions i k.bits)
some_new regions i key new x e =
    let same : key ≡ x = cc e in
    subst (λ k. IsNewTo regions i k.bits) same new

pub with_apart : (regions : List Region) → IsWellPlaced regions → (i : ℕ) → i < length regions → (key : BitList) → IsNewTo regions i key.bits
    → AreApart (keys_at regions i ++ key.bits ∷ [])
with_apart regions well i h key new = further_apart regions well i h (Some key) (some_new regions i key new)

pub with_begins : (regions : List Region) → IsWellPlaced regions → (i : ℕ) → i < length regions → (key : BitList) → IsNewTo regions i key.bits
    → All (Begins (region_at regions i).prefix) (keys_at regions i ++ key.bits ∷ [])
with_begins regions well i h key new = further_begins regions well i h (Some key) (some_new regions i key new)

-- the split is fair, however its prefix is read
pub with_fair : (regions : List Region) → IsWellPlaced regions → (i : ℕ) → i < length regions → (key : BitList) → IsNewTo regions i key.bits
    → 24 ≤ length (items_at regions i) → (prefix new same : List Bool) → prefix ≡ (region_at regions i).prefix → new ≡ same
    → IsSplit (keys_at regions i ++ key.bits ∷ []) prefix new → IsFair (keys_at regions i ++ key.bits ∷ []) (region_at regions i).prefix same
with_fair regions well i h key known many prefix new same e f split =
    let keys : List (List Bool) = keys_at regions i ++ key.bits ∷ [] in
    let there : IsSplit keys (region_at regions i).prefix same =
    subst (IsSplit keys (region_at regions i).prefix) f (subst (λ q. IsSplit keys q new) e split) in
    let long = length-map (items_at regions i) (λ (x : Item). x.key.bits) in
    is_fair keys (region_at regions i).prefix same (omega (arith, long, length-append (keys_at regions i) (key.bits ∷ [])))
    (with_apart regions well i h key known) (with_begins regions well i h key known) there

-- a key of these is an item's or the further one
pub item_key_of : (regions : List Region) (i a bits : ℕ) (key : List Bool) → a < length (items_at regions i)
    → take bits (bits_at (keys_at regions i ++ key ∷ []) a) ≡ take bits (bits_at (keys_at regions i) a)
item_key_of regions i a bits key h =
    ap (take bits) (get_or_append_left (keys_at regions i) (key ∷ []) [] a (omega (arith, h, length-map (items_at regions i) (λ (x : Item). x.key.bits))))

pub further_key_of : (regions : List Region) (i a own bits : ℕ) (key : List Bool) → own ≡ length (items_at regions i) → own ≤ a →
    a < length (keys_at regions i ++ key ∷ [])
    → take bits (bits_at (keys_at regions i ++ key ∷ []) a) ≡ take bits key
further_key_of regions i a own bits key e h l =
    ap (take bits) (last_key (keys_at regions i) key a own (e ∙ sym (length-map (items_at regions i) (λ (x : Item). x.key.bits))) h l)
