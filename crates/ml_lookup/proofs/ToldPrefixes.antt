-- The prefix that was told is the one that comes.
use Rattle.std.proofs.Common.{◌≡◌, ◌<◌, ℕ, Bool, List, [], ◌∷◌, ◌++◌, length, get_or, sym, ap, subst, arith, length-append}
use Rattle.std.specs.Prelude.{Option, Some}
use Rattle.std.proofs.lemmas.List.{length-map}
use Rattle.std.proofs.lemmas.List.Elements.{Contains-get_or}
use Rattle.ml_bits.specs.BitList.{BitList}
use Rattle.ml_file.specs.Adding.{HasGrown, has_place, splits_first}
use Rattle.ml_home.specs.Homes.{Divides, HasCome, IsHome}
use Rattle.ml_home.proofs.PrefixHomes.{one_home}
use Rattle.ml_home.proofs.RegionPrefixes.{cut_prefixes, home_among, home_by, put_prefixes}
use Rattle.ml_region.specs.Prefixes.{IsOwner}
use Rattle.ml_region.specs.Regions.{IsApart, IsWellPlaced, Region, items_at, keys_at, region_at, region_prefixes}
use Rattle.ml_region.specs.declared.item.Item.{Item}
use Rattle.ml_region.proofs.OwnerSearch.{one_owner}
use Rattle.ml_region.proofs.StoredRegions.{region_prefixes_length}
use Rattle.ml_split.specs.RegionSplits.{IsNewTo}
use Rattle.ml_split.specs.Splitting.{IsFair, IsSplit}
use Rattle.ml_split.proofs.RegionKeys.{further_apart, further_begins}
use Rattle.ml_split.proofs.SplitWalk.{is_fair, one_split}
use Rattle.ml_lookup.specs.Full.{IsFull, WouldSplit}

-- the region that owns a key isn't full where it has few items
pub not_full : (regions : List Region) (key : List Bool) (i : ℕ) → IsWellPlaced regions → IsOwner (region_prefixes regions) key i →
    length (items_at regions i) < 24 → IsFull regions key → ⊥
not_full regions key i well owner few full =
    let same : full.region ≡ i = one_owner (region_prefixes regions) key full.region i well.rising full.owner owner in
    omega (arith, few, full.full, ap (λ k. length (items_at regions k)) same)

pub told_comes : (old new : List Region) (item : Item) (prefix : List Bool) → IsWellPlaced old → WouldSplit old item.key.bits prefix → HasGrown old item new →
    HasCome (region_prefixes old) (region_prefixes new) prefix
told_comes old new item prefix well told (has_place i owner few put) =
    absurd (not_full old item.key.bits i well owner few (record { region = told.region; owner = told.owner; full = told.full }))
told_comes old new item prefix well told (splits_first i middle owner many split put) =
    let key : List Bool = item.key.bits in
    let same : told.region ≡ i = one_owner (region_prefixes old) key told.region i well.rising told.owner owner in
    let here : IsSplit (keys_at old i ++ key ∷ []) (region_at old i).prefix prefix =
    subst (λ k. IsSplit (keys_at old k ++ key ∷ []) (region_at old k).prefix prefix) same told.split in
    let one : split.prefix ≡ prefix = one_split (keys_at old i ++ key ∷ []) (region_at old i).prefix split.prefix prefix split.split here in
    subst (λ ps. HasCome (region_prefixes old) ps prefix) (sym (put_prefixes middle new item put))
    (subst (HasCome (region_prefixes old) (region_prefixes middle)) one (cut_prefixes old middle i split.prefix split.cut))

pub none_comes : (old new : List Region) (item : Item) → (IsFull old item.key.bits → ⊥) → HasGrown old item new → region_prefixes new ≡ region_prefixes old
none_comes old new item room (has_place i owner few put) = put_prefixes old new item put
none_comes old new item room (splits_first i middle owner many split put) = absurd (room (record { region = i; owner = owner; full = many }))

-- of a key that is given
pub new_to : (regions : List Region) (i : ℕ) (key x : BitList) → IsNewTo regions i key.bits → Some key ≡ Some x → IsNewTo regions i x.bits
new_to regions i key x new e =
    let same : key ≡ x = cc in
    subst (λ (b : BitList). IsNewTo regions i b.bits) same new

pub told_divides : (regions : List Region) (key prefix home : List Bool) → IsWellPlaced regions → IsApart regions key → WouldSplit regions key prefix →
    IsHome (region_prefixes regions) key home → Divides (region_prefixes regions) home prefix
told_divides regions key prefix home well apart told is =
    let i : ℕ = told.region in
    let own : List Bool = (region_at regions i).prefix in
    let within : i < length regions = omega (arith, told.owner.within, region_prefixes_length regions) in
    let new : IsNewTo regions i key = record { owner = told.owner; apart = apart } in
    let given : BitList = record { bits = key; room = 0 } in
    let further : Option BitList = Some given in
    let all_new : (x : BitList) → Some given ≡ Some x → IsNewTo regions i x.bits = λ x e. new_to regions i given x new e in
    let keys : List (List Bool) = keys_at regions i ++ key ∷ [] in
    let as_many = length-map (items_at regions i) (λ (x : Item). x.key.bits) in
    let many : 1 < length keys = omega (arith, told.full, as_many, length-append (keys_at regions i) (key ∷ [])) in
    let fair : IsFair keys own prefix = is_fair keys own prefix many (further_apart regions well i within further all_new)
    (further_begins regions well i within further all_new) told.split in
    let same : own ≡ home = one_home (region_prefixes regions) key own home (home_by regions key i told.owner) is in
    subst (λ u. Divides (region_prefixes regions) u prefix) same (record {
      extends = fair.extends;
      longer = fair.longer;
      key = get_or keys fair.place [];
      at_home = home_among regions i key (get_or keys fair.place []) well within new (Contains-get_or keys fair.place [] fair.place_within);
      begins = fair.begins_key;
    })
