use Rattle.std.proofs.Common.{◌≡◌, ◌<◌, ◌≤◌, List, length, sym, ap, subst, arith}
use Rattle.std.specs.Prelude.{Contains, MatchOption}
use Rattle.std.proofs.lemmas.Bool.{le-leb, leb-true}
use Rattle.ml_file.specs.Files.{IsAbsent, IsHeld}
use Rattle.ml_file.proofs.HeldItems.{weaker}
use Rattle.ml_home.specs.Homes.{IsHome}
use Rattle.ml_home.proofs.RegionPrefixes.{home_by}
use Rattle.ml_region.proofs.OwnerSearch.{one_owner}
use Rattle.ml_region.proofs.StoredRegions.{region_prefixes_length}
use Rattle.ml_region.specs.Regions.{Region, items_at, keys_of, region_prefixes}
use Rattle.ml_region.specs.declared.item.Item.{Item}
use Rattle.ml_lookup.specs.Full.{IsFull}
use Rattle.ml_lookup.proofs.OwnerItems.{held_at, nowhere}
use Rattle.ml_lookup.proofs.homes.look_up.Goals as goal

pub returns-clause-home : goal.returns-clause-home
returns-clause-home c =
    let regions : List Region = c.regions-regions.result.now.regions in
    let key = c.args.key.now.bits in
    subst (λ rs. IsHome (region_prefixes rs) key c.prefix.result.now.bits) c.regions-regions.ensures
    (subst (IsHome (region_prefixes regions) key) (sym c.prefix.ensures.bits) (home_by regions key c.owner_of-owner.result c.owner_of-owner.ensures))

pub returns-clause-item : goal.returns-clause-item
returns-clause-item c =
    let regions : List Region = c.regions-regions.result.now.regions in
    let key = c.args.key.now.bits in
    let owner = c.owner_of-owner.result in
    let items : List Item = c.items-items.result.now in
    let within : owner < length regions = omega (arith, c.owner_of-owner.ensures.within, region_prefixes_length regions) in
    subst (λ rs. MatchOption c.with_key.result (IsAbsent rs key) (λ item. IsHeld rs key item.now)) c.regions-regions.ensures
    (weaker c.with_key.result (Contains (keys_of items) key → ⊥) (IsAbsent regions key) (λ item. Contains items item.now × (item.now.key.bits ≡ key))
    (λ item. IsHeld regions key item.now)
    (λ lacks. nowhere regions key owner c.len-well_placed.ensures.well_placed c.owner_of-owner.ensures
    (subst (λ xs. Contains (keys_of xs) key → ⊥) c.items-items.ensures lacks))
    (λ item has. held_at regions key owner item.now within (subst (λ xs. Contains xs item.now × (item.now.key.bits ≡ key)) c.items-items.ensures has))
    c.with_key.ensures)

pub returns-clause-full : goal.returns-clause-full
returns-clause-full c =
    let regions : List Region = c.regions-regions.result.now.regions in
    let key = c.args.key.now.bits in
    let owner = c.owner_of-owner.result in
    let items : List Item = c.items-items.result.now in (
      λ said.
          let many : 24 ≤ length (items_at regions owner) = omega (arith, leb-true 24 (length items) said, ap length c.items-items.ensures) in
          subst (λ rs. IsFull rs key) c.regions-regions.ensures (record { region = owner; owner = c.owner_of-owner.ensures; full = many }),
      λ full.
          let here : IsFull regions key = subst (λ rs. IsFull rs key) (sym c.regions-regions.ensures) full in
          let same : here.region ≡ owner = one_owner (region_prefixes regions) key here.region owner c.len-well_placed.ensures.well_placed.rising here.owner
          c.owner_of-owner.ensures in
          le-leb 24 (length items) (omega (arith, here.full, ap (λ k. length (items_at regions k)) same, ap length c.items-items.ensures)),
    )
