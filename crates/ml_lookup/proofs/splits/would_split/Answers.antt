use Rattle.std.proofs.Common.{List, sym, subst, arith}
use Rattle.ml_region.specs.Regions.{IsApart, Region}
use Rattle.ml_lookup.specs.Full.{IsFull}
use Rattle.ml_lookup.proofs.ToldPrefixes.{new_to, not_full}
use Rattle.ml_lookup.proofs.splits.would_split.Goals as goal

pub returns-then-count-lt-MAX_REGION_ITEMS : goal.returns-then-count-lt-MAX_REGION_ITEMS
returns-then-count-lt-MAX_REGION_ITEMS c =
    let regions : List Region = c.regions-regions.result.now.regions in
    let key = c.args.key.now.bits in
    subst (λ rs. IsFull rs key → ⊥) c.regions-regions.ensures
    (not_full regions key c.owner_of-owner.result c.len-well_placed.ensures.well_placed c.owner_of-owner.ensures
    (omega (arith, c.if-count-lt-MAX_REGION_ITEMS.true, c.count.ensures)))

pub split_prefix-requires-clause-new : goal.split_prefix-requires-clause-new
split_prefix-requires-clause-new c x e =
    new_to c.regions-regions.result.now.regions c.owner_of-owner.result c.args.key.now x
    (record { owner = c.owner_of-owner.ensures; apart = subst (λ rs. IsApart rs c.args.key.now.bits) (sym c.regions-regions.ensures) c.requires }) e
