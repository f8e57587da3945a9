use Rattle.std.proofs.Common.{◌<◌, ◌≤◌, ◌++◌, length, take, inl, inr, sym, subst, arith}
use Rattle.ml_region.specs.Prefixes.{bits_at, IsParent}
use Rattle.ml_region.specs.Regions.{keys_at, region_at, region_prefixes}
use Rattle.ml_split.specs.RegionSplits.{goes_in, splits_again}
use Rattle.ml_split.proofs.RegionKeys.{meeting_length, one_parent}
use Rattle.ml_split.proofs.RegionSizes.{settled_few}
use Rattle.ml_split.proofs.region_settle.settle.Goals as goal

pub returns-then-count-le-MAX_REGION_ITEMS-clause-settled : goal.returns-then-count-le-MAX_REGION_ITEMS-clause-settled
returns-then-count-le-MAX_REGION_ITEMS-clause-settled g c =
    let few : length (keys_at c.args.regions.now.regions c.args.i ++ keys_at c.args.regions.now.regions c.in-Some.parent) ≤ 24 =
    omega (
      arith,
      meeting_length c.args.regions.now.regions c.args.i c.in-Some.parent,
      c.count.ensures,
      c.count-2.ensures,
      c.if-count-le-MAX_REGION_ITEMS.true,
    ) in
    goes_in c.in-Some.parent c.in-Some.ensures few c.merge.ensures.regions

pub recut-requires-clause-region : goal.recut-requires-clause-region
recut-requires-clause-region g c =
    elim c.meeting_place-place.ensures.one [
      | inl e ↦ inl e
      | inr e ↦ inr (subst (IsParent (region_prefixes c.args.regions.now.regions) (region_at c.args.regions.now.regions c.args.i).prefix)
          (sym e) c.in-Some.ensures)
    ]

pub recut-requires-clause-longer : goal.recut-requires-clause-longer
recut-requires-clause-longer g c p is =
    subst (λ k. length (region_at c.args.regions.now.regions k).prefix < c.meeting_place-place.result.bits)
    (one_parent c.args.regions.now.regions c.len-well_placed.ensures.well_placed
    (region_at c.args.regions.now.regions c.args.i).prefix c.in-Some.parent p c.in-Some.ensures is) c.meeting_place-place.ensures.place.longer

pub returns-clause-settled : goal.returns-clause-settled
returns-clause-settled g c =
    let many : 24 < length (keys_at c.args.regions.now.regions c.args.i ++ keys_at c.args.regions.now.regions c.in-Some.parent) =
    omega (
      arith,
      meeting_length c.args.regions.now.regions c.args.i c.in-Some.parent,
      c.count.ensures,
      c.count-2.ensures,
      c.if-count-le-MAX_REGION_ITEMS.false,
    ) in
    splits_again c.in-Some.parent (take c.meeting_place-place.result.bits
    (bits_at (keys_at c.args.regions.now.regions c.meeting_place-place.result.region) c.meeting_place-place.result.item))
    c.in-Some.ensures many c.meeting_place-place.ensures.place.split c.meeting_place-place.ensures.place.fair c.recut.ensures.regions

pub returns-then-count-le-MAX_REGION_ITEMS-clause-few : goal.returns-then-count-le-MAX_REGION_ITEMS-clause-few
returns-then-count-le-MAX_REGION_ITEMS-clause-few g c =
    settled_few c.args.regions.now.regions c.args.i _ c.len-well_placed.ensures.well_placed c.requires.within c.requires.thin
    (returns-then-count-le-MAX_REGION_ITEMS-clause-settled g c)

pub returns-clause-few : goal.returns-clause-few
returns-clause-few g c = settled_few c.args.regions.now.regions c.args.i _ c.len-well_placed.ensures.well_placed c.requires.within c.requires.thin
    (returns-clause-settled g c)
