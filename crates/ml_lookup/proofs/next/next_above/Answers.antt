use Rattle.std.proofs.Common.{subst}
use Rattle.ml_region.specs.Prefixes.{IsOwner, IsParent}
use Rattle.ml_region.specs.Regions.{IsWellPlaced, region_at, region_prefixes}
use Rattle.ml_term.specs.Seen.{seen}
use Rattle.ml_lookup.proofs.Climbing.{climbed, climbing_begins, climbing_on}
use Rattle.ml_lookup.proofs.next.next_above.Goals as goal

pub above-init : goal.above-init
above-init c =
    climbing_begins c.args.file.now.decl.kind (seen c.args.head.now) c.args.after.now c.args.file.now.regions c.owner_of-i.result
    (subst (λ rs. IsOwner (region_prefixes rs) c.args.after.now.bits c.owner_of-i.result) c.regions-regions.ensures c.owner_of-i.ensures)

pub returns-in_default : goal.returns-in_default
returns-in_default c =
    climbed c.args.file.now.decl.kind (seen c.args.head.now) c.args.after.now c.args.file.now.regions c.above.i c.above.best c.in_ok-best.best
    (subst IsWellPlaced c.regions-regions.ensures c.len-well_placed.ensures.well_placed) c.above.invariant
    (c.in_ok-best.ensures c.above.invariant.items c.above.invariant.next) c.in_default.ensures

pub above-preserved : goal.above-preserved
above-preserved c =
    climbing_on c.args.file.now.decl.kind (seen c.args.head.now) c.args.after.now c.args.file.now.regions c.above.i c.in-Some.parent c.above.best
    c.in_ok-best.best (subst IsWellPlaced c.regions-regions.ensures c.len-well_placed.ensures.well_placed) c.above.invariant
    (c.in_ok-best.ensures c.above.invariant.items c.above.invariant.next)
    (subst (λ rs. IsParent (region_prefixes rs) (region_at rs c.above.i).prefix c.in-Some.parent) c.regions-regions.ensures c.in-Some.ensures)
