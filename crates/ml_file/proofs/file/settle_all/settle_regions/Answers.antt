use Rattle.std.proofs.Common.{arith}
use Rattle.ml_split.proofs.RegionKeys.{parent_within}
use Rattle.ml_file.specs.Settled.{at_rest}
use Rattle.ml_file.proofs.RegionSettling.{Recut}
use Rattle.ml_file.proofs.SettleSteps.{both_room, settled_facts, settling_on}
use Rattle.ml_file.proofs.file.settle_all.settle_regions.Goals as goal

pub settle-requires-clause-room : goal.settle-requires-clause-room
settle-requires-clause-room g c p is =
    both_room c.settling.regions.regions c.settling.regions.room c.in-Some.i p c.in-Some.ensures.within
    (parent_within c.settling.regions.regions c.in-Some.i p is) c.settling.invariant.roomy

pub settling-smaller : goal.settling-smaller
settling-smaller g c =
    let step : Recut c.settling.regions.regions c.in-Some.i c.settle.new.regions.regions =
    settled_facts c.settling.regions.regions c.in-Some.i c.settle.new.regions.regions c.len-well_placed.ensures.well_placed c.in-Some.ensures.within
    c.in-Some.ensures.thin c.settling.invariant.few c.settle.ensures.settled in
    omega (arith, step.fewer)

pub settling-preserved : goal.settling-preserved
settling-preserved g c =
    settling_on _ _ c.settling.regions.regions c.settling.regions.room c.settling.from c.settle.new.regions.regions c.settle.new.regions.room c.in-Some.i
    c.settling.invariant c.in-Some.ensures c.settle.ensures.settled
    (settled_facts c.settling.regions.regions c.in-Some.i c.settle.new.regions.regions c.len-well_placed.ensures.well_placed c.in-Some.ensures.within
    c.in-Some.ensures.thin c.settling.invariant.few c.settle.ensures.settled) c.settle.ensures.room

pub returns-in_default-clause-steps : goal.returns-in_default-clause-steps
returns-in_default-clause-steps g c = c.settling.invariant.on c.settling.regions.regions (at_rest c.in_default.ensures)
