use Rattle.std.proofs.Common.{refl, arith}
use Rattle.ml_split.proofs.RegionKeys.{parent_within}
use Rattle.ml_file.specs.SettledUnless.{Answers, rests}
use Rattle.ml_file.proofs.FreeSettling.{settling_free}
use Rattle.ml_file.proofs.RegionSettling.{Recut}
use Rattle.ml_file.proofs.SettleSteps.{both_room, same_itself, settled_facts, thin_few, thin_nested}
use Rattle.ml_file.proofs.file.settle_unless.settle_free.Goals as goal

pub settling-init : goal.settling-init
settling-init g c =
    record { few = c.requires.few; roomy = c.requires.roomy; same = same_itself c.args.regions.now.regions; room_is = refl; on = λ h a end s. s }

pub settle-requires-clause-nested : goal.settle-requires-clause-nested
settle-requires-clause-nested g c = thin_nested c.settling.regions.regions c.in-Some.i c.len-well_placed.ensures.well_placed c.in-Some.ensures.thin

pub settle-requires-clause-thin : goal.settle-requires-clause-thin
settle-requires-clause-thin g c = thin_few c.settling.regions.regions c.in-Some.i c.in-Some.ensures.thin

pub settle-requires-clause-parent : goal.settle-requires-clause-parent
settle-requires-clause-parent g c p is = c.settling.invariant.few p (parent_within c.settling.regions.regions c.in-Some.i p is)

pub settle-requires-clause-room : goal.settle-requires-clause-room
settle-requires-clause-room g c p is =
    both_room c.settling.regions.regions c.settling.regions.room c.in-Some.i p c.in-Some.ensures.within
    (parent_within c.settling.regions.regions c.in-Some.i p is) c.settling.invariant.roomy

pub settling-smaller : goal.settling-smaller
settling-smaller g c =
    let step : Recut c.settling.regions.regions c.in-Some.i c.settle.new.regions.regions =
    settled_facts c.settling.regions.regions c.in-Some.i c.settle.new.regions.regions c.len-well_placed.ensures.well_placed c.in-Some.ensures.within
    c.in-Some.ensures.thin c.settling.invariant.few c.settle.ensures.settled in
    omega (arith, step.fewer)

pub settling-preserved : goal.settling-preserved
settling-preserved g c =
    settling_free (λ h. Answers g.F.Fn c.args.held.now h) _ _ c.settling.regions.regions c.settling.regions.room c.settle.new.regions.regions
    c.settle.new.regions.room c.in-Some.i c.settling.invariant c.in-Some.ensures.first c.settle.ensures.settled
    (settled_facts c.settling.regions.regions c.in-Some.i c.settle.new.regions.regions c.len-well_placed.ensures.well_placed c.in-Some.ensures.within
    c.in-Some.ensures.thin c.settling.invariant.few c.settle.ensures.settled) c.settle.ensures.room

pub returns-in_default-clause-steps : goal.returns-in_default-clause-steps
returns-in_default-clause-steps g c h a = c.settling.invariant.on h a c.settling.regions.regions (rests (c.in_default.ensures.first h a))
