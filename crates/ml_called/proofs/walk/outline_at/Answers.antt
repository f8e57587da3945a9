-- The walk begins at the whole term, and each step leaves less.
use Rattle.std.proofs.Common.{refl, ap, arith}
use Rattle.ml_called.specs.declared.walk.Step.TheVariants.{Enter}
use Rattle.ml_called.specs.inside.Outlines.{work_of_frames, work_of_step}
use Rattle.ml_called.proofs.Slots.{begins_itself}
use Rattle.ml_called.proofs.Walks.{walk_begins, work_with_last}
use Rattle.ml_called.proofs.walk.outline_at.Goals as goal

pub loop-step-init : goal.loop-step-init
loop-step-init c = record {
  walking = walk_begins c.args.heap.now c.args.slots.now.items c.new-frames.result.items c.args.at (Enter c.args.at) c.requires c.new-frames.ensures.items refl;
  env = omega (arith, c.args.slots.now.ok.0, c.len-env.ensures);
  begins = begins_itself c.args.slots.now.items;
}

pub loop-step-smaller : goal.loop-step-smaller
loop-step-smaller c =
    let h = c.args.heap.now in
    omega (
      arith,
      c.in_ok-step-in-Some.ensures.less h,
      ap (work_of_frames h) c.in-Some.ensures.items,
      work_with_last h c.pop.new.self.items c.in-Some.frame,
      ap (work_of_step h) c.in-Outlined.is,
    )
