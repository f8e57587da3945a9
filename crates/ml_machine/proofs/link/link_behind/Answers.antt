use Rattle.std.proofs.Common.{ap, ◌∙◌, subst}
use Rattle.ml_stack.specs.declared.frame.Frame.TheVariants.{Body as BodyFrame}
use Rattle.ml_stack.specs.Memories.{with_frame}
use Rattle.ml_machine.specs.Instructions.{EndsBehind}
use Rattle.ml_machine.proofs.FirstGoals.{runs_end}
use Rattle.ml_machine.proofs.GrownFrames.{body_linked, no_more_frames, one_frame}
use Rattle.ml_machine.proofs.link.link_behind.Goals as goal

pub returns-then-ends-clause-goes_on : goal.returns-then-ends-clause-goes_on
returns-then-ends-clause-goes_on c ps w n gs e r = runs_end ps r (subst (λ b. EndsBehind ps c.args.memory.now c.args.at c.args.by b) c.if-ends.true e)

pub returns-then-ends-clause-frames : goal.returns-then-ends-clause-frames
returns-then-ends-clause-frames c = no_more_frames c.args.memory.now

pub returns-clause-frames : goal.returns-clause-frames
returns-clause-frames c = one_frame c.args.memory.now _ (BodyFrame c.in_ok-rest.rest) c.in_ok-link.ensures.frames

pub returns-clause-goes_on : goal.returns-clause-goes_on
returns-clause-goes_on c ps w n gs e r =
    body_linked ps (c.in_ok-link.ensures.frames ∙ ap (λ a. with_frame c.args.memory.now (BodyFrame a)) c.in_ok-rest.ensures) c.in_ok-link.ensures.link r
