-- On to the right operand, or to the outline of the connective.
use Rattle.std.proofs.Common.{◌++◌, ◌∷◌, [], refl, ap, subst, arith}
use Rattle.ml_called.specs.declared.walk.Frame.{Frame}
use Rattle.ml_called.specs.declared.walk.Frame.TheVariants.{Second}
use Rattle.ml_called.specs.declared.walk.Step.TheVariants.{Outlined}
use Rattle.ml_called.specs.inside.Outlines.{IsWalking, work_of_frame, work_of_frames}
use Rattle.ml_called.proofs.Walks.{walk_goes_on, walk_joins, work_with_last}
use Rattle.ml_called.proofs.walk.resume.Goals as goal

pub returns-in_ok-push-in-First-clause-walking : goal.returns-in_ok-push-in-First-clause-walking
returns-in_ok-push-in-First-clause-walking c = λ h old want slots w.
    let frames = c.args.frames.now.items in
    walk_goes_on h old want frames _ slots c.in-First.name c.in-First.second c.args.term
    (subst (λ (f : Frame). IsWalking h old want (frames ++ f ∷ []) slots (Outlined c.args.term)) c.in-First.is w) c.in_ok-push-in-First.ensures.items

pub returns-in_ok-push-in-First-clause-less : goal.returns-in_ok-push-in-First-clause-less
returns-in_ok-push-in-First-clause-less c = λ h.
    omega (
      arith,
      ap (work_of_frames h) c.in_ok-push-in-First.ensures.items,
      work_with_last h c.args.frames.now.items (Second c.in-First.name c.args.term),
      ap (work_of_frame h) c.in-First.is,
    )

pub returns-in_ok-pair_of-in-Second-clause-walking : goal.returns-in_ok-pair_of-in-Second-clause-walking
returns-in_ok-pair_of-in-Second-clause-walking c = λ h old want slots w.
    let frames = c.args.frames.now.items in
    walk_joins h old want frames frames slots c.in-Second.name c.in-Second.first c.args.term _
    (subst (λ (f : Frame). IsWalking h old want (frames ++ f ∷ []) slots (Outlined c.args.term)) c.in-Second.is w) refl c.in_ok-pair_of-in-Second.ensures
