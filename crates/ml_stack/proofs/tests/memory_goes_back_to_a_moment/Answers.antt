use Rattle.std.proofs.Common.{sym, subst, []}
use Rattle.ml_stack.specs.Memories.{IsMoment, with_frame}
use Rattle.ml_stack.proofs.Moments.{moment_stays, is_moment_now}
use Rattle.ml_stack.proofs.CarriedPlainly.{frame_grows}
use Rattle.ml_stack.proofs.tests.memory_goes_back_to_a_moment.Goals as goal

pub go_back-requires : goal.go_back-requires
go_back-requires g c =
    subst (λ N. IsMoment N c.now-moment.result) (sym c.in_ok-push_frame-2.ensures.frames)
    (moment_stays _ _ [] (frame_grows c.push_frame.new.self _) c.now-moment.result
    (subst (λ m. IsMoment c.push_frame.new.self m) (sym c.now-moment.ensures) (is_moment_now c.push_frame.new.self)))
