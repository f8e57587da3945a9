use Rattle.std.proofs.Common.{refl}
use Rattle.ml_machine.proofs.BallsOut.{some_stacks, taken_out, ball_ends, ball_leaves}
use Rattle.ml_machine.proofs.BallsThrown.{throwing}
use Rattle.ml_machine.proofs.machine.Machine.throw_out.Goals as goal

pub take_back-requires : goal.take_back-requires
take_back-requires c = some_stacks c.requires.0 c.requires

pub undo_to-requires : goal.undo_to-requires
undo_to-requires c =
    let ps = c.requires.0 in
    (taken_out ps c.take_back.new.memory c.take_back.new.stacks c.in-Some.end c.in-Some.ensures.level (λ w s. c.in-Some.ensures.stands ps w s)
    (throwing ps c.requires.1.2).behind).kept

pub returns-in-None : goal.returns-in-None
returns-in-None c p ps =
    ball_ends ps p c.args.self.now c.args.self.now c.args.ball c.in-None.ensures.level (λ w s. c.in-None.ensures.stands ps w s) refl

pub returns-in-Some : goal.returns-in-Some
returns-in-Some c p ps =
    ball_leaves ps p c.args.self.now _ c.args.ball c.in-Some.end c.in-Some.ensures.level (λ w s. c.in-Some.ensures.stands ps w s) c.undo_to.ensures refl
