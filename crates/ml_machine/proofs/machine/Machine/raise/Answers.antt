use Rattle.std.proofs.Common.{ap, ◌∙◌}
use Rattle.ml_heap.specs.Changes.{variable_count}
use Rattle.ml_machine.specs.declared.machine.Machine.{Machine}
use Rattle.ml_machine.proofs.ErrorsRaised.{ball_raised}
use Rattle.ml_machine.proofs.machine.Machine.raise.Goals as goal

pub returns : goal.returns
returns c p ps t same written v r =
    ball_raised p ps c.args.self.now c.in_ok-ball.ball c.args.error t c.args.next c.count.result
    (c.count.ensures ∙ ap (λ (s : Machine). variable_count s.memory.heap) c.self.view_is) c.in_ok-ball.ensures.same c.in_ok-ball.ensures.valid same written v r
