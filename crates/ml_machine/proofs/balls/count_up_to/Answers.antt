use Rattle.std.proofs.Common.{[], subst}
use Rattle.ml_stack.specs.Memories.{Contents, Grows}
use Rattle.ml_machine.proofs.HeapsGrown.{numbers_grow, with_heap}
use Rattle.ml_machine.proofs.balls.count_up_to.Goals as goal

pub returns-clause-grows : goal.returns-clause-grows
returns-clause-grows c =
    let h = c.leave_out.new.self in
    let m = c.memory.inside in
    let before : Contents = record { heap = m.heap; frames = m.frames.items; slots = m.slots.items; saved = m.saved.items; codes = m.codes.items } in
    subst (λ M. Grows M (with_heap before h) []) c.memory.view_is (numbers_grow before h c.in_ok-leave_out.ensures.trees c.in_ok-leave_out.ensures.marks)
