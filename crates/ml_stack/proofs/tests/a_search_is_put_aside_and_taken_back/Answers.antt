use Rattle.std.proofs.Common.{[], refl}
use Rattle.ml_stack.specs.Memories.{Contents}
use Rattle.ml_stack.proofs.StacksBegun.{nothing, waits_for, branch_stands, stacks_begin, made_inside}
use Rattle.ml_stack.proofs.tests.a_search_is_put_aside_and_taken_back.Goals as goal

pub take_back-end-requires : goal.take_back-end-requires
take_back-end-requires g c =
    let M : Contents = record {
      heap = c.new_var.new.self;
      frames = c.memory.inside.frames.items;
      slots = c.memory.inside.slots.items;
      saved = c.memory.inside.saved.items;
      codes = c.memory.inside.codes.items;
    } in (
      [],
      _,
      c.in_ok-put_aside.ensures.stands [] nothing (waits_for M c.in_ok-cell.cell)
          (stacks_begin M _ c.new.ensures.items c.new-2.ensures.items c.new-3.ensures.items) refl (branch_stands M)
          (made_inside _ M c.in_ok-cell.cell _ c.in_ok-cell.ensures.made),
    )
