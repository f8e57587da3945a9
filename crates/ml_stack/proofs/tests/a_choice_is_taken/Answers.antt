use Rattle.std.proofs.Common.{[], ◌∷◌}
use Rattle.std.specs.Prelude.{reverse}
use Rattle.ml_asking.specs.Asking.{branch_choice}
use Rattle.ml_stack.specs.Stands.{with_stacks}
use Rattle.ml_stack.proofs.StacksBegun.{nothing, branch_at_end, left_stands, choices_begin}
use Rattle.ml_stack.proofs.tests.a_choice_is_taken.Goals as goal

pub take_choice-left-requires : goal.take_choice-left-requires
take_choice-left-requires g c =
    let e = branch_choice (branch_at_end c.new-memory.result) in (
      [],
      with_stacks nothing (reverse c.push_choice.new.choices.items) (e ∷ []),
      c.in_ok-push_choice.ensures.pushed [] nothing e
          (choices_begin c.new-memory.result _ c.new-choices.ensures.items) (left_stands c.new-memory.result),
    )
