use Rattle.std.proofs.Common.{ap, ◌∙◌, ◌++◌, ◌∷◌, []}
use Rattle.ml_stack.proofs.WaitingLevels.{stacks_put_aside}
use Rattle.ml_stack.proofs.AnswersKept.{put_aside_keeps}
use Rattle.ml_stack.proofs.levels.put_aside.Goals as goal

pub returns-clause-stands : goal.returns-clause-stands
returns-clause-stands c ps w o s es b t =
    stacks_put_aside ps c.args.memory.now c.args.stacks.now _ w o _ c.args.call.now.template s es b t c.now.ensures
    c.replace-choices.ensures.value c.replace-terms.ensures.value
    _ c.replace-choices.ensures.after c.new.ensures.items
    _ c.replace-terms.ensures.after (c.in_ok-push.ensures.items ∙ ap (λ rs. rs ++ c.args.call.now.template ∷ []) c.new-inner.ensures.items)
    c.in_ok-push-2.ensures.items

pub returns-clause-keeps : goal.returns-clause-keeps
returns-clause-keeps c os o written k =
    put_aside_keeps c.args.answers.now c.args.stacks.now.levels.items c.push-2.new.self.items _ os o written c.in_ok-push-2.ensures.items c.mark.ensures
    c.new-2.ensures.items k
