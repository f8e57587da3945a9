use Rattle.std.proofs.Common.{refl, ap, ◌∙◌}
use Rattle.std.specs.Prelude.{slice_get}
use Rattle.ml_machine.proofs.AnswersFound.{after_keeping, wanted_inside}
use Rattle.ml_machine.proofs.machine.Machine.keep_answer.Goals as goal

pub copy_answer-requires : goal.copy_answer-requires
copy_answer-requires c = wanted_inside c.in-Some.wanted (c.in-Some.ensures ∙ ap (λ xs. slice_get xs 0) c.as_slice.ensures.value) c.requires.stands.1

pub returns : goal.returns
returns c p ps =
    after_keeping p ps c.args.self.now _ c.in-Some-pop.level c.pop.new.self.items c.push.new.self c.in-Some.wanted c.in_ok-copy.copy refl refl refl refl
    c.in-Some-pop.ensures.items c.in_ok-push-2.ensures.items c.in_ok-push.ensures.items
    (c.in-Some.ensures ∙ ap (λ xs. slice_get xs 0) c.as_slice.ensures.value) c.in_ok-copy.ensures
