use Rattle.std.proofs.Common.{◌+◌, [], refl, sym, subst}
use Rattle.std.proofs.lemmas.Option.{slice_get_read}
use Rattle.ml_machine.specs.AnswersGathered.{AreCopied}
use Rattle.ml_machine.proofs.CopiesMade.{none_copied, one_copied, a_copy_inside, all_taken}
use Rattle.ml_machine.proofs.findall.copy_found.Goals as goal

pub loop-answer-init : goal.loop-answer-init
loop-answer-init c all a =
    subst (λ cs. AreCopied c.args.heap.now c.args.heap.now cs []) (sym c.new-cells.ensures.items) (none_copied c.args.heap.now all)

pub copy_from-requires : goal.copy_from-requires
copy_from-requires c = a_copy_inside _ c.answer-item.result c.requires.1 (slice_get_read c.args.found.now _ _ _ refl c.loop-answer-test.true c.answer-item.is)

pub loop-answer-preserved : goal.loop-answer-preserved
loop-answer-preserved c all a =
    one_copied c.args.answers.now c.args.heap.now c.loop-answer.heap c.copy_from.new.to c.args.found.now c.loop-answer.cells.items c.push.new.self.items
    c.loop-answer.answer-index (c.loop-answer.answer-index + 1) c.answer-item.result c.in_ok-copy.copy all a
    (slice_get_read c.args.found.now _ _ _ refl c.loop-answer-test.true c.answer-item.is) refl
    (c.loop-answer.invariant all a) c.in_ok-copy.ensures.copied c.in_ok-copy.ensures.counted c.in_ok-push.ensures.items

pub returns : goal.returns
returns c all a =
    subst (λ fs. AreCopied c.args.heap.now c.loop-answer.heap c.loop-answer.cells.items fs) (all_taken c.loop-answer.answer-index a c.loop-answer-test.false)
    (c.loop-answer.invariant all a)
