use Rattle.std.proofs.Common.{refl, subst}
use Rattle.ml_machine.specs.AnswersGathered.{Gathers}
use Rattle.ml_machine.proofs.SearchesEnded.{ending_stacks, end_facts, after_alike, after_unlike}
use Rattle.ml_machine.proofs.machine.Machine.end_findall.Goals as goal

pub take_back-requires : goal.take_back-requires
take_back-requires c = ending_stacks c.requires.stands

pub unify_found-requires-clause-list : goal.unify_found-requires-clause-list
unify_found-requires-clause-list c =
    (end_facts c.take_back.new.memory c.take_back.new.stacks c.in-Some.end c.in-Some.ensures.level
    (λ ps w s. c.in-Some.ensures.stands ps w s) c.requires.stands).list

pub unify_found-requires-clause-found : goal.unify_found-requires-clause-found
unify_found-requires-clause-found c =
    (end_facts c.take_back.new.memory c.take_back.new.stacks c.in-Some.end c.in-Some.ensures.level
    (λ ps w s. c.in-Some.ensures.stands ps w s) c.requires.stands).found

pub undo_to-requires : goal.undo_to-requires
undo_to-requires c =
    (end_facts c.take_back.new.memory c.take_back.new.stacks c.in-Some.end c.in-Some.ensures.level
    (λ ps w s. c.in-Some.ensures.stands ps w s) c.requires.stands).kept

pub returns-then-alike : goal.returns-then-alike
returns-then-alike c p ps =
    after_alike p ps c.args.self.now _ c.take_back.new.memory c.in-Some.end c.requires.none c.in-Some.ensures.level
    (λ w s. c.in-Some.ensures.stands ps w s) c.undo_to.ensures refl
    (λ found a. subst (λ b. Gathers c.take_back.new.memory c.unify_found.new.memory c.in-Some.end.list found b) c.if-alike.true (c.in_ok-alike.ensures found a))

pub returns : goal.returns
returns c p ps =
    after_unlike p ps c.args.self.now _ c.take_back.new.memory c.in-Some.end c.requires.none c.in-Some.ensures.level
    (λ w s. c.in-Some.ensures.stands ps w s) c.undo_to.ensures refl
    (λ found a. subst (λ b. Gathers c.take_back.new.memory c.unify_found.new.memory c.in-Some.end.list found b) c.if-alike.false
    (c.in_ok-alike.ensures found a))
