use Rattle.std.proofs.Common.{◌<◌, sym, ap, ◌∙◌, subst}
use Rattle.ml_heap.specs.Changes.{cell_count}
use Rattle.ml_term.specs.Seen.{seen}
use Rattle.ml_stack.specs.Memories.{Contents, IsMoment, now_of, memory_of}
use Rattle.ml_machine.specs.BallsCaught.{IsCaught, IsNotCaught}
use Rattle.ml_machine.proofs.HeapsGrown.{IsUnified, caught, not_caught, before_stays, with_heap}
use Rattle.ml_machine.proofs.balls.catches.Goals.{In_ok-unify}
use Rattle.ml_machine.proofs.balls.catches.Goals as goal

-- memory as it was
abbrev before : In_ok-unify → Contents
before c = record {
  heap = c.memory.inside.heap;
  frames = c.memory.inside.frames.items;
  slots = c.memory.inside.slots.items;
  saved = c.memory.inside.saved.items;
  codes = c.memory.inside.codes.items;
}

unified : (c : In_ok-unify) → IsUnified (before c) c.store_tree.new.self c.unify.new.self c.in_ok-thrown.thrown c.args.catcher
    (seen c.args.ball.now) c.in_ok-unify.field-0
unified c = record {
  inside = subst (λ (M : Contents). c.args.catcher < cell_count M.heap) (sym c.memory.view_is) c.requires.inside;
  stored = c.in_ok-thrown.ensures.stored;
  counted = c.in_ok-thrown.ensures.counted;
  found_is = c.in_ok-unify.ensures.found;
  replaced = λ m e. c.in_ok-unify.ensures.replaced m e;
  marks = c.in_ok-unify.ensures.marks;
  same_count = c.in_ok-unify.ensures.counted;
}

pub go_back-requires : goal.go_back-requires
go_back-requires c =
    let d = (goal.at.go_back-requires c).In_ok-unify in
    let i = (before_stays (before d) _ _ _ _ _ (unified d)).0 in
    subst (λ m. IsMoment (with_heap (before d) c.unify.new.self) m) (ap now_of c.memory.view_is ∙ sym c.now-before.ensures) i

pub returns-then-branch : goal.returns-then-branch
returns-then-branch c =
    let d = (goal.at.returns-then-branch c).In_ok-unify in
    subst (λ M. IsCaught M (with_heap (before d) c.unify.new.self) (seen c.args.ball.now) c.args.catcher) c.memory.view_is
    (caught (before d) _ _ _ _ _ c.in_ok-unify.field-0 c.if-branch.true (unified d))

pub returns : goal.returns
returns c =
    let d = (goal.at.returns c).In_ok-unify in
    let back = c.go_back.ensures ∙ ap (memory_of (with_heap (before d) c.unify.new.self)) (c.now-before.ensures ∙ ap now_of (sym c.memory.view_is)) in
    subst (λ M. IsNotCaught M c.go_back.new.self (seen c.args.ball.now) c.args.catcher) c.memory.view_is
    (not_caught (before d) _ _ _ _ _ c.in_ok-unify.field-0 c.go_back.new.self c.if-branch.false back (unified d))
