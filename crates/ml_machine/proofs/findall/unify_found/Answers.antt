use Rattle.std.proofs.Common.{◌<◌, List, sym, ap, ◌∙◌, subst}
use Rattle.ml_term.specs.Tree.{Tree}
use Rattle.std.specs.Prelude.{map}
use Rattle.ml_search.specs.ListTerms.{list_term}
use Rattle.ml_heap.specs.Changes.{cell_count, stands_for, HasTree}
use Rattle.ml_stack.specs.Answers.{AreCopies}
use Rattle.ml_stack.specs.Memories.{Contents, IsMoment, now_of, memory_of}
use Rattle.ml_machine.specs.AnswersGathered.{IsGathered, IsNotGathered}
use Rattle.ml_machine.proofs.HeapsGrown.{with_heap}
use Rattle.ml_machine.proofs.GatheredLists.{IsListed, gathered, not_gathered, before_is}
use Rattle.ml_machine.proofs.findall.unify_found.Goals.{In_ok-alike}
use Rattle.ml_machine.proofs.findall.unify_found.Goals as goal

-- memory as it was
abbrev before : In_ok-alike → Contents
before c = record {
  heap = c.memory.inside.heap;
  frames = c.memory.inside.frames.items;
  slots = c.memory.inside.slots.items;
  saved = c.memory.inside.saved.items;
  codes = c.memory.inside.codes.items;
}

listed : (c : In_ok-alike) (fs : List (List Tree)) → AreCopies c.args.answers.now c.args.end.now.found.items fs →
    IsListed (before c) c.copy_found.new.heap c.make_list.new.heap c.unify.new.self c.in_ok-cells.cells.items c.args.end.now.list c.in_ok-made.made fs
    c.in_ok-alike.alike
listed c fs a = record {
  inside = subst (λ (M : Contents). c.args.end.now.list < cell_count M.heap) (sym c.memory.view_is) c.requires.list;
  copied = c.in_ok-cells.ensures fs (subst (λ rs. AreCopies c.args.answers.now rs fs) (sym c.as_slice.ensures.value) a);
  listed = subst (λ cs. HasTree c.copy_found.new.heap c.make_list.new.heap c.in_ok-made.made (list_term (map (stands_for c.copy_found.new.heap) cs)))
      c.as_slice-2.ensures.value c.in_ok-made.ensures.made;
  counted = c.in_ok-made.ensures.counted;
  alike_is = c.in_ok-alike.ensures.found;
  replaced = λ m e. c.in_ok-alike.ensures.replaced m e;
  marks = c.in_ok-alike.ensures.marks;
  same_count = c.in_ok-alike.ensures.counted;
}

pub returns-then-alike : goal.returns-then-alike
returns-then-alike c fs a =
    let d = (goal.at.returns-then-alike c).In_ok-alike in
    subst (λ M. IsGathered M (with_heap (before d) c.unify.new.self) c.args.end.now.list fs) c.memory.view_is
    (gathered (before d) _ _ _ _ _ _ _ c.in_ok-alike.alike c.if-alike.true (listed d fs a))

pub go_back-requires : goal.go_back-requires
go_back-requires c =
    let d = (goal.at.go_back-requires c).In_ok-alike in
    let i = (before_is (before d) _ _ _ _ _ _ _ (listed d c.requires.found.0 c.requires.found.1)).0 in
    subst (λ m. IsMoment (with_heap (before d) c.unify.new.self) m) (ap now_of c.memory.view_is ∙ sym c.now-before.ensures) i

pub returns : goal.returns
returns c fs a =
    let d = (goal.at.returns c).In_ok-alike in
    let back = c.go_back.ensures ∙ ap (memory_of (with_heap (before d) c.unify.new.self)) (c.now-before.ensures ∙ ap now_of (sym c.memory.view_is)) in
    subst (λ M. IsNotGathered M c.go_back.new.self c.args.end.now.list fs) c.memory.view_is
    (not_gathered (before d) _ _ _ _ _ _ _ c.in_ok-alike.alike c.go_back.new.self c.if-alike.false back (listed d fs a))
