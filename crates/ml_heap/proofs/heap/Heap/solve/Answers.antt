-- Each pair that is taken is the first equation: a rule leads on, or there is no unifier.
use Rattle.std.proofs.Common.{◌≡◌, ◌<◌, ◌∷◌, ◌∙◌, refl, sym, ap, subst}
use Rattle.std.specs.Option.{is_some}
use Rattle.ml_heap.specs.Changes.{trees, stands_for, cell_count}
use Rattle.ml_heap.specs.inside.Equations.{equations_left, AreBelow}
use Rattle.ml_heap.proofs.EquationWorklists.{Reached, starts, goes_on, turn_leads, is_found, by_the_unifier, none_found, no_replacing}
use Rattle.ml_heap.proofs.WorklistRounds.{rounds, turn_falls_by}
use Rattle.ml_heap.proofs.HeapMarks.{marks_stay, marks_go_on}
use Rattle.ml_heap.proofs.Worklists.{taken, first_below, second_below, rest_below, none_left}
use Rattle.ml_heap.proofs.heap.Heap.solve.Goals as goal

pub loop-a-init : goal.loop-a-init
loop-a-init c = record { inside = c.requires; reached = starts _ _; cells = refl; counted = refl; marks = marks_stay _ }

pub turn-requires-clause-a_inside : goal.turn-requires-clause-a_inside
turn-requires-clause-a_inside c = first_below _ _ _ _ c.in-Some.ensures.items _ c.loop-a.invariant.inside

pub turn-requires-clause-b_inside : goal.turn-requires-clause-b_inside
turn-requires-clause-b_inside c = second_below _ _ _ _ c.in-Some.ensures.items _ c.loop-a.invariant.inside

pub turn-requires-clause-left_inside : goal.turn-requires-clause-left_inside
turn-requires-clause-left_inside c = rest_below _ _ _ _ c.in-Some.ensures.items _ c.loop-a.invariant.inside

pub returns-then-not-branch-clause-found : goal.returns-then-not-branch-clause-found
returns-then-not-branch-clause-found c =
    let now = trees c.loop-a.self in
    let reached =
    subst (Reached (trees c.args.self.now) (equations_left (trees c.args.self.now) c.args.left.items) now)
    (taken _ _ _ _ c.in-Some.ensures.items now) c.loop-a.invariant.reached in
    sym (ap is_some (none_found _ _ _ _ _ _ (c.in_ok-turn.ensures.clashed c.if-not-branch.true) reached))

pub returns-then-not-branch-clause-replaced : goal.returns-then-not-branch-clause-replaced
returns-then-not-branch-clause-replaced c m e =
    let now = trees c.loop-a.self in
    let reached =
    subst (Reached (trees c.args.self.now) (equations_left (trees c.args.self.now) c.args.left.items) now)
    (taken _ _ _ _ c.in-Some.ensures.items now) c.loop-a.invariant.reached in
    no_replacing _ _ _ _ _ _ (c.in_ok-turn.ensures.clashed c.if-not-branch.true) reached _ m e

pub loop-a-smaller : goal.loop-a-smaller
loop-a-smaller c =
    let now = trees c.loop-a.self in
    subst (λ es. rounds (equations_left (trees c.turn.new.self) c.turn.new.left.items) < rounds es) (sym (taken _ _ _ _ c.in-Some.ensures.items now))
    (turn_falls_by _ _ _ _ _ _ (c.in_ok-turn.ensures.turned c.if-not-branch.false))

pub loop-a-preserved : goal.loop-a-preserved
loop-a-preserved c =
    let now = trees c.loop-a.self in
    let reached =
    subst (Reached (trees c.args.self.now) (equations_left (trees c.args.self.now) c.args.left.items) now)
    (taken _ _ _ _ c.in-Some.ensures.items now) c.loop-a.invariant.reached in
    record {
      inside = subst (λ n. AreBelow n c.turn.new.left.items) (sym c.in_ok-turn.ensures.cells) c.in_ok-turn.ensures.inside;
      reached = goes_on _ _ _ _ _ _ reached (turn_leads _ _ _ _ _ _ (c.in_ok-turn.ensures.turned c.if-not-branch.false));
      cells = c.in_ok-turn.ensures.cells ∙ c.loop-a.invariant.cells;
      counted = c.in_ok-turn.ensures.counted ∙ c.loop-a.invariant.counted;
      marks = marks_go_on _ _ _ c.loop-a.invariant.marks c.in_ok-turn.ensures.marks;
    }

pub returns-clause-found : goal.returns-clause-found
returns-clause-found c =
    let now = trees c.loop-a.self in
    let none = none_left c.loop-a.left.items _ _ _ _ c.in_default.ensures.cases.0 c.in_default.ensures.items c.in_default.ensures.rest
    c.in_default.ensures.len in
    sym (is_found _ _ _ (subst (λ ps. Reached (trees c.args.self.now) (equations_left (trees c.args.self.now) c.args.left.items) now (equations_left now ps))
    none c.loop-a.invariant.reached))

pub returns-clause-replaced : goal.returns-clause-replaced
returns-clause-replaced c m e =
    let now = trees c.loop-a.self in
    let none = none_left c.loop-a.left.items _ _ _ _ c.in_default.ensures.cases.0 c.in_default.ensures.items c.in_default.ensures.rest
    c.in_default.ensures.len in
    by_the_unifier _ _ _ (subst (λ ps. Reached (trees c.args.self.now) (equations_left (trees c.args.self.now) c.args.left.items) now (equations_left now ps))
    none
    c.loop-a.invariant.reached) m e
