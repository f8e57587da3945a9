-- Into the left operand, or to the outline of a goal.
use Rattle.std.proofs.Common.{◌≡◌, length, vec_len, ◌-◌, sym, ap, ◌∙◌, arith}
use Rattle.ml_term.specs.Tree.{compound_2}
use Rattle.ml_search.specs.Bodies.{joins_bodies}
use Rattle.ml_heap.specs.Changes.{stands_for}
use Rattle.ml_called.specs.inside.Outlines.{outline}
use Rattle.ml_called.proofs.Walks.{walk_enters, walk_outlines, less_entering}
use Rattle.ml_called.proofs.walk.enter.Goals as goal

pub returns-in_ok-push-in-Some-clause-walking : goal.returns-in_ok-push-in-Some-clause-walking
returns-in_ok-push-in-Some-clause-walking c = λ old want e w.
    let h = c.args.heap.now in
    let pair = c.in-Some.pair in
    let named : c.in_ok-name-in-Some.name ≡ pair.name.now = c.in_ok-name-in-Some.ensures in
    walk_enters h old want c.args.frames.now.items _ c.args.slots.now.items c.args.at pair.first pair.second c.in_ok-name-in-Some.name w
    (c.in-Some.ensures.joined.1 ∙ ap (λ f. compound_2 f (stands_for h pair.first) (stands_for h pair.second)) (sym named))
    (ap joins_bodies named ∙ c.in-Some.ensures.joined.0) c.in-Some.ensures.inside.0 c.in-Some.ensures.inside.1 c.in_ok-push-in-Some.ensures.items

pub returns-in_ok-push-in-Some-clause-less : goal.returns-in_ok-push-in-Some-clause-less
returns-in_ok-push-in-Some-clause-less c =
    let h = c.args.heap.now in
    let pair = c.in-Some.pair in
    let named : c.in_ok-name-in-Some.name ≡ pair.name.now = c.in_ok-name-in-Some.ensures in
    less_entering h c.args.at pair.first pair.second c.in_ok-name-in-Some.name c.args.frames.now.items _
    (c.in-Some.ensures.joined.1 ∙ ap (λ f. compound_2 f (stands_for h pair.first) (stands_for h pair.second)) (sym named)) c.in_ok-push-in-Some.ensures.items

pub returns-in_ok-outline_goal-in-None-clause-walking : goal.returns-in_ok-outline_goal-in-None-clause-walking
returns-in_ok-outline_goal-in-None-clause-walking c = λ old want e w.
    let h = c.args.heap.now in
    let many : vec_len c.args.slots.now ≡ length c.args.slots.now.items = omega (arith, c.args.slots.now.ok.0) in
    walk_outlines h old want c.args.frames.now.items c.args.frames.now.items c.args.slots.now.items c.args.at c.args.env _ _ w e
    c.in_ok-outline_goal-in-None.ensures.cells
    (c.in_ok-outline_goal-in-None.ensures.outline ∙ ap (λ k. outline (k - c.args.env) (stands_for h c.args.at)) many)
