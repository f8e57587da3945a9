use Rattle.std.proofs.Common.{◌≡◌, ℕ, ◌<◌, List, IfOk, map, length, slice_index, sym, ap, ◌∙◌, subst}
use Rattle.std.specs.List.{All, filter}
use Rattle.ml_search.specs.GoalSeen.{goal_seen}
use Rattle.ml_search.specs.Session.{is_shown}
use Rattle.ml_stack.specs.Memories.{Contents}
use Rattle.ml_machine.proofs.GoalClauses.{named_variables}
use Rattle.ml_machine.proofs.GoalsBegun.{have_slots}
use Rattle.ml_machine.proofs.begin.asked_cells.Goals as goal

pub shown_cells-requires : goal.shown_cells-requires
shown_cells-requires c =
    let M = c.args.memory.now in
    let g = goal_seen c.args.goal.now in
    let slots : c.as_slice.result.now ≡ M.slots = c.as_slice.ensures.value ∙ ap (λ (N : Contents). N.slots) c.memory.view_is in
    let there : All (λ (e : List ℕ × ℕ). e.1 < length M.slots) g.names = have_slots M g c.requires.0 c.requires.1 g.names
    (named_variables g c.args.goal.now.well_formed) in
    subst (λ (ns : List (List ℕ × ℕ)). All (λ e. e.1 < length c.as_slice.result.now) ns) (sym c.as_slice-2.ensures)
    (subst (λ (xs : List ℕ). All (λ (e : List ℕ × ℕ). e.1 < length xs) g.names) (sym slots) there)

pub returns : goal.returns
returns c =
    let M = c.args.memory.now in
    let g = goal_seen c.args.goal.now in
    let slots : c.as_slice.result.now ≡ M.slots = c.as_slice.ensures.value ∙ ap (λ (N : Contents). N.slots) c.memory.view_is in
    subst (λ (ns : List (List ℕ × ℕ)). IfOk c.shown_cells.result (λ cells. cells.items ≡ map (λ e. slice_index M.slots e.1) (filter is_shown ns)))
    c.as_slice-2.ensures
    (subst (λ (xs : List ℕ). IfOk c.shown_cells.result (λ cells. cells.items ≡ map (λ e. slice_index xs e.1) (filter is_shown c.as_slice-2.result.now))) slots
    c.shown_cells.ensures)
