-- A variable that is met first takes the cell.
use Rattle.std.proofs.Common.{rules, ◌+◌, ◌<◌, length, refl, sym, ◌∙◌, arith}
use Rattle.ml_match.proofs.CellLists.{reads}
use Rattle.ml_match.proofs.HeadsRun.{here_within, first_within, running_sets}
use Rattle.ml_match.proofs.NewVariables.{prefix_set}
use Rattle.ml_match.proofs.matching.match_term.Goals as goal

pub bounds-code-at : goal.bounds-code-at
bounds-code-at c = here_within _ _ _ _ _ _ _ _ _ _ _ c.requires.running _ _ refl

pub offset_bounds-code-at : goal.offset_bounds-code-at
offset_bounds-code-at c =
    let lt : c.args.at < length c.args.code.now = here_within _ _ _ _ _ _ _ _ _ _ _ c.requires.running _ _ refl in
    search rules

pub overflow_add-result : goal.overflow_add-result
overflow_add-result c =
    let lt : c.args.at < length c.args.code.now = here_within _ _ _ _ _ _ _ _ _ _ _ c.requires.running _ _ refl in
    search rules

pub bounds-slots-env : goal.bounds-slots-env
bounds-slots-env c =
    let lt = here_within _ _ _ _ _ _ _ _ _ _ _ c.requires.running _ _ refl in
    let y = reads _ _ c.index-code-at.result _ lt (sym c.index-code-at.is ∙ c.in-GetFirst.is) in
    first_within _ _ _ _ _ _ _ _ _ _ _ c.requires.running _ _ refl c.in-GetFirst.n y

pub overflow_add-cell : goal.overflow_add-cell
overflow_add-cell c =
    let lt = here_within _ _ _ _ _ _ _ _ _ _ _ c.requires.running _ _ refl in
    let y = reads _ _ c.index-code-at.result _ lt (sym c.index-code-at.is ∙ c.in-GetFirst.is) in
    let slot : c.args.env + c.in-GetFirst.n < length c.args.slots.now =
    first_within _ _ _ _ _ _ _ _ _ _ _ c.requires.running _ _ refl c.in-GetFirst.n y in
    search rules

pub offset_bounds-slots-env : goal.offset_bounds-slots-env
offset_bounds-slots-env c =
    let lt = here_within _ _ _ _ _ _ _ _ _ _ _ c.requires.running _ _ refl in
    let y = reads _ _ c.index-code-at.result _ lt (sym c.index-code-at.is ∙ c.in-GetFirst.is) in
    let slot : c.args.env + c.in-GetFirst.n < length c.args.slots.now =
    first_within _ _ _ _ _ _ _ _ _ _ _ c.requires.running _ _ refl c.in-GetFirst.n y in
    search rules

pub returns-in-GetFirst-clause-goes_on : goal.returns-in-GetFirst-clause-goes_on
returns-in-GetFirst-clause-goes_on c es old next wide q s =
    let lt = here_within _ _ _ _ _ _ _ _ _ _ _ s _ _ refl in
    let y = reads _ _ c.index-code-at.result _ lt (sym c.index-code-at.is ∙ c.in-GetFirst.is) in
    running_sets _ _ _ _ _ _ _ _ _ _ _ s _ _ refl c.in-GetFirst.n y _ refl

pub returns-in-GetFirst-clause-front : goal.returns-in-GetFirst-clause-front
returns-in-GetFirst-clause-front c before l p =
    prefix_set before c.args.slots.now _ (c.args.env + c.in-GetFirst.n) c.args.cell (omega (arith, l)) refl p
