-- The term at the place is met in each mode.
use Rattle.std.proofs.Common.{rules, ℕ, ◌+◌, ◌<◌, ◌≤◌, List, length, refl, sym, subst, arith}
use Rattle.ml_match.specs.inside.Running.{EndsAt, IsRunning}
use Rattle.ml_match.proofs.CellLists.{reads}
use Rattle.ml_match.proofs.HeadEnds.{ends_by}
use Rattle.ml_match.proofs.HeadsRun.{early, here_within, end_within, running_clashes, running_reads}
use Rattle.ml_match.proofs.matching.match_other.Goals as goal

pub bounds-code-at : goal.bounds-code-at
bounds-code-at c = here_within _ _ _ _ _ _ _ _ _ _ _ c.requires.running _ _ refl

pub offset_bounds-code-at : goal.offset_bounds-code-at
offset_bounds-code-at c =
    let lt : c.args.at < length c.args.code.now = here_within _ _ _ _ _ _ _ _ _ _ _ c.requires.running _ _ refl in
    search rules

pub overflow_add-result : goal.overflow_add-result
overflow_add-result c =
    let lt : c.args.at < length c.args.code.now = here_within _ _ _ _ _ _ _ _ _ _ _ c.requires.running _ _ refl in
    search rules

pub overflow_add-at : goal.overflow_add-at
overflow_add-at c =
    let r = c.requires in
    let lt = here_within _ _ _ _ _ _ _ _ _ _ _ r.running _ _ refl in
    let y = reads _ _ c.index-code-at.result c.index-code-at.result lt (sym c.index-code-at.is) in
    let f = ends_by c.index-code-at.result y r.q r.running.met r.running.after r.running.terms r.running.matches
    (early _ _ _ _ _ _ _ _ _ _ _ r.running _ _ refl) in
    let end = end_within _ _ _ _ _ _ _ _ _ _ _ r.running _ _ refl _ f in
    let le : c.args.at + c.size_of.result ≤ length c.args.code.now = omega (arith, end, c.size_of.ensures) in
    search rules

pub unify_term-requires-clause-ends : goal.unify_term-requires-clause-ends
unify_term-requires-clause-ends c =
    let lt = here_within _ _ _ _ _ _ _ _ _ _ _ c.requires.running _ _ refl in
    let y = reads _ _ c.index-code-at.result c.index-code-at.result lt (sym c.index-code-at.is) in
    subst (λ (n : ℕ). EndsAt c.args.code.now c.args.at (c.args.at + n)) (sym c.size_of.ensures) (ends_by c.index-code-at.result y)

pub returns-in-Clash-clause-goes_on : goal.returns-in-Clash-clause-goes_on
returns-in-Clash-clause-goes_on c es old next wide q s =
    let lt = here_within _ _ _ _ _ _ _ _ _ _ _ s _ _ refl in
    let y = reads _ _ c.index-code-at.result c.index-code-at.result lt (sym c.index-code-at.is) in
    running_clashes _ _ _ _ _ _ _ _ _ _ _ s _ _ refl c.index-code-at.result y c.in-Clash.ensures

pub returns-in_ok-push_arguments-in-Read-clause-goes_on : goal.returns-in_ok-push_arguments-in-Read-clause-goes_on
returns-in_ok-push_arguments-in-Read-clause-goes_on c es old next wide q s =
    let lt = here_within _ _ _ _ _ _ _ _ _ _ _ s _ _ refl in
    let y = reads _ _ c.index-code-at.result c.index-code-at.result lt (sym c.index-code-at.is) in
    let put = c.in_ok-push_arguments-in-Read.ensures in
    subst (λ (qs : List ℕ). IsRunning c.args.code.now es old next wide c.args.env q (c.args.at + 1) c.args.heap.now c.args.slots.now qs) (sym put.1.0)
    (running_reads _ _ _ _ _ _ _ _ _ _ _ s _ _ refl put.0 put.1.1 put.1.2 c.index-code-at.result y c.in-Read.ensures)
