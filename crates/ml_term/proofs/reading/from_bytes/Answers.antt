use Rattle.std.proofs.Common.{refl, Some, ◌≡◌, ℕ}
use Rattle.std.proofs.lemmas.Result.{err_from_is_err_and}
use Rattle.ml_term.specs.declared.reading.Progress.{Progress}
use Rattle.ml_term.specs.Seen.{seen}
use Rattle.ml_term.specs.inside.Reading.{HasDefect, RefusesAt}
use Rattle.ml_term.specs.FirstDefect.{first_defect}
use Rattle.ml_term.proofs.FirstDefects.{refuses_so}
use Rattle.ml_term.proofs.StandingTerms.{stands, begins_there, one_term, only_memory}
use Rattle.ml_term.proofs.reading.from_bytes.Goals as goal

-- where the reading begins
abbrev start : ℕ → Progress
start at = record { at = at; met = 0; left = 4096 }

pub returns-in_err-term-clause-bad : goal.returns-in_err-term-clause-bad
returns-in_err-term-clause-bad c =
    let p = err_from_is_err_and c.from_residual.result c.from_residual.ensures.1 in
    rw (p.1, p.2)
    (refuses_so c.in_err-term.field-0.0 (HasDefect c.args.bytes.now 1 (start c.args.at)) _
    (λ place h. begins_there c.args.bytes.now c.args.at place (start c.args.at) refl refl refl h) c.in_err-term.ensures.bad)

pub returns-in_err-term-clause-only : goal.returns-in_err-term-clause-only
returns-in_err-term-clause-only c t after s =
    let p = err_from_is_err_and c.from_residual.result c.from_residual.ensures.1 in
    let refused : RefusesAt c.in_err-term.field-0.0 (λ place. first_defect c.args.bytes.now c.args.at ≡ Some place) =
    refuses_so c.in_err-term.field-0.0 (HasDefect c.args.bytes.now 1 (start c.args.at)) _
    (λ place h. begins_there c.args.bytes.now c.args.at place (start c.args.at) refl refl refl h) c.in_err-term.ensures.bad in
    rw (p.1, p.2) (only_memory c.args.bytes.now c.args.at t after c.in_err-term.field-0.0 s refused)

pub returns-clause-found : goal.returns-clause-found
returns-clause-found c = stands c.args.bytes.now c.args.at (seen c.in_ok-term.term)
    (start c.args.at) c.in_ok-term.after refl refl refl c.in_ok-term.ensures.found

pub returns-clause-only : goal.returns-clause-only
returns-clause-only c t after s =
    let there = stands c.args.bytes.now c.args.at (seen c.in_ok-term.term) (start c.args.at) c.in_ok-term.after refl refl refl c.in_ok-term.ensures.found in
    one_term c.args.bytes.now c.args.at (seen c.in_ok-term.term) t c.in_ok-term.after.at after there s
