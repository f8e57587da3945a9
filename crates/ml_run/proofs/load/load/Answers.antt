use Rattle.std.proofs.lemmas.Result.{err_from_is_err_and}
use Rattle.ml_run.specs.inside.Seen.{rules_seen}
use Rattle.ml_run.specs.Words.{texts}
use Rattle.ml_run.proofs.RefusalCauses.{both, rules_stop, scripts_stop}
use Rattle.std.proofs.Common.{Ok, refl}
use Rattle.ml_run.proofs.load.load.Goals as goal

pub returns-in_err-rules-clause-err : goal.returns-in_err-rules-clause-err
returns-in_err-rules-clause-err g c =
    let p = err_from_is_err_and c.from_residual.result c.from_residual.ensures.1 in
    rw (p.1, p.2)
    (rules_stop (g.S.Shelf.held c.args.shelf.now) c.args.rules_file.now
    (texts c.args.script_files.now) _ _ c.in_err-rules.field-0.0 c.in_err-rules.ensures.err)

pub returns-in_err-scripts-clause-err : goal.returns-in_err-scripts-clause-err
returns-in_err-scripts-clause-err g c =
    let p = err_from_is_err_and c.from_residual-in_err-scripts.result c.from_residual-in_err-scripts.ensures.1 in
    let stopped = rw c.in_ok-rules.ensures.held at c.in_err-scripts.ensures.err in
    rw (p.1, p.2)
    (scripts_stop (g.S.Shelf.held c.args.shelf.now) c.args.rules_file.now (texts c.args.script_files.now)
    (rules_seen c.in_ok-rules.rules) _ _ _ c.in_err-scripts.field-0.0 c.in_ok-rules.ensures.later
    c.in_ok-rules.ensures.ok stopped)

pub returns-clause-ok : goal.returns-clause-ok
returns-clause-ok g c =
    let scripts = rw c.in_ok-rules.ensures.held at c.in_ok-scripts.ensures.ok in
    both (g.S.Shelf.held c.args.shelf.now) c.in_ok-rules.ensures.ok scripts (λ files rs ss. (Ok (rules_seen c.in_ok-rules.rules), rs, (Ok _, ss, refl)))
