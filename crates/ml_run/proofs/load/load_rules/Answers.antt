use Rattle.std.proofs.Common.{Err, ap, refl, subst}
use Rattle.ml_reader.specs.Rules.{IsRules, RulesHaveFault}
use Rattle.ml_run.specs.inside.Seen.{rules_seen}
use Rattle.ml_run.proofs.FetchedTexts.{rules_are, rules_faulty}
use Rattle.ml_run.proofs.load.load_rules.Goals as goal

pub returns-in-Ok-clause-ok : goal.returns-in-Ok-clause-ok
returns-in-Ok-clause-ok g c =
    let here = c.in_ok-bytes.bytes.items in
    let are = subst (λ bytes. IsRules bytes (rules_seen c.in-Ok.rules).0 (rules_seen c.in-Ok.rules).1) c.deref.ensures.value c.in-Ok.ensures.read in
    rules_are (g.S.Shelf.held c.args.shelf.now) c.args.file.now here c.in_ok-bytes.ensures.ok (rules_seen c.in-Ok.rules) are

pub returns-in-Err-Fault-clause-err : goal.returns-in-Err-Fault-clause-err
returns-in-Err-Fault-clause-err g c =
    let fault = c.in-Err-Fault.ensures.fault c.in-Err-Fault.fault (ap Err c.in-Err-Fault.field-0-is) in (
      refl,
      rules_faulty (g.S.Shelf.held c.args.shelf.now) c.args.file.now c.in_ok-bytes.bytes.items c.in_ok-bytes.ensures.ok c.in-Err-Fault.fault
          (subst (λ bytes. RulesHaveFault bytes c.in-Err-Fault.fault) c.deref.ensures.value fault),
    )
