use Rattle.std.proofs.Common.{Err, ap, refl, subst}
use Rattle.ml_reader.specs.ScriptTexts.{IsScript, HasScriptFault}
use Rattle.ml_search.specs.ProgramSeen.{script_seen}
use Rattle.ml_run.proofs.FetchedTexts.{script_is, script_faulty}
use Rattle.ml_run.proofs.load.load_script.Goals as goal

pub returns-in-Err-Fault-clause-err : goal.returns-in-Err-Fault-clause-err
returns-in-Err-Fault-clause-err g c =
    let fault = c.in-Err-Fault.ensures.fault c.in-Err-Fault.fault (ap Err c.in-Err-Fault.field-0-is) in (
      (c.requires.some, refl),
      script_faulty (g.S.Shelf.held c.args.shelf.now) c.args.name.now c.in_ok-bytes.bytes.items c.in_ok-bytes.ensures.ok c.args.number c.in-Err-Fault.fault
          (subst (λ bytes. HasScriptFault bytes c.in-Err-Fault.fault) c.deref.ensures.value fault),
    )

pub returns-in-Ok-clause-ok : goal.returns-in-Ok-clause-ok
returns-in-Ok-clause-ok g c =
    let s = script_seen c.in-Ok.script in
    let is = subst (λ bytes. IsScript bytes s) c.deref.ensures.value c.in-Ok.ensures.read in
    script_is (g.S.Shelf.held c.args.shelf.now) c.args.name.now c.in_ok-bytes.bytes.items c.in_ok-bytes.ensures.ok c.args.number s is
