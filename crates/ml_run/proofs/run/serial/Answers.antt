use Rattle.std.proofs.lemmas.Option.{IfSome_then}
use Rattle.ml_run.specs.Words.{texts}
use Rattle.ml_run.specs.declared.status.Status.TheVariants.{Done}
use Rattle.ml_run.proofs.RefusalCauses.{caused_by_files, tells}
use Rattle.ml_run.proofs.WriteCauses.{prints, plays_front, has_inputs, caused_by_output}
use Rattle.ml_run.proofs.run.serial.Goals as goal

pub returns-in-Err-clause-cause : goal.returns-in-Err-clause-cause
returns-in-Err-clause-cause g c = caused_by_files _ _ _ c.in-Some.ensures.some (g.S.Shelf.held c.args.shelf.now) _ c.in-Err.status c.in-Err.ensures.err

pub returns-in-Err-clause-complete : goal.returns-in-Err-clause-complete
returns-in-Err-clause-complete g c = λ quiet.
    tells c.a_text_has_one_first_fault.ensures c.a_text_that_is_read_has_no_fault.ensures (g.S.Shelf.held c.args.shelf.now)
    (texts c.args.words.now) _ c.in-Err.status quiet (returns-in-Err-clause-cause g c)

pub returns-in-Ok-run_and_print-clause-beginning : goal.returns-in-Ok-run_and_print-clause-beginning
returns-in-Ok-run_and_print-clause-beginning g c = IfSome_then (g.S.Shelf.held c.args.shelf.now) c.in-Ok.ensures.ok (λ files l.
    prints _ _ _ c.in-Some.ensures.some c.in-Ok.inputs files _ l (plays_front _ _ _ c.in-Some.ensures.some c.in-Ok.inputs _ _ c.in-Ok-run_and_print.ensures.ok))

pub returns-in-Ok-run_and_print-clause-cause : goal.returns-in-Ok-run_and_print-clause-cause
returns-in-Ok-run_and_print-clause-cause g c =
    has_inputs _ _ _ c.in-Some.ensures.some c.in-Ok.inputs (g.S.Shelf.held c.args.shelf.now) (record {
      reads = g.S.Shelf.faults c.args.shelf.now;
      reads_now = g.S.Shelf.faults c.load.new.shelf;
      writes = g.K.Sink.faults c.args.out.now;
      writes_now = g.K.Sink.faults c.run_and_print.new.out;
    }) c.in-Ok.ensures.ok

pub returns-in-Ok-run_and_print-clause-complete : goal.returns-in-Ok-run_and_print-clause-complete
returns-in-Ok-run_and_print-clause-complete g c = λ quiet.
    tells c.a_text_has_one_first_fault.ensures c.a_text_that_is_read_has_no_fault.ensures (g.S.Shelf.held c.args.shelf.now)
    (texts c.args.words.now) _ Done quiet (returns-in-Ok-run_and_print-clause-cause g c)

pub returns-in-Err-run_and_print-clause-cause : goal.returns-in-Err-run_and_print-clause-cause
returns-in-Err-run_and_print-clause-cause g c =
    caused_by_output _ _ _ c.in-Some.ensures.some c.in-Ok.inputs
    (g.S.Shelf.held c.args.shelf.now) _ _ _ c.in-Err-run_and_print.status c.in-Ok.ensures.ok c.in-Err-run_and_print.ensures.err
