use Rattle.std.proofs.Common.{map, arith, ap, ◌∙◌, inl, inr, Err}
use Rattle.std.proofs.lemmas.List.{length-map}
use Rattle.std.proofs.lemmas.Result.{err_from_is_err_and}
use Rattle.ml_reader.specs.Faults.{HasFirstFault}
use Rattle.ml_reader.specs.declared.fault.ReadFault.{ReadFault}
use Rattle.ml_reader.specs.Seen.{read_seen}
use Rattle.ml_reader.proofs.ScriptReading.ReadScriptAnswers.{refused_fault, refused_complete, refused_first, read_script, read_fault, read_complete, read_first}
use Rattle.ml_reader.proofs.ScriptReading.ScriptSizes.{few_clauses}
use Rattle.ml_reader.proofs.script.read_script.Goals as goal

pub returns-in_err-clauses-clause-fault : goal.returns-in_err-clauses-clause-fault
returns-in_err-clauses-clause-fault c =
    let p = err_from_is_err_and c.from_residual.result c.from_residual.ensures.1 in
    refused_fault c.args.bytes.now c.in_err-clauses.field-0.0 (λ f e. c.in_err-clauses.ensures.fault f (ap Err e)) c.from_residual.result (p.1 ∙ ap Err p.2)

pub returns-in_err-clauses-clause-complete : goal.returns-in_err-clauses-clause-complete
returns-in_err-clauses-clause-complete c =
    let p = err_from_is_err_and c.from_residual.result c.from_residual.ensures.1 in
    rw (p.1, p.2) (refused_complete c.args.bytes.now c.in_err-clauses.field-0.0 c.in_err-clauses.ensures.complete)

pub returns-in_err-clauses-clause-first : goal.returns-in_err-clauses-clause-first
returns-in_err-clauses-clause-first c =
    let p = err_from_is_err_and c.from_residual.result c.from_residual.ensures.1 in
    rw (p.1, p.2) (refused_first c.args.bytes.now c.in_err-clauses.field-0.0 c.in_err-clauses.ensures.complete
    (λ f h. elim (c.in_err-clauses.ensures.first f h) [ inl e ↦ inl (cc) | inr e ↦ inr (cc) ]))

pub script_of-requires-clause-few : goal.script_of-requires-clause-few
script_of-requires-clause-few c =
    let few = few_clauses c.args.bytes.now c.in_ok-clauses.ensures.read in
    omega (arith, few, length-map c.in_ok-clauses.clauses.items read_seen, c.requires)

pub returns-clause-read : goal.returns-clause-read
returns-clause-read c =
    read_script c.args.bytes.now (map read_seen c.in_ok-clauses.clauses.items) c.in_ok-clauses.ensures.read c.script_of.result c.script_of.ensures

pub returns-clause-fault : goal.returns-clause-fault
returns-clause-fault c =
    read_fault c.args.bytes.now (map read_seen c.in_ok-clauses.clauses.items) c.in_ok-clauses.ensures.read c.script_of.result c.script_of.ensures

pub returns-clause-complete : goal.returns-clause-complete
returns-clause-complete c =
    read_complete c.args.bytes.now (map read_seen c.in_ok-clauses.clauses.items) c.in_ok-clauses.ensures.read c.in_ok-clauses.ensures.complete
    c.script_of.result c.script_of.ensures

pub returns-clause-first : goal.returns-clause-first
returns-clause-first c =
    let none : (f : ReadFault) → HasFirstFault c.args.bytes.now f → ⊥ = λ f h. elim (c.in_ok-clauses.ensures.first f h) [ inl e ↦ cc | inr e ↦ cc ] in
    read_first c.args.bytes.now (map read_seen c.in_ok-clauses.clauses.items) c.in_ok-clauses.ensures.read c.in_ok-clauses.ensures.complete none
    c.script_of.result c.script_of.ensures
