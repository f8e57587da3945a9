use Rattle.ml_reader.proofs.script_laws.a_text_is_one_script_or_has_one_fault.Goals as goal
use Rattle.ml_reader.proofs.ScriptReading.OneScriptReading.{one_script, one_fault, no_fault, script_or_fault}

pub returns-clause-script : goal.returns-clause-script
returns-clause-script c = one_script

pub returns-clause-fault : goal.returns-clause-fault
returns-clause-fault c = one_fault

pub returns-clause-not_both : goal.returns-clause-not_both
returns-clause-not_both c = no_fault

pub returns-clause-either : goal.returns-clause-either
returns-clause-either c = script_or_fault
