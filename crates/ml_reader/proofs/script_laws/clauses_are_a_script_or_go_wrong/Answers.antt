use Rattle.ml_reader.proofs.script_laws.clauses_are_a_script_or_go_wrong.Goals as goal
use Rattle.ml_reader.proofs.ScriptReading.ScriptRuns.{script_unless_wrong, script_or_wrong, only_wrong}

pub returns-clause-either : goal.returns-clause-either
returns-clause-either c = script_unless_wrong

pub returns-clause-not_both : goal.returns-clause-not_both
returns-clause-not_both c = script_or_wrong

pub returns-clause-once : goal.returns-clause-once
returns-clause-once c = only_wrong
