use Rattle.ml_reader.proofs.script_laws.clauses_are_one_script.Goals as goal
use Rattle.ml_reader.proofs.ScriptReading.ScriptRuns.{only_script}

pub returns : goal.returns
returns c = only_script
