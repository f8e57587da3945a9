use Rattle.ml_reader.proofs.script_laws.a_script_begins_with_scripts.Goals as goal
use Rattle.ml_reader.proofs.ScriptReading.ScriptRuns.{begins_with_scripts}

pub returns : goal.returns
returns c = begins_with_scripts
