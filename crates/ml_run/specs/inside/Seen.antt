-- What rules and scripts of the code are seen as. No public clause cites this module.
use Rattle.std.specs.Prelude.{List, map}
use Rattle.ml_search.specs.Program.{Script}
use Rattle.ml_search.specs.ProgramSeen.{program_seen, script_seen}
use Rattle.ml_search.specs.declared.script.Script as S
use Rattle.ml_search.specs.ItemsSeen.{items_seen}
use Rattle.ml_reader.specs.declared.rules.Rules as R
use Rattle.ml_run.specs.Texts.{RulesContent}

-- the program and the items that they are
abbrev pub rules_seen : R.Rules → RulesContent
rules_seen r = (program_seen r.program, items_seen r.items)

-- the scripts that they are
abbrev pub scripts_seen : List S.Script → List Script
scripts_seen = map script_seen
