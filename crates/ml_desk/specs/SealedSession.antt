-- What contracts see of a session that is over. The code holds no program and no script.
use Rattle.std.specs.Prelude.{ℕ, List}
use Rattle.ml_search.specs.declared.ending.Ending.{Ending}
use Rattle.ml_search.specs.declared.operation.Op.{Op}
use Rattle.ml_search.specs.declared.operation.Reply.{Reply}
use Rattle.ml_search.specs.declared.program.Program.{Program}
use Rattle.ml_search.specs.declared.script.Script.{Script}
use Rattle.ml_writer.specs.Output.{Output}

-- a session's number, its lines, how it ended, what it asked with the replies, and the program and
-- script that it was made from
pub record SealedSession : Type 0 where
  pub number : ℕ
  pub lines : Output
  pub ending : Ending
  pub log : List (Op × Reply)
  pub program : Program
  pub script : Script
