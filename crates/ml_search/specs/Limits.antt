-- The limits of items, scripts, programs and sessions, as numbers. `limits_of_sessions` says that
-- the code's constants are these.
use Rattle.std.specs.Prelude.{ℕ}

-- the most canonical bytes of a stored item
abbrev pub max_item_bytes : ℕ
max_item_bytes = 4096

-- the most changes of a session
abbrev pub max_changes : ℕ
max_changes = 20000

-- the most bytes of a session's answer lines, with their spaces and line feeds
abbrev pub max_answer_bytes : ℕ
max_answer_bytes = 1048576

-- the most inferences of a session
abbrev pub max_inferences : ℕ
max_inferences = 200000

-- inferences of a session whose script gives no budget
abbrev pub default_inferences : ℕ
default_inferences = 20000

-- the most goals of a script
abbrev pub max_goals : ℕ
max_goals = 4294967294

-- the most declarations of a program
abbrev pub max_declarations : ℕ
max_declarations = 4294967295
