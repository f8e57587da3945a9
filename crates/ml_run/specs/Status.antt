-- The numbers and the lines of statuses.
use Rattle.std.specs.Prelude.{ℕ, ◌<◌, List, [], ◌∷◌, ◌++◌, codes, slice_get, Option, Some, None}
use Rattle.ml_term.specs.Decimal.{decimal_text}
use Rattle.ml_run.specs.Faults.{fault_text}
use Rattle.ml_run.specs.declared.status.Status.{Status}
use Rattle.ml_run.specs.declared.status.Status.TheVariants.{Done, BadWords, NoFile, TooLong}
use Rattle.ml_run.specs.declared.status.Status.TheVariants.{ReadFailed, RulesRefused, ScriptRefused}
use Rattle.ml_run.specs.declared.status.Status.TheVariants.{WriteFailed, OutOfMemory}

-- the number of a status, with which the program is to end
abbrev pub exit_number : Status → ℕ
exit_number Done = 0
exit_number BadWords = 2
exit_number (NoFile i) = 3
exit_number (TooLong i) = 4
exit_number (ReadFailed i) = 5
exit_number (RulesRefused f) = 6
exit_number (ScriptRefused k f) = 7
exit_number WriteFailed = 9
exit_number OutOfMemory = 11

-- a status that names a word names one of the first n
abbrev pub NamesWord : ℕ → Status → Type 0
NamesWord n (NoFile i) = i < n
NamesWord n (TooLong i) = i < n
NamesWord n (ReadFailed i) = i < n
NamesWord n status = Unit {0}

-- a line that tells of a fault, and of the name that it concerns
abbrev pub message_line : List ℕ → List ℕ → List ℕ
message_line fault name = codes "megalog: " ++ fault ++ name ++ 10 ∷ []

-- a word, and no byte where there is none
abbrev pub word_or_none : Option (List ℕ) → List ℕ
word_or_none (Some word) = word
word_or_none None = []

-- the word with a number, from 0
abbrev pub word_at : List (List ℕ) → ℕ → List ℕ
word_at words i = word_or_none (slice_get words i)

-- the line of a status
abbrev pub fault_line : Status → List (List ℕ) → List ℕ
fault_line Done words = []
fault_line BadWords words = message_line (codes "bad words") []
fault_line (NoFile i) words = message_line (codes "no file ") (word_at words i)
fault_line (TooLong i) words = message_line (codes "too long ") (word_at words i)
fault_line (ReadFailed i) words = message_line (codes "cannot read ") (word_at words i)
fault_line (RulesRefused f) words = message_line (codes "rules ") (fault_text f)
fault_line (ScriptRefused k f) words =
    message_line (codes "script ") (decimal_text k ++ codes " " ++ fault_text f)
fault_line WriteFailed words = message_line (codes "cannot write") []
fault_line OutOfMemory words = message_line (codes "out of memory") []
