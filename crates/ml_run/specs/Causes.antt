-- Why a run ended as it did. The code hands on what it met; here a cause is told by what the shelf
-- holds and by counts of faults.
use Rattle.std.specs.Prelude.{◌≡◌, ◌⊎◌, ◌≤◌, ◌+◌, ℕ, List, Option, IfSome, take}
use Rattle.ml_outside.specs.Held.{Files}
use Rattle.ml_outside.specs.Causes.{Rose}
use Rattle.ml_run.specs.Words.{AreBad, NamesFile}
use Rattle.ml_run.specs.Outcomes.{Outcome, refusal, Leads, HasInputs, status_of}
use Rattle.ml_run.specs.declared.status.Status.{Status}
use Rattle.ml_run.specs.declared.status.Status.TheVariants.{Done, BadWords, NoFile, TooLong}
use Rattle.ml_run.specs.declared.status.Status.TheVariants.{ReadFailed, RulesRefused, ScriptRefused}
use Rattle.ml_run.specs.declared.status.Status.TheVariants.{WriteFailed, OutOfMemory}

-- the counts of faults of a shelf and of a sink, before a call and after it
pub record Counts : Type 0 where
  pub reads : ℕ
  pub reads_now : ℕ
  pub writes : ℕ
  pub writes_now : ℕ

-- these counts: those of the shelf before and after, and those of the sink
abbrev pub counts_of : ℕ → ℕ → ℕ → ℕ → Counts
counts_of reads reads_now writes writes_now =
    record { reads = reads; reads_now = reads_now; writes = writes; writes_now = writes_now }

-- a word names a file that was refused in this way; where the shelf tells, this is the first
-- refusal
abbrev pub RefusesFile : Option Files → List (List ℕ) → ℕ → Status → Type 0
RefusesFile held words i status =
    NamesFile words i × IfSome held (λ files. Leads files words (refusal status))

-- a word names a file; where the shelf tells, no file before it was refused: it is that of the
-- rules, or the words before it lead to inputs
abbrev pub ReachesFile : Option Files → List (List ℕ) → ℕ → Type 0
ReachesFile held words i =
    NamesFile words i × IfSome held (λ files. (i ≡ 1) ⊎ HasInputs files (take i words))

-- when each status comes; for want of memory nothing is said
abbrev pub IsCaused : Option Files → List (List ℕ) → Counts → Status → Type 0
IsCaused held words counts Done = IfSome held (λ files. HasInputs files words)
IsCaused held words counts BadWords = AreBad words
IsCaused held words counts (NoFile i) = RefusesFile held words i (NoFile i)
IsCaused held words counts (TooLong i) = RefusesFile held words i (TooLong i)
IsCaused held words counts (ReadFailed i) =
    Rose counts.reads counts.reads_now × ReachesFile held words i
IsCaused held words counts (RulesRefused f) = RefusesFile held words 1 (RulesRefused f)
IsCaused held words counts (ScriptRefused k f) =
    (1 ≤ k) × RefusesFile held words (1 + k) (ScriptRefused k f)
IsCaused held words counts WriteFailed =
    Rose counts.writes counts.writes_now × IfSome held (λ files. HasInputs files words)
IsCaused held words counts OutOfMemory = Unit {0}

-- no fault was counted
pub record IsQuiet (counts : Counts) : Type 0 where
  pub no_read_fault : Rose counts.reads counts.reads_now → ⊥
  pub no_write_fault : Rose counts.writes counts.writes_now → ⊥

-- what the words lead to is told, unless memory is refused
abbrev pub TellsOutcome : Files → List (List ℕ) → Status → Type 0
TellsOutcome files words status =
    (outcome : Outcome) → Leads files words outcome →
    (status ≡ status_of outcome) ⊎ (status ≡ OutOfMemory)
