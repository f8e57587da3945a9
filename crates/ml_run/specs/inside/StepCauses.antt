-- Why a step of a run gave no result. The causes of a whole run are those of its steps, one after
-- another. No public clause cites this module.
use Rattle.std.specs.Prelude.{◌≡◌, ◌⊎◌, ◌≤◌, ◌<◌, ◌+◌, ℕ, List, Option, Some, None, Ok, Err, IfSome}
use Rattle.std.specs.Prelude.{length, take}
use Rattle.std.specs.FinMap as map
use Rattle.ml_outside.specs.Held.{Files}
use Rattle.ml_outside.specs.Causes.{Rose}
use Rattle.ml_term.specs.Tree.{Tree}
use Rattle.ml_search.specs.Program.{Program, Script}
use Rattle.ml_run.specs.Limits.{max_text_bytes}
use Rattle.ml_run.specs.Outcomes.{refusal, inputs, ScriptsCome, FilesLead}
use Rattle.ml_run.specs.declared.status.Status.{Status}
use Rattle.ml_run.specs.declared.status.Status.TheVariants.{NoFile, TooLong, ReadFailed}
use Rattle.ml_run.specs.declared.status.Status.TheVariants.{RulesRefused, ScriptRefused}
use Rattle.ml_run.specs.declared.status.Status.TheVariants.{WriteFailed, OutOfMemory}

-- more bytes than the limit stand under the name
abbrev pub HoldsLong : Files → List ℕ → Type 0
HoldsLong files name =
    (bytes : List ℕ) × (map.get files name ≡ Some bytes) × (max_text_bytes < length bytes)

-- why the text under a name, which this word gives, isn't had
abbrev pub FetchStops : Option Files → List ℕ → ℕ → ℕ → ℕ → Status → Type 0
FetchStops held name word before now (NoFile i) =
    (i ≡ word) × IfSome held (λ files. map.get files name ≡ None)
FetchStops held name word before now (TooLong i) =
    (i ≡ word) × IfSome held (λ files. HoldsLong files name)
FetchStops held name word before now (ReadFailed i) = (i ≡ word) × Rose before now
FetchStops held name word before now OutOfMemory = Unit {0}
FetchStops held name word before now status = ⊥

-- the status tells what stands under the name that a word gives
abbrev pub TellsOf : ℕ → Status → Type 0
TellsOf word (NoFile i) = i ≡ word
TellsOf word (TooLong i) = i ≡ word
TellsOf word (RulesRefused f) = word ≡ 1
TellsOf word (ScriptRefused k f) = (1 ≤ k) × (word ≡ 1 + k)
TellsOf word status = ⊥

-- Why what stands under the name that a word gives isn't had, where it is said to which refusals
-- files lead.
abbrev pub Stops : Option Files → (Files → Status → Type 0) → ℕ → ℕ → ℕ → Status → Type 0
Stops held Leading word before now (ReadFailed i) = (i ≡ word) × Rose before now
Stops held Leading word before now OutOfMemory = Unit {0}
Stops held Leading word before now status =
    TellsOf word status × IfSome held (λ files. Leading files status)

-- why scripts aren't had: so many before were read, and the next one stops it
pub record ScriptsStop (held : Option Files) (names : List (List ℕ)) (before now : ℕ)
    (status : Status) : Type 0 where
  pub got : ℕ
  pub there : got < length names
  pub reached : IfSome held
      (λ files. (ss : List Script) × ScriptsCome files 1 (take got names) (Ok ss))
  pub stops : Stops held (λ files status. ScriptsCome files 1 names (Err status))
      (2 + got) before now status

-- no file before that of a word is refused: it is that of the rules, or the rules and the scripts
-- before it are inputs
abbrev pub IsReached : Files → List ℕ → List (List ℕ) → ℕ → Type 0
IsReached files rules scripts word =
    (word ≡ 1)
    ⊎ ((got : ℕ) × (word ≡ 2 + got) × (p : Program) × (items : List (ℕ × Tree)) × (ss : List Script)
    × FilesLead files rules (take got scripts) (inputs p items ss))

-- why the files aren't had: the one that a word names stops it, and none before it
pub record FilesStop (held : Option Files) (rules : List ℕ) (scripts : List (List ℕ))
    (before now : ℕ) (status : Status) : Type 0 where
  pub word : ℕ
  pub some : 1 ≤ word
  pub there : word ≤ 1 + length scripts
  pub reached : IfSome held (λ files. IsReached files rules scripts word)
  pub stops : Stops held
      (λ files status. FilesLead files rules scripts (refusal status)) word before now status

-- why the output isn't written
abbrev pub WriteStops : ℕ → ℕ → Status → Type 0
WriteStops before now WriteFailed = Rose before now
WriteStops before now OutOfMemory = Unit {0}
WriteStops before now status = ⊥
