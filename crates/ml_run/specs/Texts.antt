-- What stands under the name of a file, as rules and as a script. The code fetches a file and reads
-- it; here it is said of what the shelf holds.
use Rattle.std.specs.Prelude.{◌≡◌, ◌<◌, ◌≤◌, ℕ, List, length, Some, None}
use Rattle.std.specs.FinMap as map
use Rattle.ml_outside.specs.Held.{Files}
use Rattle.ml_term.specs.Tree.{Tree}
use Rattle.ml_search.specs.Program.{Program, Script}
use Rattle.ml_reader.specs.Rules.{IsRules, RulesHaveFault}
use Rattle.ml_reader.specs.ScriptTexts.{IsScript, HasScriptFault}
use Rattle.ml_reader.specs.declared.fault.ReadFault.{ReadFault}
use Rattle.ml_run.specs.Limits.{max_text_bytes}

-- what a file is: nothing, more bytes than the limit, a text by its first fault, or a text by what
-- it spells
pub data FileContent (A : Type 0) : Type 0 where
  no_file : FileContent A
  over_limit : FileContent A
  fault_in : ReadFault → FileContent A
  content : A → FileContent A

-- a text within the limit stands under the name
abbrev pub HoldsText : Files → List ℕ → List ℕ → Type 0
HoldsText files name bytes = (map.get files name ≡ Some bytes) × (length bytes ≤ max_text_bytes)

-- a file is this, where it is said which texts spell what, and which first faults they have
abbrev pub IsContent : {A : Type 0} → (List ℕ → A → Type 0) → (List ℕ → ReadFault → Type 0) →
    Files → List ℕ → FileContent A → Type 0
IsContent Spells HasFault files name no_file = map.get files name ≡ None
IsContent Spells HasFault files name over_limit =
    (bytes : List ℕ) × (map.get files name ≡ Some bytes) × (max_text_bytes < length bytes)
IsContent Spells HasFault files name (fault_in f) =
    (bytes : List ℕ) × HoldsText files name bytes × HasFault bytes f
IsContent Spells HasFault files name (content a) =
    (bytes : List ℕ) × HoldsText files name bytes × Spells bytes a

-- what rules spell: a program, and its initial items in the order of the text, each with the number
-- of its declaration
abbrev pub RulesContent : Type 0
RulesContent = Program × List (ℕ × Tree)

-- a file is this as rules
abbrev pub AreRules : Files → List ℕ → FileContent RulesContent → Type 0
AreRules = IsContent (λ bytes r. IsRules bytes r.0 r.1) RulesHaveFault

-- a file is this as a script
abbrev pub IsScriptFile : Files → List ℕ → FileContent Script → Type 0
IsScriptFile = IsContent IsScript HasScriptFault
