-- The first refusal, or the inputs, for what a shelf holds: words first, then the rules, then each
-- script in order. The code stops at the first refusal; here it is said what each file comes to.
use Rattle.std.specs.Prelude.{◌≡◌, ◌⊎◌, ◌+◌, ℕ, List, [], ◌∷◌, Result, Ok, Err}
use Rattle.ml_outside.specs.Held.{Files}
use Rattle.ml_term.specs.Tree.{Tree}
use Rattle.ml_search.specs.Program.{Program, Script}
use Rattle.ml_run.specs.Words.{AreWords, AreBad}
use Rattle.ml_run.specs.Texts.{FileContent, no_file, over_limit, fault_in, content, RulesContent}
use Rattle.ml_run.specs.Texts.{AreRules, IsScriptFile}
use Rattle.ml_run.specs.declared.status.Status.{Status}
use Rattle.ml_run.specs.declared.status.Status.TheVariants.{Done, BadWords, NoFile, TooLong}
use Rattle.ml_run.specs.declared.status.Status.TheVariants.{RulesRefused, ScriptRefused}

-- a refusal by its status, or the program, its initial items and the scripts
pub data Outcome : Type 0 where
  refusal : Status → Outcome
  inputs : Program → List (ℕ × Tree) → List Script → Outcome

-- what rules come to
abbrev pub rules_come : FileContent RulesContent → Result RulesContent Status
rules_come no_file = Err (NoFile 1)
rules_come over_limit = Err (TooLong 1)
rules_come (fault_in f) = Err (RulesRefused f)
rules_come (content r) = Ok r

-- what script k comes to, from 1; word 1 + k names it
abbrev pub script_comes : ℕ → FileContent Script → Result Script Status
script_comes k no_file = Err (NoFile (1 + k))
script_comes k over_limit = Err (TooLong (1 + k))
script_comes k (fault_in f) = Err (ScriptRefused k f)
script_comes k (content s) = Ok s

-- the file of the rules comes to this
abbrev pub RulesCome : Files → List ℕ → Result RulesContent Status → Type 0
RulesCome files name r =
    (found : FileContent RulesContent) × AreRules files name found × (rules_come found ≡ r)

-- the file of script k comes to this
abbrev pub ScriptComes : Files → ℕ → List ℕ → Result Script Status → Type 0
ScriptComes files k name r =
    (found : FileContent Script) × IsScriptFile files name found × (script_comes k found ≡ r)

-- scripts with one before them
abbrev pub with_script : Script → Result (List Script) Status → Result (List Script) Status
with_script s (Ok ss) = Ok (s ∷ ss)
with_script s (Err status) = Err status

-- What a script and those behind it come to: the script's refusal, or the script before what those
-- behind it come to.
abbrev pub FirstComes : Result Script Status → (Result (List Script) Status → Type 0) →
    Result (List Script) Status → Type 0
FirstComes (Err status) Behind r = r ≡ Err status
FirstComes (Ok s) Behind r =
    (rest : Result (List Script) Status) × Behind rest × (r ≡ with_script s rest)

-- the files of the scripts from number k on come to this
abbrev pub ScriptsCome : Files → ℕ → List (List ℕ) → Result (List Script) Status → Type 0
ScriptsCome files k [] r = r ≡ Ok []
ScriptsCome files k (name ∷ names) r =
    (first : Result Script Status) × ScriptComes files k name first
    × FirstComes first (λ rest. ScriptsCome files (1 + k) names rest) r

-- what the rules and all scripts come to
abbrev pub outcome_of : RulesContent → Result (List Script) Status → Outcome
outcome_of r (Ok ss) = inputs r.0 r.1 ss
outcome_of r (Err status) = refusal status

-- what the scripts lead to behind what the rules came to
abbrev pub RulesLead : Files → List (List ℕ) → Result RulesContent Status → Outcome → Type 0
RulesLead files scripts (Err status) outcome = outcome ≡ refusal status
RulesLead files scripts (Ok r) outcome =
    (ss : Result (List Script) Status) × ScriptsCome files 1 scripts ss
    × (outcome ≡ outcome_of r ss)

-- what the files of these names lead to
abbrev pub FilesLead : Files → List ℕ → List (List ℕ) → Outcome → Type 0
FilesLead files rules scripts outcome =
    (r : Result RulesContent Status) × RulesCome files rules r × RulesLead files scripts r outcome

-- what the words lead to
abbrev pub Leads : Files → List (List ℕ) → Outcome → Type 0
Leads files words outcome =
    (AreBad words × (outcome ≡ refusal BadWords))
    ⊎ ((rules : List ℕ) × (scripts : List (List ℕ)) × AreWords words rules scripts
    × FilesLead files rules scripts outcome)

-- they lead to inputs
abbrev pub HasInputs : Files → List (List ℕ) → Type 0
HasInputs files words =
    (p : Program) × (items : List (ℕ × Tree)) × (scripts : List Script)
    × Leads files words (inputs p items scripts)

-- the status of an outcome, where no fault is counted and memory is there
abbrev pub status_of : Outcome → Status
status_of (refusal status) = status
status_of (inputs p items scripts) = Done
