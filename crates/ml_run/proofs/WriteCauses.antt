-- From why the output isn't written to why the run ended as it did.
use Rattle.std.proofs.Common.{ℕ, List, Option, IfSome, Result, Ok, Err, IfErr, inr}
use Rattle.std.proofs.lemmas.Option.{IfSome_then}
use Rattle.ml_outside.specs.Held.{Files}
use Rattle.ml_outside.specs.Written.{Appended, AppendedFront}
use Rattle.ml_run.specs.Causes.{Counts, IsCaused}
use Rattle.ml_run.specs.inside.StepCauses.{WriteStops}
use Rattle.ml_run.specs.Outcomes.{inputs, FilesLead}
use Rattle.ml_run.specs.inside.RunAndPrint.{PrintsInputs, PrintStops}
use Rattle.ml_run.specs.Prints.{Prints}
use Rattle.ml_run.specs.inside.Seen.{rules_seen, scripts_seen}
use Rattle.ml_run.specs.Words.{AreWords}
use Rattle.ml_run.specs.declared.inputs.Inputs.{Inputs}
use Rattle.ml_run.specs.declared.status.Status.{Status}
use Rattle.ml_run.specs.declared.status.Status.TheVariants.{Done, BadWords, NoFile, TooLong, ReadFailed, RulesRefused, ScriptRefused, WriteFailed, OutOfMemory}
use Rattle.ml_run.proofs.RefusalCauses.{files_lead}
use Rattle.ml_run.proofs.WritesInTurn.{whole_front}

-- what two clauses say of an error
pub both_err : {T E : Type 0} (r : Result T E) {P Q R : E → Type 0} → IfErr r P → IfErr r Q → ((e : E) → P e → Q e → R e) → IfErr r R
both_err (Ok x) p q f = tt
both_err (Err e) p q f = f e p q

pub play_stops : (i : Inputs) (faults faults_now : ℕ) (before after : Option (List ℕ)) (status : Status) → WriteStops faults faults_now status →
    PrintsInputs i (AppendedFront before after)
    → PrintStops i faults faults_now before after status
play_stops i faults faults_now before after Done h p = absurd h
play_stops i faults faults_now before after BadWords h p = absurd h
play_stops i faults faults_now before after (NoFile n) h p = absurd h
play_stops i faults faults_now before after (TooLong n) h p = absurd h
play_stops i faults faults_now before after (ReadFailed n) h p = absurd h
play_stops i faults faults_now before after (RulesRefused f) h p = absurd h
play_stops i faults faults_now before after (ScriptRefused k f) h p = absurd h
play_stops i faults faults_now before after WriteFailed h p = (h, p)
play_stops i faults faults_now before after OutOfMemory h p = inr p

abbrev pub LeadsTo : Files → List ℕ → List (List ℕ) → Inputs → Type 0
LeadsTo files rules scripts i = FilesLead files rules scripts (inputs (rules_seen i.rules).0 (rules_seen i.rules).1 (scripts_seen i.scripts.items))

-- what was printed of inputs to which the words lead
module _ (words : List (List ℕ)) (rules : List ℕ) (scripts : List (List ℕ)) (are : AreWords words rules scripts) (i : Inputs) where
  pub prints : (files : Files) (happened : List ℕ → Type 0) → LeadsTo files rules scripts i → PrintsInputs i happened → Prints files words happened
  prints files happened lead p = record {
    program = (rules_seen i.rules).0;
    items = (rules_seen i.rules).1;
    scripts = scripts_seen i.scripts.items;
    lead = files_lead words rules scripts are files _ lead;
    sessions = p;
  }

  pub plays_front : (before after : Option (List ℕ)) → PrintsInputs i (Appended before after) → PrintsInputs i (AppendedFront before after)
  plays_front before after p = record { order = p.order; numbers = p.numbers; happened_to = whole_front before after _ p.happened_to }

  pub has_inputs : (held : Option Files) (counts : Counts) → IfSome held (λ files. LeadsTo files rules scripts i) → IsCaused held words counts Done
  has_inputs held counts h = IfSome_then held h (λ files l. (_, _, _, files_lead words rules scripts are files _ l))

  pub caused_by_output : (held : Option Files) (counts : Counts) (before after : Option (List ℕ)) (status : Status) →
      IfSome held (λ files. LeadsTo files rules scripts i)
      → PrintStops i counts.writes counts.writes_now before after status → IsCaused held words counts status
  caused_by_output held counts before after Done l h = absurd h
  caused_by_output held counts before after BadWords l h = absurd h
  caused_by_output held counts before after (NoFile n) l h = absurd h
  caused_by_output held counts before after (TooLong n) l h = absurd h
  caused_by_output held counts before after (ReadFailed n) l h = absurd h
  caused_by_output held counts before after (RulesRefused f) l h = absurd h
  caused_by_output held counts before after (ScriptRefused k f) l h = absurd h
  caused_by_output held counts before after WriteFailed l h = (h.0, has_inputs held counts l)
  caused_by_output held counts before after OutOfMemory l h = tt
