-- From why a step gave no result to why the run ended as it did.
use Rattle.std.proofs.Common.{◌≡◌, refl, sym, ap, ◌∙◌, subst, ◌<◌, ◌≤◌, ◌+◌, ◌⊎◌, ℕ, suc, List, ◌∷◌, IfSome, Option, None, Some, Ok, Err, Bool, true, ◌&&◌, inl}
use Rattle.std.proofs.Common.{inr, length, take, drop, codes, arith}
use Rattle.std.specs.List.{list_all}
use Rattle.std.proofs.lemmas.List.{take-append-drop, length-take}
use Rattle.std.proofs.lemmas.List.Folds.{list_all-append}
use Rattle.std.proofs.lemmas.Option.{IfSome_then}
use Rattle.ml_term.proofs.KeyColumns.{and_first}
use Rattle.ml_outside.specs.Held.{Files}
use Rattle.ml_outside.specs.Causes.{Rose}
use Rattle.ml_search.specs.Program.{Script}
use Rattle.ml_run.specs.Words.{AreWords, NamesFile, is_file_name}
use Rattle.ml_run.specs.Texts.{RulesContent}
use Rattle.ml_run.specs.Outcomes.{Outcome, refusal, inputs, RulesCome, ScriptsCome, FilesLead, Leads, HasInputs, status_of}
use Rattle.ml_run.specs.inside.StepCauses.{Stops, ScriptsStop, IsReached, FilesStop}
use Rattle.ml_run.specs.Causes.{Counts, IsCaused, IsQuiet, TellsOutcome, RefusesFile}
use Rattle.ml_run.specs.declared.status.Status.{Status}
use Rattle.ml_run.specs.declared.status.Status.TheVariants.{Done, BadWords, NoFile, TooLong, ReadFailed, RulesRefused, ScriptRefused, WriteFailed, OutOfMemory}
use Rattle.ml_run.proofs.OneOutcome.{one_outcome}
use Rattle.ml_run.proofs.RulesReadings.{OneFault, ReadOrFault}

-- what two clauses say of a value in a Some
pub both : {X : Type 0} (o : Option X) {P Q R : X → Type 0} → IfSome o P → IfSome o Q → ((x : X) → P x → Q x → R x) → IfSome o R
both None p q f = tt
both (Some x) p q f = f x p q

pub rose_later : (before mid now : ℕ) → before ≤ mid → Rose mid now → Rose before now
rose_later before mid now le rose = omega arith

-- what stops a step stops one that began before, where this leads from the refusals of one to those of the other
pub stops_behind : (held : Option Files) (Before : Files → Type 0) (Leading Leading' : Files → Status → Type 0) (word before mid now : ℕ) (status : Status) →
    before ≤ mid → IfSome held Before
    → ((files : Files) (status : Status) → Before files → Leading files status → Leading' files status) → Stops held Leading word mid now status →
    Stops held Leading' word before now status
stops_behind held Before Leading Leading' word before mid now Done le p f h = absurd h.0
stops_behind held Before Leading Leading' word before mid now BadWords le p f h = absurd h.0
stops_behind held Before Leading Leading' word before mid now (NoFile i) le p f h = (h.0, both held p h.1 (λ files p l. f files (NoFile i) p l))
stops_behind held Before Leading Leading' word before mid now (TooLong i) le p f h = (h.0, both held p h.1 (λ files p l. f files (TooLong i) p l))
stops_behind held Before Leading Leading' word before mid now (ReadFailed i) le p f h = (h.0, rose_later before mid now le h.1)
stops_behind held Before Leading Leading' word before mid now (RulesRefused g) le p f h = (h.0, both held p h.1 (λ files p l. f files (RulesRefused g) p l))
stops_behind held Before Leading Leading' word before mid now (ScriptRefused k g) le p f h =
    (h.0, both held p h.1 (λ files p l. f files (ScriptRefused k g) p l))
stops_behind held Before Leading Leading' word before mid now WriteFailed le p f h = absurd h.0
stops_behind held Before Leading Leading' word before mid now OutOfMemory le p f h = tt

-- want of memory stops every step
pub no_script_stops : (held : Option Files) (names : List (List ℕ)) (got before now : ℕ) → got < length names
    → IfSome held (λ files. (ss : List Script) × ScriptsCome files 1 (take got names) (Ok ss)) → ScriptsStop held names before now OutOfMemory
no_script_stops held names got before now there reached = record { got = got; there = there; reached = reached; stops = tt }

-- what stops the rules stops the files
pub rules_stop : (held : Option Files) (rules : List ℕ) (scripts : List (List ℕ)) (before now : ℕ) (status : Status)
    → Stops held (λ files status. RulesCome files rules (Err status)) 1 before now status → FilesStop held rules scripts before now status
rules_stop held rules scripts before now status h = record {
  word = 1;
  some = omega arith;
  there = omega arith;
  reached = first held;
  stops =
      stops_behind held (λ files. Unit {0}) _ (λ files status. FilesLead files rules scripts (refusal status)) 1 before before now status (omega arith)
      (nothing held) (λ files status _ r. (Err status, r, refl)) h;
}
  where
    first : (held : Option Files) → IfSome held (λ files. IsReached files rules scripts 1)
    first None = tt
    first (Some files) = inl refl

    nothing : (held : Option Files) → IfSome held (λ files. Unit {0})
    nothing None = tt
    nothing (Some files) = tt

-- what stops the scripts behind rules that were read stops the files
pub scripts_stop : (held : Option Files) (rules : List ℕ) (scripts : List (List ℕ)) (r : RulesContent) (before mid now : ℕ) (status : Status) → before ≤ mid
    → IfSome held (λ files. RulesCome files rules (Ok r)) → ScriptsStop held scripts mid now status → FilesStop held rules scripts before now status
scripts_stop held rules scripts r before mid now status le read h = record {
  word = 2 + h.got;
  some = omega arith;
  there = omega (arith, h.there);
  reached = both held read h.reached (λ files rs ss. inr (h.got, refl, r.0, r.1, ss.0, (Ok r, rs, (Ok ss.0, ss.1, refl))));
  stops =
      stops_behind held (λ files. RulesCome files rules (Ok r)) _ (λ files status. FilesLead files rules scripts (refusal status))
      (2 + h.got) before mid now status le read (λ files status rs ss. (Ok r, rs, (Err status, ss, refl))) h.stops;
}

list_all-take : {A : Type 0} (p : A → Bool) (n : ℕ) (xs : List A) → list_all p xs ≡ true → list_all p (take n xs) ≡ true
list_all-take p n xs h =
    let whole : (list_all p (take n xs) && list_all p (drop n xs)) ≡ true =
    sym (list_all-append p (take n xs) (drop n xs)) ∙ ap (list_all p) (take-append-drop n xs) ∙ h in
    and_first (list_all p (take n xs)) (list_all p (drop n xs)) whole

take_two : (n : ℕ) (a b : List ℕ) (xs : List (List ℕ)) → take (2 + n) (a ∷ b ∷ xs) ≡ a ∷ b ∷ take n xs
take_two n a b xs = let e : 2 + n ≡ suc (suc n) = omega arith in ap (λ m. take m (a ∷ b ∷ xs)) e

-- words up to one that names a file are words of the form
shorter : (words : List (List ℕ)) (rules : List ℕ) (scripts : List (List ℕ)) (n : ℕ) → AreWords words rules scripts →
    AreWords (take (2 + n) words) rules (take n scripts)
shorter words rules scripts n are = record {
  are = ap (take (2 + n)) are.are ∙ take_two n (codes "serial") rules scripts;
  rules_name = are.rules_name;
  script_names = list_all-take is_file_name n scripts are.script_names;
  few = omega (arith, length-take n scripts, are.few);
}

-- what the steps before a refusal say of the words
module _ (words : List (List ℕ)) (rules : List ℕ) (scripts : List (List ℕ)) (are : AreWords words rules scripts) where
  pub files_lead : (files : Files) (outcome : Outcome) → FilesLead files rules scripts outcome → Leads files words outcome
  files_lead files outcome h = inr (rules, scripts, are, h)

  reached : (files : Files) (word : ℕ) → IsReached files rules scripts word → (word ≡ 1) ⊎ HasInputs files (take word words)
  reached files word (inl e) = inl e
  reached files word (inr h) =
      inr (subst (λ word. HasInputs files (take word words)) (sym h.1) (h.2, h.3, h.4, inr (rules, take h.0 scripts, shorter words rules scripts h.0 are, h.5)))

  refuses : (held : Option Files) (word i : ℕ) (status : Status) → i ≡ word → NamesFile words word →
      IfSome held (λ files. FilesLead files rules scripts (refusal status)) → RefusesFile held words i status
  refuses held word i status e names h = (subst (NamesFile words) (sym e) names, IfSome_then held h (λ files l. files_lead files (refusal status) l))

  caused_at : (held : Option Files) (counts : Counts) (word : ℕ) (status : Status) → NamesFile words word →
      IfSome held (λ files. IsReached files rules scripts word)
      → Stops held (λ files status. FilesLead files rules scripts (refusal status)) word counts.reads counts.reads_now status →
      IsCaused held words counts status
  caused_at held counts word Done names r h = absurd h.0
  caused_at held counts word BadWords names r h = absurd h.0
  caused_at held counts word (NoFile i) names r h = refuses held word i (NoFile i) h.0 names h.1
  caused_at held counts word (TooLong i) names r h = refuses held word i (TooLong i) h.0 names h.1
  caused_at held counts word (ReadFailed i) names r h = (
    h.1,
    (
      subst (NamesFile words) (sym h.0) names,
      subst (λ i. IfSome held (λ files. (i ≡ 1) ⊎ HasInputs files (take i words))) (sym h.0)
          (IfSome_then held r (λ files. reached files word)),
    ),
  )
  caused_at held counts word (RulesRefused f) names r h = refuses held word 1 (RulesRefused f) (sym h.0) names h.1
  caused_at held counts word (ScriptRefused k f) names r h = (h.0.0, refuses held word (1 + k) (ScriptRefused k f) (sym h.0.1) names h.1)
  caused_at held counts word WriteFailed names r h = absurd h.0
  caused_at held counts word OutOfMemory names r h = tt

  pub caused_by_files : (held : Option Files) (counts : Counts) (status : Status) → FilesStop held rules scripts counts.reads counts.reads_now status →
      IsCaused held words counts status
  caused_by_files held counts status h = caused_at held counts h.word status (rules, scripts, are, h.some, h.there) h.reached h.stops

-- where no fault is counted, the status is that of the outcome
module _ (once : OneFault) (apart : ReadOrFault) where
  tells_inputs : (files : Files) (words : List (List ℕ)) (status : Status) → HasInputs files words → status ≡ Done → TellsOutcome files words status
  tells_inputs files words status h e = λ outcome leads. inl (e ∙ ap status_of (one_outcome once apart files words (inputs h.0 h.1 h.2) outcome h.3 leads))

  tells_refusal : (files : Files) (words : List (List ℕ)) (status : Status) → Leads files words (refusal status) → TellsOutcome files words status
  tells_refusal files words status h = λ outcome leads. inl (ap status_of (one_outcome once apart files words (refusal status) outcome h leads))

  pub tells : (held : Option Files) (words : List (List ℕ)) (counts : Counts) (status : Status) → IsQuiet counts → IsCaused held words counts status
      → IfSome held (λ files. TellsOutcome files words status)
  tells None words counts status quiet h = tt
  tells (Some files) words counts Done quiet h = tells_inputs files words Done h refl
  tells (Some files) words counts BadWords quiet h = tells_refusal files words BadWords (inl (h, refl))
  tells (Some files) words counts (NoFile i) quiet h = tells_refusal files words (NoFile i) h.1
  tells (Some files) words counts (TooLong i) quiet h = tells_refusal files words (TooLong i) h.1
  tells (Some files) words counts (ReadFailed i) quiet h = absurd (quiet.no_read_fault h.0)
  tells (Some files) words counts (RulesRefused f) quiet h = tells_refusal files words (RulesRefused f) h.1
  tells (Some files) words counts (ScriptRefused k f) quiet h = tells_refusal files words (ScriptRefused k f) h.1.1
  tells (Some files) words counts WriteFailed quiet h = absurd (quiet.no_write_fault h.0)
  tells (Some files) words counts OutOfMemory quiet h = λ outcome leads. inr refl
