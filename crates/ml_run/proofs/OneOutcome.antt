-- The words lead to one outcome.
use Rattle.std.proofs.Common.{◌≡◌, ◌∷◌, ◌+◌, [], refl, sym, ap, ◌∙◌, subst, length, ℕ, List, Result, Ok, Err, inl, inr, arith}
use Rattle.ml_outside.specs.Held.{Files}
use Rattle.ml_search.specs.Program.{Script}
use Rattle.ml_reader.specs.Rules.{IsRules, RulesHaveFault}
use Rattle.ml_reader.specs.ScriptTexts.{IsScript, HasScriptFault}
use Rattle.ml_reader.specs.declared.fault.ReadFault.{ReadFault}
use Rattle.ml_reader.proofs.ScriptReading.OneScriptReading.{one_script, one_fault, no_fault}
use Rattle.ml_run.specs.Texts.{FileContent, no_file, over_limit, fault_in, content, IsContent, RulesContent}
use Rattle.ml_run.specs.Outcomes.{Outcome, rules_come, script_comes, RulesCome, ScriptComes, with_script, FirstComes, ScriptsCome, outcome_of, RulesLead}
use Rattle.ml_run.specs.Outcomes.{FilesLead, Leads}
use Rattle.ml_run.specs.declared.status.Status.{Status}
use Rattle.ml_run.proofs.RulesReadings.{OneFault, ReadOrFault, one_rules, one_rules_fault, rules_or_fault}

-- a file is one thing, where a text spells one thing or has one fault
module _ {A : Type 0} (Spells : List ℕ → A → Type 0) (HasFault : List ℕ → ReadFault → Type 0)
    (one : (bytes : List ℕ) (a b : A) → Spells bytes a → Spells bytes b → a ≡ b)
    (once : (bytes : List ℕ) (f g : ReadFault) → HasFault bytes f → HasFault bytes g → f ≡ g)
    (apart : (bytes : List ℕ) (a : A) (f : ReadFault) → Spells bytes a → HasFault bytes f → ⊥) where
  one_found : (files : Files) (name : List ℕ) (x y : FileContent A) → IsContent Spells HasFault files name x → IsContent Spells HasFault files name y → x ≡ y
  one_found files name no_file no_file h k = refl
  one_found files name no_file over_limit h k = cc (h, k.1)
  one_found files name no_file (fault_in g) h k = cc (h, k.1.0)
  one_found files name no_file (content b) h k = cc (h, k.1.0)
  one_found files name over_limit no_file h k = cc (k, h.1)
  one_found files name over_limit over_limit h k = refl
  one_found files name over_limit (fault_in g) h k = let same : h.0 ≡ k.0 = cc (h.1, k.1.0) in absurd (omega (arith, ap length same, h.2, k.1.1))
  one_found files name over_limit (content b) h k = let same : h.0 ≡ k.0 = cc (h.1, k.1.0) in absurd (omega (arith, ap length same, h.2, k.1.1))
  one_found files name (fault_in f) no_file h k = cc (k, h.1.0)
  one_found files name (fault_in f) over_limit h k = let same : h.0 ≡ k.0 = cc (h.1.0, k.1) in absurd (omega (arith, ap length same, h.1.1, k.2))
  one_found files name (fault_in f) (fault_in g) h k =
      let same : h.0 ≡ k.0 = cc (h.1.0, k.1.0) in ap fault_in (once k.0 f g (subst (λ bytes. HasFault bytes f) same h.2) k.2)
  one_found files name (fault_in f) (content b) h k =
      let same : h.0 ≡ k.0 = cc (h.1.0, k.1.0) in absurd (apart k.0 b f k.2 (subst (λ bytes. HasFault bytes f) same h.2))
  one_found files name (content a) no_file h k = cc (k, h.1.0)
  one_found files name (content a) over_limit h k = let same : h.0 ≡ k.0 = cc (h.1.0, k.1) in absurd (omega (arith, ap length same, h.1.1, k.2))
  one_found files name (content a) (fault_in g) h k =
      let same : h.0 ≡ k.0 = cc (h.1.0, k.1.0) in absurd (apart k.0 a g (subst (λ bytes. Spells bytes a) same h.2) k.2)
  one_found files name (content a) (content b) h k =
      let same : h.0 ≡ k.0 = cc (h.1.0, k.1.0) in ap content (one k.0 a b (subst (λ bytes. Spells bytes a) same h.2) k.2)

one_rules_come : OneFault → ReadOrFault → (files : Files) (name : List ℕ) (a b : Result RulesContent Status) → RulesCome files name a → RulesCome files name b →
    a ≡ b
one_rules_come once apart files name a b h k =
    sym h.2
    ∙ ap rules_come
    (one_found (λ bytes (r : RulesContent). IsRules bytes r.0 r.1) RulesHaveFault one_rules (one_rules_fault once apart)
    (rules_or_fault once apart) files name h.0 k.0 h.1 k.1) ∙ k.2

one_script_comes : (files : Files) (n : ℕ) (name : List ℕ) (a b : Result Script Status) → ScriptComes files n name a →
    ScriptComes files n name b → a ≡ b
one_script_comes files n name a b h k =
    sym h.2 ∙ ap (script_comes n) (one_found IsScript HasScriptFault one_script one_fault no_fault files name h.0 k.0 h.1 k.1) ∙ k.2

one_behind : (first : Result Script Status) (Behind : Result (List Script) Status → Type 0) →
    ((x y : Result (List Script) Status) → Behind x → Behind y → x ≡ y)
    → (a b : Result (List Script) Status) → FirstComes first Behind a → FirstComes first Behind b → a ≡ b
one_behind (Err status) Behind one a b h k = h ∙ sym k
one_behind (Ok s) Behind one a b h k = h.2 ∙ ap (with_script s) (one h.0 k.0 h.1 k.1) ∙ sym k.2

one_scripts_come : (files : Files) (n : ℕ) (names : List (List ℕ)) (a b : Result (List Script) Status) → ScriptsCome files n names a →
    ScriptsCome files n names b → a ≡ b
one_scripts_come files n [] a b h k = h ∙ sym k
one_scripts_come files n (name ∷ names) a b h k =
    let same = one_script_comes files n name h.0 k.0 h.1 k.1 in
    let here = subst (λ first. FirstComes first (λ rest. ScriptsCome files (1 + n) names rest) a) same h.2 in
    one_behind k.0 (λ rest. ScriptsCome files (1 + n) names rest) (one_scripts_come files (1 + n) names) a b here k.2

one_rules_lead : (files : Files) (scripts : List (List ℕ)) (r : Result RulesContent Status) (a b : Outcome) → RulesLead files scripts r a →
    RulesLead files scripts r b → a ≡ b
one_rules_lead files scripts (Err status) a b h k = h ∙ sym k
one_rules_lead files scripts (Ok r) a b h k = h.2 ∙ ap (outcome_of r) (one_scripts_come files 1 scripts h.0 k.0 h.1 k.1) ∙ sym k.2

one_files : OneFault → ReadOrFault → (files : Files) (rules : List ℕ) (scripts : List (List ℕ)) (a b : Outcome) → FilesLead files rules scripts a →
    FilesLead files rules scripts b → a ≡ b
one_files once apart files rules scripts a b h k =
    let same = one_rules_come once apart files rules h.0 k.0 h.1 k.1 in
    one_rules_lead files scripts k.0 a b (subst (λ r. RulesLead files scripts r a) same h.2) k.2

pub one_outcome : OneFault → ReadOrFault → (files : Files) (words : List (List ℕ)) (a b : Outcome) → Leads files words a → Leads files words b → a ≡ b
one_outcome once apart files words a b (inl h) (inl k) = h.1 ∙ sym k.1
one_outcome once apart files words a b (inl h) (inr k) = absurd (h.0 k.0 k.1 k.2)
one_outcome once apart files words a b (inr h) (inl k) = absurd (k.0 h.0 h.1 h.2)
one_outcome once apart files words a b (inr h) (inr k) =
    let same : h.0 ∷ h.1 ≡ k.0 ∷ k.1 = cc (h.2.are, k.2.are) in
    let same_rules : h.0 ≡ k.0 = cc in
    let same_scripts : h.1 ≡ k.1 = cc in
    let here = subst (λ r. FilesLead files r h.1 a) same_rules h.3 in
    one_files once apart files k.0 k.1 a b (subst (λ s. FilesLead files k.0 s a) same_scripts here) k.3
