-- A text is rules of at most one program with one list of items, and has at most one first fault as rules, but not both.
use Rattle.std.proofs.Common.{◌≡◌, ℕ, List, subst}
use Rattle.ml_reader.specs.Faults.{HasFault, HasFirstFault}
use Rattle.ml_reader.specs.Lexemes.{ReadClause}
use Rattle.ml_reader.specs.Rules.{AreRules, IsRules, RulesGoWrong, RulesHaveFault, in_text, in_rules}
use Rattle.ml_reader.specs.Texts.{IsRead}
use Rattle.ml_reader.specs.declared.fault.ReadFault.{ReadFault}
use Rattle.ml_reader.proofs.RuleReading.OneProgram.{rules_go_wrong_once, rules_or_wrong, one_program}
use Rattle.ml_reader.proofs.Parsing.OneTextReading.{read_once}
use Rattle.ml_run.specs.Texts.{RulesContent}

-- a text has at most one first fault
abbrev pub OneFault : Type 0
OneFault = (bytes : List ℕ) (f g : ReadFault) → HasFirstFault bytes f → HasFirstFault bytes g → f ≡ g

-- a text that is read has no fault
abbrev pub ReadOrFault : Type 0
ReadOrFault = (bytes : List ℕ) (cs : List ReadClause) (met : ℕ) (f : ReadFault) → IsRead bytes cs → HasFault bytes met f → ⊥

pub one_rules : (bytes : List ℕ) (r s : RulesContent) → IsRules bytes r.0 r.1 → IsRules bytes s.0 s.1 → r ≡ s
one_rules bytes r s h k =
    let rules = subst (λ cs. AreRules cs r.0 r.1) (read_once bytes h.clauses k.clauses h.read k.read) h.rules in
    let same = one_program k.clauses r.0 s.0 r.1 s.1 rules k.rules in (λ i. (same.0 i, same.1 i))

module _ (once : OneFault) (apart : ReadOrFault) where
  pub rules_or_fault : (bytes : List ℕ) (r : RulesContent) (f : ReadFault) → IsRules bytes r.0 r.1 → RulesHaveFault bytes f → ⊥
  rules_or_fault bytes r f i (in_text h) = apart bytes i.clauses h.met f i.read h.there
  rules_or_fault bytes r f i (in_rules {cs = cs} read w) =
      rules_or_wrong cs r.0 r.1 f (subst (λ cs. AreRules cs r.0 r.1) (read_once bytes i.clauses cs i.read read) i.rules) w

  pub one_rules_fault : (bytes : List ℕ) (f g : ReadFault) → RulesHaveFault bytes f → RulesHaveFault bytes g → f ≡ g
  one_rules_fault bytes f g (in_text h) (in_text k) = once bytes f g h k
  one_rules_fault bytes f g (in_text h) (in_rules {cs = cs} read w) = absurd (apart bytes cs h.met f read h.there)
  one_rules_fault bytes f g (in_rules {cs = cs} read w) (in_text k) = absurd (apart bytes cs k.met g read k.there)
  one_rules_fault bytes f g (in_rules {cs = cs} r h) (in_rules {cs = ds} s k) =
      rules_go_wrong_once ds f g (subst (λ cs. RulesGoWrong cs f) (read_once bytes cs ds r s) h) k
