-- A text is rules of one program with one list of items, or has one first fault as rules.
use Rattle.std.specs.Prelude.{◌≡◌, ◌⊎◌, ◌<◌, ◌^◌, ℕ, List, length}
use Rattle.std.proofs.Common.{subst, inl, inr}
use Rattle.ml_term.specs.Tree.{Tree}
use Rattle.ml_search.specs.Program.{Program}
use Rattle.ml_reader.specs.Faults.{HasFirstFault}
use Rattle.ml_reader.specs.Lexemes.{ReadClause}
use Rattle.ml_reader.specs.Rules.{AreRules, RulesGoWrong, IsRules, RulesHaveFault, in_text, in_rules}
use Rattle.ml_reader.specs.Texts.{IsRead}
use Rattle.ml_reader.specs.declared.fault.ReadFault.{ReadFault}
use Rattle.ml_reader.proofs.RuleReading.OneProgram.{one_program, rules_or_wrong, rules_go_wrong_once}
use Rattle.ml_reader.proofs.RuleReading.RulesOrFault.{RulesOrWrong, rules_unless_wrong}
use Rattle.ml_reader.proofs.ScriptReading.OneScriptReading.{stand}
use Rattle.ml_reader.proofs.Parsing.OneTextReading.{read_once, read_without_fault, one_first_fault, every_text}

pub one_rules : (bytes : List ℕ) (p q : Program) (items others : List (ℕ × Tree)) → IsRules bytes p items → IsRules bytes q others → (p ≡ q) × (items ≡ others)
one_rules bytes p q items others h k =
    one_program k.clauses p q items others (subst (λ cs. AreRules cs p items) (read_once bytes h.clauses k.clauses h.read k.read) h.rules) k.rules

pub rules_without_fault : (bytes : List ℕ) (p : Program) (items : List (ℕ × Tree)) (f : ReadFault) → IsRules bytes p items → RulesHaveFault bytes f → ⊥
rules_without_fault bytes p items f h (in_text t) = read_without_fault bytes (stand bytes) h.clauses t.met f h.read t.there
rules_without_fault bytes p items f h (in_rules {cs = cs} read w) =
    rules_or_wrong cs p items f (subst (λ cs. AreRules cs p items) (read_once bytes h.clauses cs h.read read) h.rules) w

pub one_rules_fault : (bytes : List ℕ) (f g : ReadFault) → RulesHaveFault bytes f → RulesHaveFault bytes g → f ≡ g
one_rules_fault bytes f g (in_text h) (in_text k) = one_first_fault bytes (stand bytes) f g h k
one_rules_fault bytes f g (in_text h) (in_rules {cs = cs} read w) = absurd (read_without_fault bytes (stand bytes) cs h.met f read h.there)
one_rules_fault bytes f g (in_rules {cs = cs} read w) (in_text k) = absurd (read_without_fault bytes (stand bytes) cs k.met g read k.there)
one_rules_fault bytes f g (in_rules {cs = cs} read w) (in_rules {cs = ds} read' w') =
    rules_go_wrong_once ds f g (subst (λ cs. RulesGoWrong cs f) (read_once bytes cs ds read read') w) w'

pub rules_or_fault : (bytes : List ℕ) → length bytes < 2 ^ 32 → ((p : Program) × (items : List (ℕ × Tree)) × IsRules bytes p items)
    ⊎ ((f : ReadFault) × RulesHaveFault bytes f)
rules_or_fault bytes short = by (every_text bytes (stand bytes) short)
  where
    of_clauses : (cs : List ReadClause) → IsRead bytes cs → RulesOrWrong cs → ((p : Program) × (items : List (ℕ × Tree)) × IsRules bytes p items)
        ⊎ ((f : ReadFault) × RulesHaveFault bytes f)
    of_clauses cs read (inl h) = inl (h.0, h.1, record { clauses = cs; read = read; rules = h.2 })
    of_clauses cs read (inr h) = inr (h.0, in_rules read h.1)

    by : ((cs : List ReadClause) × IsRead bytes cs) ⊎ ((f : ReadFault) × HasFirstFault bytes f)
        → ((p : Program) × (items : List (ℕ × Tree)) × IsRules bytes p items) ⊎ ((f : ReadFault) × RulesHaveFault bytes f)
    by (inl h) = of_clauses h.0 h.1 (rules_unless_wrong h.0)
    by (inr h) = inr (h.0, in_text h.1)
