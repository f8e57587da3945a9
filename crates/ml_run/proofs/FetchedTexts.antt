-- What a text that was fetched comes to.
use Rattle.std.proofs.Common.{ℕ, List, Option, IfSome, Ok, Err, refl}
use Rattle.std.proofs.lemmas.Option.{IfSome_then}
use Rattle.ml_outside.specs.Held.{Files}
use Rattle.ml_search.specs.Program.{Script}
use Rattle.ml_reader.specs.Rules.{IsRules, RulesHaveFault}
use Rattle.ml_reader.specs.ScriptTexts.{IsScript, HasScriptFault}
use Rattle.ml_reader.specs.declared.fault.ReadFault.{ReadFault}
use Rattle.ml_run.specs.Texts.{fault_in, content, HoldsText, RulesContent}
use Rattle.ml_run.specs.Outcomes.{RulesCome, ScriptComes}
use Rattle.ml_run.specs.declared.status.Status.TheVariants.{RulesRefused, ScriptRefused}

module _ (held : Option Files) (name bytes : List ℕ) (text : IfSome held (λ files. HoldsText files name bytes)) where
  pub rules_are : (r : RulesContent) → IsRules bytes r.0 r.1 → IfSome held (λ files. RulesCome files name (Ok r))
  rules_are r is = IfSome_then held text (λ files text. (content r, (bytes, text, is), refl))

  pub rules_faulty : (f : ReadFault) → RulesHaveFault bytes f → IfSome held (λ files. RulesCome files name (Err (RulesRefused f)))
  rules_faulty f is = IfSome_then held text (λ files text. (fault_in f, (bytes, text, is), refl))

  pub script_is : (k : ℕ) (s : Script) → IsScript bytes s → IfSome held (λ files. ScriptComes files k name (Ok s))
  script_is k s is = IfSome_then held text (λ files text. (content s, (bytes, text, is), refl))

  pub script_faulty : (k : ℕ) (f : ReadFault) → HasScriptFault bytes f →
      IfSome held (λ files. ScriptComes files k name (Err (ScriptRefused k f)))
  script_faulty k f is = IfSome_then held text (λ files text. (fault_in f, (bytes, text, is), refl))
