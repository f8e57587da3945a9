-- A text is at most one script, and has at most one first fault as a script, but not both.
use Rattle.std.specs.Prelude.{◌≡◌, ◌⊎◌, ◌<◌, ◌^◌, ℕ, List, length}
use Rattle.std.proofs.Common.{ap, subst, inl, inr}
use Rattle.ml_token.proofs.ScannerComplete.{token-only, fault-only}
use Rattle.ml_token.proofs.TokensInText.{first-stands, first-fails}
use Rattle.ml_search.specs.Program.{Script}
use Rattle.ml_reader.specs.Faults.{fault, HasFirstFault}
use Rattle.ml_reader.specs.Lexemes.{ReadClause}
use Rattle.ml_reader.specs.Scripts.{IsScriptOf, IsFirstWrong}
use Rattle.ml_reader.specs.Texts.{IsRead}
use Rattle.ml_reader.specs.ScriptTexts.{IsScript, HasScriptFault, no_text, wrong_item}
use Rattle.ml_reader.specs.declared.fault.ReadFault.{ReadFault}
use Rattle.ml_reader.specs.declared.fault.ReadKind.TheVariants.{BadScriptItem}
use Rattle.ml_reader.proofs.Parsing.TextBeginnings.{Stand}
use Rattle.ml_reader.proofs.Parsing.OneTextReading.{read_once, read_without_fault, one_first_fault, every_text}
use Rattle.ml_reader.proofs.ScriptReading.ScriptRuns.{only_script, only_wrong, script_or_wrong, script_unless_wrong}

-- a text's tokens and their faults stand in it
pub stand : (bytes : List ℕ) → Stand bytes
stand bytes = record {
  token = λ at t l h. first-stands bytes at t l (token-only bytes at t h);
  fault = λ at f l h. first-fails bytes at f l (fault-only bytes at f h);
}

pub one_script : (bytes : List ℕ) (s t : Script) → IsScript bytes s → IsScript bytes t → s ≡ t
one_script bytes s t h k = only_script k.clauses s t (subst (λ cs. IsScriptOf cs s) (read_once bytes h.clauses k.clauses h.read k.read) h.script) k.script

pub no_fault : (bytes : List ℕ) (s : Script) (f : ReadFault) → IsScript bytes s → HasScriptFault bytes f → ⊥
no_fault bytes s f i (no_text h) = read_without_fault bytes (stand bytes) i.clauses h.met f i.read h.there
no_fault bytes s f i (wrong_item {cs = cs} {w = w} r h) =
    script_or_wrong cs s w (subst (λ cs. IsScriptOf cs s) (read_once bytes i.clauses cs i.read r) i.script) h

pub one_fault : (bytes : List ℕ) (f g : ReadFault) → HasScriptFault bytes f → HasScriptFault bytes g → f ≡ g
one_fault bytes f g (no_text h) (no_text k) = one_first_fault bytes (stand bytes) f g h k
one_fault bytes f g (no_text h) (wrong_item {cs = cs} r k) = absurd (read_without_fault bytes (stand bytes) cs h.met f r h.there)
one_fault bytes f g (wrong_item {cs = cs} r h) (no_text k) = absurd (read_without_fault bytes (stand bytes) cs k.met g r k.there)
one_fault bytes f g (wrong_item {cs = cs} {w = v} r h) (wrong_item {cs = ds} {w = w} s k) =
    ap (λ w. fault BadScriptItem w.place) (only_wrong ds v w (subst (λ cs. IsFirstWrong cs v) (read_once bytes cs ds r s) h) k)

pub script_or_fault : (bytes : List ℕ) → length bytes < 2 ^ 32 → ((s : Script) × IsScript bytes s) ⊎ ((f : ReadFault) × HasScriptFault bytes f)
script_or_fault bytes short = by (every_text bytes (stand bytes) short)
  where
    of_clauses : (cs : List ReadClause) → IsRead bytes cs → ((s : Script) × IsScriptOf cs s) ⊎ ((w : ReadClause) × IsFirstWrong cs w)
        → ((s : Script) × IsScript bytes s) ⊎ ((f : ReadFault) × HasScriptFault bytes f)
    of_clauses cs read (inl h) = inl (h.0, record { clauses = cs; read = read; script = h.1 })
    of_clauses cs read (inr h) = inr (fault BadScriptItem h.0.place, wrong_item read h.1)

    by : ((cs : List ReadClause) × IsRead bytes cs) ⊎ ((f : ReadFault) × HasFirstFault bytes f) → ((s : Script) × IsScript bytes s)
        ⊎ ((f : ReadFault) × HasScriptFault bytes f)
    by (inl h) = of_clauses h.0 h.1 (script_unless_wrong h.0)
    by (inr h) = inr (h.0, no_text h.1)
