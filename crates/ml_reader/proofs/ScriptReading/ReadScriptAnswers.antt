-- What the run over a text's clauses tells of the text.
use Rattle.std.specs.Prelude.{◌≡◌, ◌⊎◌, ℕ, List, Result, Ok, Err, IfOk, MatchResult}
use Rattle.std.proofs.Common.{sym, ap, subst, ◌∙◌, inl, inr}
use Rattle.ml_search.specs.Program.{Script}
use Rattle.ml_search.specs.ProgramSeen.{script_seen}
use Rattle.ml_search.specs.declared.script.Script as S
use Rattle.ml_reader.specs.Faults.{fault, HasFirstFault}
use Rattle.ml_reader.specs.Lexemes.{ReadClause}
use Rattle.ml_reader.specs.Scripts.{IsScriptOf, IsFirstWrong}
use Rattle.ml_reader.specs.inside.script.ScriptItems.{no_clauses, run_clauses}
use Rattle.ml_reader.specs.inside.script.ScriptSeen.{IsRun}
use Rattle.ml_reader.specs.ScriptTexts.{IsScript, HasScriptFault, no_text, wrong_item}
use Rattle.ml_reader.specs.Texts.{IsRead}
use Rattle.ml_reader.specs.declared.fault.ReadFault.{ReadFault}
use Rattle.ml_reader.specs.declared.fault.ReadKind.TheVariants.{BadScriptItem}
use Rattle.ml_reader.specs.declared.fault.ReadStop.{ReadStop}
use Rattle.ml_reader.specs.declared.fault.ReadStop.TheVariants.{Fault, OutOfMemory}
use Rattle.ml_reader.proofs.ScriptReading.ScriptRuns.{script_complete, script_sound, run_wrong, stops_run}

-- the fault of a clause
abbrev bad_item : ReadClause → ReadFault
bad_item w = fault BadScriptItem w.place

abbrev stopped_reading : ReadStop → Result S.Script ReadStop
stopped_reading stop = Err stop

same_script_fault : {f g : ReadFault} → Fault f ≡ Fault g → f ≡ g
same_script_fault e = cc

-- a text that is no text of clauses
module _ (bytes : List ℕ) (stop : ReadStop) where
  pub refused_fault : ((f : ReadFault) → stop ≡ Fault f → HasFirstFault bytes f) → (r : Result S.Script ReadStop) → r ≡ Err stop → (f : ReadFault)
      → r ≡ Err (Fault f) → HasScriptFault bytes f
  refused_fault h r e f k = no_text (h f (cc))

  pub refused_complete : ((cs : List ReadClause) → IsRead bytes cs → stop ≡ OutOfMemory) → (s : Script) → IsScript bytes s → stop ≡ OutOfMemory
  refused_complete h s i = h i.clauses i.read

  pub refused_first : ((cs : List ReadClause) → IsRead bytes cs → stop ≡ OutOfMemory)
      → ((f : ReadFault) → HasFirstFault bytes f → (stop ≡ Fault f) ⊎ (stop ≡ OutOfMemory))
      → (f : ReadFault) → HasScriptFault bytes f → (stopped_reading stop ≡ Err (Fault f)) ⊎ (stopped_reading stop ≡ Err OutOfMemory)
  refused_first h k f (no_text i) = elim (k f i) [ inl e ↦ inl (ap stopped_reading e) | inr e ↦ inr (ap stopped_reading e) ]
  refused_first h k f (wrong_item {cs = cs} r w) = inr (ap stopped_reading (h cs r))

-- a text of these clauses
module _ (bytes : List ℕ) (cs : List ReadClause) (read : IsRead bytes cs) where
  pub read_script : (r : Result S.Script ReadStop) → IsRun (run_clauses no_clauses cs) r → IfOk r (λ s. IsScript bytes (script_seen s))
  read_script (Ok s) e = record { clauses = cs; read = read; script = script_sound cs (script_seen s) e }
  read_script (Err stop) e = tt

  pub read_fault : (r : Result S.Script ReadStop) → IsRun (run_clauses no_clauses cs) r → (f : ReadFault) → r ≡ Err (Fault f) → HasScriptFault bytes f
  read_fault (Ok s) e f k = absurd (cc)
  read_fault (Err stop) (inl e) f k = absurd (cc)
  read_fault (Err stop) (inr h) f k =
      let e : Fault f ≡ Fault (bad_item h.0) = let s : stop ≡ Fault (bad_item h.0) = h.1 in cc in
      subst (HasScriptFault bytes) (sym (same_script_fault e)) (wrong_item read (run_wrong cs h.0 h.2))

  module _ (only : (ds : List ReadClause) → IsRead bytes ds → cs ≡ ds) where
    pub read_complete : (r : Result S.Script ReadStop) → IsRun (run_clauses no_clauses cs) r → (s : Script) → IsScript bytes s
        → MatchResult r (λ t. script_seen t ≡ s) (λ stop. stop ≡ OutOfMemory)
    read_complete r e s i = ended r e (script_complete (subst (λ ds. IsScriptOf ds s) (sym (only i.clauses i.read)) i.script))
      where
        ended : (r : Result S.Script ReadStop) → IsRun (run_clauses no_clauses cs) r → run_clauses no_clauses cs ≡ Ok s
            → MatchResult r (λ t. script_seen t ≡ s) (λ stop. stop ≡ OutOfMemory)
        ended (Ok t) e k = cc
        ended (Err stop) (inl e) k = e
        ended (Err stop) (inr h) k = let e = h.2 in absurd (cc)

    pub read_first : ((f : ReadFault) → HasFirstFault bytes f → ⊥) → (r : Result S.Script ReadStop) → IsRun (run_clauses no_clauses cs) r → (f : ReadFault)
        → HasScriptFault bytes f
        → (r ≡ Err (Fault f)) ⊎ (r ≡ Err OutOfMemory)
    read_first none r e f (no_text h) = absurd (none f h)
    read_first none r e f (wrong_item {cs = ds} {w = w} k i) = ended r e (stops_run cs w (subst (λ ds. IsFirstWrong ds w) (sym (only ds k)) i))
      where
        ended : (r : Result S.Script ReadStop) → IsRun (run_clauses no_clauses cs) r → run_clauses no_clauses cs ≡ Err w → (r ≡ Err (Fault (bad_item w)))
            ⊎ (r ≡ Err OutOfMemory)
        ended (Ok t) e k = absurd (cc)
        ended (Err stop) (inl e) k = inr (ap stopped_reading e)
        ended (Err stop) (inr h) k = let e = h.2 in let same : h.0 ≡ w = cc in inl (ap stopped_reading (h.1 ∙ ap (λ w. Fault (bad_item w)) same))
