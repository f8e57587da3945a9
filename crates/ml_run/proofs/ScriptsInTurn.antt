-- Scripts that are read one after another.
use Rattle.std.proofs.Common.{◌≡◌, ◌∷◌, ◌++◌, ◌+◌, ◌<◌, ◌≤◌, [], refl, sym, ap, ◌∙◌, subst, length, take, drop, suc, ℕ, List, Option, IfSome, Ok, Err}
use Rattle.std.proofs.Common.{arith}
use Rattle.std.proofs.lemmas.List.{length-take}
use Rattle.std.proofs.lemmas.Option.{IfSome_then}
use Rattle.ml_outside.specs.Held.{Files}
use Rattle.ml_search.specs.Program.{Script}
use Rattle.ml_run.specs.Outcomes.{ScriptComes, ScriptsCome}
use Rattle.ml_run.specs.inside.StepCauses.{Stops, ScriptsStop}
use Rattle.ml_run.specs.declared.status.Status.{Status}
use Rattle.ml_run.proofs.RefusalCauses.{both, stops_behind}

-- each name gives a script, from number n on
abbrev pub EachComes : Files → ℕ → List (List ℕ) → List Script → Type 0
EachComes files n [] [] = Unit {0}
EachComes files n [] (s ∷ ss) = ⊥
EachComes files n (name ∷ names) [] = ⊥
EachComes files n (name ∷ names) (s ∷ ss) = ScriptComes files n name (Ok s) × EachComes files (1 + n) names ss

-- one more
pub one_script_more : (files : Files) (n m : ℕ) (names : List (List ℕ)) (ss : List Script) (name : List ℕ) (s : Script) →
    EachComes files n names ss
    → m ≡ n + length names → ScriptComes files m name (Ok s) → EachComes files n (names ++ name ∷ []) (ss ++ s ∷ [])
one_script_more files n m [] [] name s h e k = let same : m ≡ n = omega (arith, e) in (subst (λ m. ScriptComes files m name (Ok s)) same k, tt)
one_script_more files n m [] (t ∷ ss) name s h e k = absurd h
one_script_more files n m (x ∷ names) [] name s h e k = absurd h
one_script_more files n m (x ∷ names) (t ∷ ss) name s h e k = (h.0, one_script_more files (1 + n) m names ss name s h.1 (omega (arith, e)) k)

-- all of them are the scripts
pub all_come : (files : Files) (n : ℕ) (names : List (List ℕ)) (ss : List Script) → EachComes files n names ss →
    ScriptsCome files n names (Ok ss)
all_come files n [] [] h = refl
all_come files n [] (s ∷ ss) h = absurd h
all_come files n (name ∷ names) [] h = absurd h
all_come files n (name ∷ names) (s ∷ ss) h = (Ok s, h.0, (Ok ss, all_come files (1 + n) names ss h.1, refl))

-- the refusal of the one behind them is that of all
pub next_refused : (files : Files) (n m : ℕ) (names : List (List ℕ)) (ss : List Script) (name : List ℕ) (rest : List (List ℕ)) (status : Status) →
    EachComes files n names ss
    → m ≡ n + length names → ScriptComes files m name (Err status) → ScriptsCome files n (names ++ name ∷ rest) (Err status)
next_refused files n m [] [] name rest status h e k =
    let same : m ≡ n = omega (arith, e) in (Err status, subst (λ m. ScriptComes files m name (Err status)) same k, refl)
next_refused files n m [] (t ∷ ss) name rest status h e k = absurd h
next_refused files n m (x ∷ names) [] name rest status h e k = absurd h
next_refused files n m (x ∷ names) (t ∷ ss) name rest status h e k =
    (Ok t, h.0, (Err status, next_refused files (1 + n) m names ss name rest status h.1 (omega (arith, e)) k, refl))

-- why the next script isn't had is why the scripts aren't had
pub script_stops : (held : Option Files) (names : List (List ℕ)) (i number : ℕ) (ss : List Script) (name : List ℕ) (before mid now : ℕ)
    (status : Status) → i < length names
    → names ≡ take i names ++ name ∷ drop (suc i) names → number ≡ i + 1 → before ≤ mid → IfSome held (λ files. EachComes files 1 (take i names) ss)
    → Stops held (λ files status. ScriptComes files number name (Err status)) (1 + number) mid now status → ScriptsStop held names before now status
script_stops held names i number ss name before mid now status there parts e le each h = record {
  got = i;
  there = there;
  reached = IfSome_then held each (λ files h. (ss, all_come files 1 (take i names) ss h));
  stops =
      stops_behind held (λ files. EachComes files 1 (take i names) ss) _ _ (2 + i) before mid now status le each leads
      (subst (λ word. Stops held (λ files status. ScriptComes files number name (Err status)) word mid now status) word h);
}
  where
    word : 1 + number ≡ 2 + i
    word = omega (arith, e)

    behind : number ≡ 1 + length (take i names)
    behind = omega (arith, e, length-take i names, there)

    leads : (files : Files) (status : Status) → EachComes files 1 (take i names) ss → ScriptComes files number name (Err status) →
        ScriptsCome files 1 names (Err status)
    leads files status each refused =
        subst (λ ns. ScriptsCome files 1 ns (Err status)) (sym parts)
        (next_refused files 1 number (take i names) ss name (drop (suc i) names) status each behind refused)

-- one name more gives one script more
pub each_more : (held : Option Files) (names : List (List ℕ)) (i : ℕ) (ss more : List Script) (s : Script) (name : List ℕ) → i < length names →
    take (i + 1) names ≡ take i names ++ name ∷ []
    → more ≡ ss ++ s ∷ [] → IfSome held (λ files. EachComes files 1 (take i names) ss) → IfSome held (λ files. ScriptComes files (i + 1) name (Ok s))
    → IfSome held (λ files. EachComes files 1 (take (i + 1) names) more)
each_more held names i ss more s name there e f each comes = both held each comes leads
  where
    behind : i + 1 ≡ 1 + length (take i names)
    behind = omega (arith, length-take i names, there)

    leads : (files : Files) → EachComes files 1 (take i names) ss → ScriptComes files (i + 1) name (Ok s) → EachComes files 1 (take (i + 1) names) more
    leads files each comes =
        subst (λ ns. EachComes files 1 ns more) (sym e)
        (subst (EachComes files 1 (take i names ++ name ∷ [])) (sym f) (one_script_more files 1 (i + 1) (take i names) ss name s each behind comes))
