-- The run over the clauses gives exactly the script that they are, and else the first of them with which no script goes on.
use Rattle.std.specs.Prelude.{◌≡◌, ℕ, ◌≤◌, ◌⊎◌, List, [], ◌∷◌, ◌++◌, Option, Some, None, Result, Ok, Err, length, map}
use Rattle.std.proofs.Common.{refl, sym, inl, inr, ap, subst, ◌∙◌, arith, append_assoc, append-nil}
use Rattle.std.proofs.lemmas.List.{nil_from_length}
use Rattle.ml_search.specs.Program.{Goal, Last, commit, abort, unless, Script}
use Rattle.ml_search.specs.Limits.{max_inferences, default_inferences}
use Rattle.ml_reader.specs.Lexemes.{ReadClause}
use Rattle.ml_reader.specs.Scripts as S
use Rattle.ml_reader.specs.Scripts.{IsEnd, AreGoals, no_goal, a_goal, IsScriptOf, no_budget, BeginsScript, IsFirstWrong}
use Rattle.ml_reader.specs.inside.script.ScriptItems.{Item, item, Draft, no_clauses, goals_so_far, complete_script, script, add_item, script_from, run_clauses}
use Rattle.ml_reader.proofs.ScriptReading.ItemViews.{View, budget_view_of, query_view_of, abort_view_of, condition_view_of, no_item_view, viewed, budget_item, query_item, abort_item, condition_item}

-- the next clause is added, or it is the first that can't be
went : (d : Draft) (w : ReadClause) (ws : List ReadClause) (e : Draft) → add_item d (item w) ≡ Some e → run_clauses d (w ∷ ws) ≡ run_clauses e ws
went d w ws e h = ap (λ o. elim o [ Some e ↦ run_clauses e ws | None ↦ Err w ]) h

run_stuck : (d : Draft) (w : ReadClause) (ws : List ReadClause) → add_item d (item w) ≡ None → run_clauses d (w ∷ ws) ≡ Err w
run_stuck d w ws h = ap (λ o. elim o [ Some e ↦ run_clauses e ws | None ↦ Err w ]) h

-- the run over a script
run_ended : {cs : List ReadClause} {l : Last} (n : ℕ) (gs : List Goal) → IsEnd cs l → run_clauses (goals_so_far n gs) cs ≡ Ok (script n gs l)
run_ended n gs S.no_end = refl
run_ended n gs (S.an_abort {w = w} h) = went (goals_so_far n gs) w [] (complete_script (script n gs abort)) (ap (add_item (goals_so_far n gs)) (abort_item h))
run_ended n gs (S.a_condition {w = w} {g = g} h) =
    went (goals_so_far n gs) w [] (complete_script (script n gs (unless g))) (ap (add_item (goals_so_far n gs)) (condition_item h))

asked : {cs : List ReadClause} {hs : List Goal} {l : Last} (n : ℕ) (gs : List Goal) → AreGoals cs hs l
    → run_clauses (goals_so_far n gs) cs ≡ Ok (script n (gs ++ hs) l)
asked {l = l} n gs (no_goal e) = run_ended n gs e ∙ ap (λ hs. Ok (script n hs l)) (sym (append-nil gs))
asked {l = l} n gs (a_goal {w = w} {cs = cs} {g = g} {gs = hs} q h) =
    went (goals_so_far n gs) w cs (goals_so_far n (gs ++ (g ∷ []))) (ap (add_item (goals_so_far n gs)) (query_item q)) ∙ asked n (gs ++ (g ∷ [])) h
    ∙ ap (λ hs. Ok (script n hs l)) (append_assoc gs (g ∷ []) hs)

first_ended : {cs : List ReadClause} {l : Last} → IsEnd cs l → run_clauses no_clauses cs ≡ Ok (script default_inferences [] l)
first_ended S.no_end = refl
first_ended (S.an_abort {w = w} h) = went no_clauses w [] (complete_script (script default_inferences [] abort)) (ap (add_item no_clauses) (abort_item h))
first_ended (S.a_condition {w = w} {g = g} h) =
    went no_clauses w [] (complete_script (script default_inferences [] (unless g))) (ap (add_item no_clauses) (condition_item h))

first_asked : {cs : List ReadClause} {gs : List Goal} {l : Last} → AreGoals cs gs l → run_clauses no_clauses cs ≡ Ok (script default_inferences gs l)
first_asked (no_goal e) = first_ended e
first_asked (a_goal {w = w} {cs = cs} {g = g} q h) =
    went no_clauses w cs (goals_so_far default_inferences (g ∷ [])) (ap (add_item no_clauses) (query_item q)) ∙ asked default_inferences (g ∷ []) h

pub script_complete : {cs : List ReadClause} {s : Script} → IsScriptOf cs s → run_clauses no_clauses cs ≡ Ok s
script_complete (no_budget h) = first_asked h
script_complete (S.a_budget {w = w} {n = n} {cs = cs} b h) = went no_clauses w cs (goals_so_far n []) (ap (add_item no_clauses) (budget_item b)) ∙ asked n [] h

-- the clauses are the rest of a script of which this stands
abbrev Completes : Draft → List ReadClause → Script → Type 0
Completes no_clauses cs s = IsScriptOf cs s
Completes (goals_so_far n gs) cs s = (hs : List Goal) × (l : Last) × AreGoals cs hs l × (s ≡ script n (gs ++ hs) l)
Completes (complete_script t) cs s = (cs ≡ []) × (s ≡ t)

-- the run from behind an item
abbrev run_behind : Option Draft → ReadClause → List ReadClause → Result Script ReadClause
run_behind o w ws = elim o [ Some e ↦ run_clauses e ws | None ↦ Err w ]

module _ (w : ReadClause) (ws : List ReadClause) (s : Script) (ih : (d : Draft) → run_clauses d ws ≡ Ok s → Completes d ws s) where
  -- the last clause, whose end a script of this budget and these goals has
  last : (n : ℕ) (gs : List Goal) (l : Last) → IsEnd (w ∷ []) l → run_clauses (complete_script (script n gs l)) ws ≡ Ok s → AreGoals (w ∷ ws) [] l
      × (s ≡ script n gs l)
  last n gs l e h =
      let i = ih (complete_script (script n gs l)) h in
      let P : List ReadClause → Type 0 = λ vs. AreGoals (w ∷ vs) [] l in
      (subst P (sym i.0) (no_goal e), i.1)

  first_turn : (i : Item) → View w i → run_behind (add_item no_clauses i) w ws ≡ Ok s → IsScriptOf (w ∷ ws) s
  first_turn i (budget_view_of {n = n} b) h =
      let c = ih (goals_so_far n []) h in
      subst (IsScriptOf (w ∷ ws)) (sym c.3) (S.a_budget b c.2)
  first_turn i (query_view_of {g = g} q) h =
      let c = ih (goals_so_far default_inferences (g ∷ [])) h in
      subst (IsScriptOf (w ∷ ws)) (sym c.3) (no_budget (a_goal q c.2))
  first_turn i (abort_view_of a) h =
      let c = last default_inferences [] abort (S.an_abort a) h in
      subst (IsScriptOf (w ∷ ws)) (sym c.1) (no_budget c.0)
  first_turn i (condition_view_of {g = g} a) h =
      let c = last default_inferences [] (unless g) (S.a_condition a) h in
      subst (IsScriptOf (w ∷ ws)) (sym c.1) (no_budget c.0)
  first_turn i no_item_view h = absurd (cc)

  next_turn : (n : ℕ) (gs : List Goal) (i : Item) → View w i → run_behind (add_item (goals_so_far n gs) i) w ws ≡ Ok s
      → Completes (goals_so_far n gs) (w ∷ ws) s
  next_turn n gs i (budget_view_of b) h = absurd (cc)
  next_turn n gs i (query_view_of {g = g} q) h =
      let c = ih (goals_so_far n (gs ++ (g ∷ []))) h in
      (g ∷ c.0, c.1, a_goal q c.2, c.3 ∙ ap (λ hs. script n hs c.1) (append_assoc gs (g ∷ []) c.0))
  next_turn n gs i (abort_view_of a) h =
      let c = last n gs abort (S.an_abort a) h in
      ([], abort, c.0, c.1 ∙ ap (λ hs. script n hs abort) (sym (append-nil gs)))
  next_turn n gs i (condition_view_of {g = g} a) h =
      let c = last n gs (unless g) (S.a_condition a) h in
      ([], unless g, c.0, c.1 ∙ ap (λ hs. script n hs (unless g)) (sym (append-nil gs)))
  next_turn n gs i no_item_view h = absurd (cc)

  turn : (d : Draft) → run_clauses d (w ∷ ws) ≡ Ok s → Completes d (w ∷ ws) s
  turn no_clauses h = first_turn (item w) (viewed w) h
  turn (goals_so_far n gs) h = next_turn n gs (item w) (viewed w) h
  turn (complete_script t) h = absurd (cc)

stands : (d : Draft) → Completes d [] (script_from d)
stands no_clauses = no_budget (no_goal S.no_end)
stands (goals_so_far n gs) = ([], commit, no_goal S.no_end, ap (λ hs. script n hs commit) (sym (append-nil gs)))
stands (complete_script t) = (refl, refl)

abbrev run_fine : Script → Result Script ReadClause
run_fine s = Ok s

same_script : {s t : Script} → run_fine s ≡ run_fine t → s ≡ t
same_script e = cc

completed : (cs : List ReadClause) (s : Script) (d : Draft) → run_clauses d cs ≡ Ok s → Completes d cs s
completed [] s d h = subst (Completes d []) (same_script h) (stands d)
completed (w ∷ ws) s d h = turn w ws s (completed ws s) d h

pub script_sound : (cs : List ReadClause) (s : Script) → run_clauses no_clauses cs ≡ Ok s → IsScriptOf cs s
script_sound cs s = completed cs s no_clauses

-- the first clause that can't be added, whatever stands behind it
record StopsRun (d : Draft) (cs : List ReadClause) (w : ReadClause) : Type 0 where
  before : List ReadClause
  behind : List ReadClause
  parts : cs ≡ before ++ (w ∷ behind)
  reached : Script
  good : run_clauses d before ≡ Ok reached
  blocked : (ds : List ReadClause) → run_clauses d (before ++ (w ∷ ds)) ≡ Err w

abbrev bad : ReadClause → Result Script ReadClause
bad w = Err w

same_clause : {v w : ReadClause} → bad v ≡ bad w → v ≡ w
same_clause e = cc

stops_here : (d : Draft) (v w : ReadClause) (vs : List ReadClause) (o : Option Draft) → add_item d (item v) ≡ o
    → ((e : Draft) → run_clauses e vs ≡ Err w → StopsRun e vs w) → run_behind o v vs ≡ Err w
    → StopsRun d (v ∷ vs) w
stops_here d v w vs (Some e) a ih h =
    let i = ih e h in
    record {
      before = v ∷ i.before;
      behind = i.behind;
      parts = ap (λ l. v ∷ l) i.parts;
      reached = i.reached;
      good = went d v i.before e a ∙ i.good;
      blocked = λ ds. went d v (i.before ++ (w ∷ ds)) e a ∙ i.blocked ds;
    }
stops_here d v w vs None a ih h =
    let P : ReadClause → Type 0 = λ x. (ds : List ReadClause) → run_clauses d (x ∷ ds) ≡ Err x in
    record {
      before = [];
      behind = vs;
      parts = ap (λ x. x ∷ vs) (same_clause h);
      reached = script_from d;
      good = refl;
      blocked = subst P (same_clause h) (λ ds. run_stuck d v ds a);
    }

run_stops : (cs : List ReadClause) (w : ReadClause) (d : Draft) → run_clauses d cs ≡ Err w → StopsRun d cs w
run_stops [] w d h = absurd (cc)
run_stops (v ∷ vs) w d h = stops_here d v w vs (add_item d (item v)) refl (run_stops vs w) h

pub run_wrong : (cs : List ReadClause) (w : ReadClause) → run_clauses no_clauses cs ≡ Err w → IsFirstWrong cs w
run_wrong cs w h =
    let i = run_stops cs w no_clauses h in
    record {
      before = i.before;
      behind = i.behind;
      parts = i.parts;
      begins = ([], i.reached, script_sound (i.before ++ []) i.reached (ap (run_clauses no_clauses) (append-nil i.before) ∙ i.good));
      stops = λ b. let e : run_fine b.1 ≡ bad w = sym (script_complete b.2)
          ∙ (ap (run_clauses no_clauses) (append_assoc i.before (w ∷ []) b.0) ∙ i.blocked b.0) in cc;
    }

-- a clause that can't be added behind those with which a script begins
module _ (w : ReadClause) (ws ds : List ReadClause) (s : Script) (v : ReadClause) where
  blocked_here : (d : Draft) (o : Option Draft) → add_item d (item w) ≡ o → run_behind o w [] ≡ Err v → run_clauses d (w ∷ ws) ≡ Err w
  blocked_here d (Some e) a h = absurd (cc)
  blocked_here d None a h = run_stuck d w ws a

  blocked_on : (x : ReadClause) (xs : List ReadClause) (d : Draft) (o : Option Draft) → add_item d (item x) ≡ o
      → ((e : Draft) → run_clauses e (xs ++ ds) ≡ Ok s → run_clauses e (xs ++ (w ∷ [])) ≡ Err v → run_clauses e (xs ++ (w ∷ ws)) ≡ Err w)
      → run_behind o x (xs ++ ds) ≡ Ok s → run_behind o x (xs ++ (w ∷ [])) ≡ Err v → run_clauses d (x ∷ (xs ++ (w ∷ ws))) ≡ Err w
  blocked_on x xs d (Some e) a ih k h = went d x (xs ++ (w ∷ ws)) e a ∙ ih e k h
  blocked_on x xs d None a ih k h = absurd (cc)

  blocked : (xs : List ReadClause) (d : Draft) → run_clauses d (xs ++ ds) ≡ Ok s → run_clauses d (xs ++ (w ∷ [])) ≡ Err v
      → run_clauses d (xs ++ (w ∷ ws)) ≡ Err w
  blocked [] d k h = blocked_here d (add_item d (item w)) refl h
  blocked (x ∷ xs) d k h = blocked_on x xs d (add_item d (item x)) refl (blocked xs) k h

run_stopped : (cs : List ReadClause) (w : ReadClause) (i : IsFirstWrong cs w) (r : Result Script ReadClause) → run_clauses no_clauses (i.before ++ (w ∷ [])) ≡ r
    → run_clauses no_clauses (i.before ++ (w ∷ i.behind)) ≡ Err w
run_stopped cs w i (Ok s) e =
    let P : List ReadClause → Type 0 = λ l. IsScriptOf l s in
    absurd (i.stops ([], s, subst P (sym (append-nil (i.before ++ (w ∷ [])))) (script_sound (i.before ++ (w ∷ [])) s e)))
run_stopped cs w i (Err v) e = blocked w i.behind i.begins.0 i.begins.1 v i.before no_clauses (script_complete i.begins.2) e

pub stops_run : (cs : List ReadClause) (w : ReadClause) → IsFirstWrong cs w → run_clauses no_clauses cs ≡ Err w
stops_run cs w i = ap (run_clauses no_clauses) i.parts ∙ run_stopped cs w i (run_clauses no_clauses (i.before ++ (w ∷ []))) refl

-- the laws of scripts
pub only_script : (cs : List ReadClause) (s t : Script) → IsScriptOf cs s → IsScriptOf cs t → s ≡ t
only_script cs s t h k = same_script (sym (script_complete h) ∙ script_complete k)

pub only_wrong : (cs : List ReadClause) (v w : ReadClause) → IsFirstWrong cs v → IsFirstWrong cs w → v ≡ w
only_wrong cs v w h k = same_clause (sym (stops_run cs v h) ∙ stops_run cs w k)

pub script_or_wrong : (cs : List ReadClause) (s : Script) (w : ReadClause) → IsScriptOf cs s → IsFirstWrong cs w → ⊥
script_or_wrong cs s w h k = let e : run_fine s ≡ bad w = sym (script_complete h) ∙ stops_run cs w k in cc

either : (cs : List ReadClause) (r : Result Script ReadClause) → run_clauses no_clauses cs ≡ r → ((s : Script) × IsScriptOf cs s)
    ⊎ ((w : ReadClause) × IsFirstWrong cs w)
either cs (Ok s) e = inl (s, script_sound cs s e)
either cs (Err w) e = inr (w, run_wrong cs w e)

pub script_unless_wrong : (cs : List ReadClause) → ((s : Script) × IsScriptOf cs s) ⊎ ((w : ReadClause) × IsFirstWrong cs w)
script_unless_wrong cs = either cs (run_clauses no_clauses cs) refl

-- what the run comes to behind clauses with which it doesn't stop
run_goes : (ys : List ReadClause) (s : Script) (xs : List ReadClause) (d : Draft) → run_clauses d (xs ++ ys) ≡ Ok s → (t : Script) × (run_clauses d xs ≡ Ok t)
run_goes ys s [] d h = (script_from d, refl)
run_goes ys s (x ∷ xs) d h = goes_on (run_goes ys s xs) (add_item d (item x)) refl h
  where
    goes_on : ((e : Draft) → run_clauses e (xs ++ ys) ≡ Ok s → (t : Script) × (run_clauses e xs ≡ Ok t)) → (o : Option Draft) → add_item d (item x) ≡ o
        → run_behind o x (xs ++ ys) ≡ Ok s
        → (t : Script) × (run_clauses d (x ∷ xs) ≡ Ok t)
    goes_on ih (Some e) a k = let i = ih e k in (i.0, went d x xs e a ∙ i.1)
    goes_on ih None a k = absurd (cc)

pub begins_with_scripts : (cs : List ReadClause) → BeginsScript cs → (s : Script) × IsScriptOf cs s
begins_with_scripts cs b = let i = run_goes b.0 b.1 cs no_clauses (script_complete b.2) in (i.0, script_sound cs i.0 i.1)

-- what holds of every script
many : {cs : List ReadClause} {gs : List Goal} {l : Last} → AreGoals cs gs l → length gs ≤ length cs
many (no_goal e) = omega arith
many (a_goal q h) = let i = many h in omega arith

pub few_goals : {cs : List ReadClause} {s : Script} → IsScriptOf cs s → length s.goals ≤ length cs
few_goals (no_budget h) = many h
few_goals (S.a_budget b h) = let i = many h in omega arith

pub some_budget : {cs : List ReadClause} {s : Script} → IsScriptOf cs s → 1 ≤ s.budget
some_budget (no_budget h) = omega arith
some_budget (S.a_budget b h) = b.some

pub few_inferences : {cs : List ReadClause} {s : Script} → IsScriptOf cs s → s.budget ≤ max_inferences
few_inferences (no_budget h) = omega arith
few_inferences (S.a_budget b h) = b.few

-- what stands behind all clauses is their script
pub whole_script : {A : Type 0} (f : A → ReadClause) (d : Draft) (xs : List A) (cs : List ReadClause) → length xs ≡ 0
    → run_clauses d (map f xs) ≡ run_clauses no_clauses cs → IsScriptOf cs (script_from d)
whole_script f d xs cs e h = script_sound cs (script_from d) (sym h ∙ ap (λ l. run_clauses d (map f l)) (nil_from_length xs e))
