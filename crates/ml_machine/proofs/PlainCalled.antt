-- A plain built-in is called: it fails, binds variables, or raises, or no inference is left.
use Rattle.std.specs.Prelude.{◌≡◌, ℕ, suc, List, [], ◌∷◌, ◌++◌, length, map, Option, Some, None, IsTrue}
use Rattle.std.proofs.Common.{refl, sym, ap, ◌∙◌, subst, append-nil}
use Rattle.ml_term.specs.Tree.{Tree}
use Rattle.ml_term.specs.Unify.{Map, apply}
use Rattle.ml_term.specs.Seen.{seen}
use Rattle.ml_term.specs.Valid.{is_valid}
use Rattle.ml_term.specs.declared.term.Term.{Term}
use Rattle.ml_search.specs.Program.{Program}
use Rattle.ml_search.specs.Bodies.{predication}
use Rattle.ml_search.specs.Builtins.{builtin, BuiltinResult, fails, binds, raises}
use Rattle.ml_search.specs.Procedures.{procedure_of}
use Rattle.ml_search.specs.Actions.{Continuation, run_body, Branch, with_goals, with_map, map_continuation, plain_builtin}
use Rattle.ml_search.specs.Standing.{IsPlainGoal}
use Rattle.ml_asking.specs.Asking.{Member, ChoicePoint, branch_choice, AskingSearch, Move, go_on, with_choice_points}
use Rattle.ml_asking.specs.TurnWords.{at_choices, at_goals, at_unified, with_left, uses_inference}
use Rattle.ml_asking.proofs.TurnRows.{predicate_exhausted, plain_fails, plain_binds, plain_raises}
use Rattle.ml_builtin.specs.Outcomes.{Agrees, DoesBuiltin}
use Rattle.ml_builtin.specs.Tables.{plain_name, plain_arity}
use Rattle.ml_builtin.specs.declared.outcome.Outcome.{Outcome}
use Rattle.ml_builtin.specs.declared.outcome.Outcome.TheVariants.{Failed, Succeeded, Raised}
use Rattle.ml_builtin.specs.declared.plain.Plain as B
use Rattle.ml_compile.specs.Spells.{called_body}
use Rattle.ml_heap.specs.Changes.{Changes, AreCells, KeepsMarks, cell_count, stands_for, variable_count}
use Rattle.ml_heap.specs.Carries.{Carries}
use Rattle.ml_program.specs.declared.link.Link.TheVariants.{Plain}
use Rattle.ml_program.specs.LinkedGoals.{control_of}
use Rattle.ml_program.specs.Links.{link_of}
use Rattle.ml_program.proofs.LinksTold.{tells_other, tells_plain, tells_built_in}
use Rattle.ml_stack.specs.declared.moment.Moment.{Moment}
use Rattle.ml_stack.specs.Memories.{Contents, Grows, IsMoment, memory_of, tree, CompiledProcedure}
use Rattle.ml_stack.specs.Stands.{View, HasTerms, Continues}
use Rattle.ml_stack.proofs.Carried.{continues_carried}
use Rattle.ml_machine.specs.declared.machine.Machine.{Machine}
use Rattle.ml_machine.specs.declared.position.Ended.TheVariants.{Exhausted}
use Rattle.ml_machine.specs.declared.position.Position.TheVariants.{Fails, Goes as GoesAt}
use Rattle.ml_machine.specs.declared.position.Then.TheVariants.{Over}
use Rattle.ml_machine.specs.Calls.{IsCall, IsSomeCall}
use Rattle.ml_machine.specs.Controls.{IsRaising}
use Rattle.ml_machine.specs.Positions.{IsBehind, at_failure, at_link}
use Rattle.ml_machine.specs.Steps.{Follows, IsThen, LeadsTo}
use Rattle.ml_machine.proofs.BallsThrown.{trees_carried}
use Rattle.ml_machine.proofs.CallsBuilt.{behind_grows, with_heap, heap_grows}
use Rattle.ml_machine.proofs.CellsUnified.{behind_moments}
use Rattle.ml_machine.proofs.CursorsAsked.{many_cells}
use Rattle.ml_machine.proofs.GoalsGiven.{given_turns}
use Rattle.ml_machine.proofs.InferencesUsed.{with_inferences, behind_used, ends_exhausted}
use Rattle.ml_machine.proofs.MomentsKept.{moments_kept}
use Rattle.ml_machine.proofs.MovesFollowed.{turn_follows}
use Rattle.ml_machine.proofs.StacksKept.{KeepsOthers, same_terms, search_changes}

-- a built-in's result where it failed, succeeded, or raised
agrees_failed : (h k : Changes) (r : BuiltinResult) → Agrees h k r Failed → r ≡ fails
agrees_failed h k fails a = refl
agrees_failed h k (binds m next) a = absurd a
agrees_failed h k (raises t) a = absurd a

-- a heap has changed as a built-in that binds says
record HasBound (h k : Changes) (r : BuiltinResult) : Type 0 where
  map : Map
  following : ℕ
  is : r ≡ binds map following
  carried : Carries h k map
  counted : variable_count k ≡ following

agrees_succeeded : (h k : Changes) (r : BuiltinResult) → Agrees h k r Succeeded → HasBound h k r
agrees_succeeded h k fails a = absurd a
agrees_succeeded h k (binds m next) a = record { map = m; following = next; is = refl; carried = a.0; counted = a.1 }
agrees_succeeded h k (raises t) a = absurd a

agrees_raised : (h k : Changes) (r : BuiltinResult) (u : Term) → Agrees h k r (Raised u) → (r ≡ raises (seen u)) × (k ≡ h)
agrees_raised h k fails u a = absurd a
agrees_raised h k (binds m next) u a = absurd a
agrees_raised h k (raises t) u a = (ap raises (sym a.1), a.0)

-- what it raises is a term of the language
pub raised_valid : (h k : Changes) (d : Option (ℕ → BuiltinResult)) (o : Outcome) (u : Term) → o ≡ Raised u → DoesBuiltin h k d o → IsTrue (is_valid (seen u))
raised_valid h k None o u is a = absurd a
raised_valid h k (Some d) o u is a = by (d (variable_count h)) (subst (λ x. Agrees h k (d (variable_count h)) x) is a)
  where
    by : (r : BuiltinResult) → Agrees h k r (Raised u) → IsTrue (is_valid (seen u))
    by fails a = absurd a
    by (binds m next) a = absurd a
    by (raises t) a = a.2

-- the cells that were read, and the outcome
pub run_done : (h k : Changes) (g : List ℕ) {cells items : List ℕ} {o c : Outcome} → cells ≡ items → o ≡ c
    → DoesBuiltin h k (builtin g (map (stands_for h) cells)) o → DoesBuiltin h k (builtin g (map (stands_for h) items)) c
run_done h k g {items = items} {o = o} same is a =
    subst (λ x. DoesBuiltin h k (builtin g (map (stands_for h) items)) x) is
    (subst (λ rs. DoesBuiltin h k (builtin g (map (stands_for h) rs)) o) same a)

-- what a built-in does, where it is known which it is
does_so : (h k : Changes) (o : Outcome) {f g : List ℕ} {ts us : List Tree} (d : ℕ → BuiltinResult) → builtin f ts ≡ Some d → g ≡ f → us ≡ ts
    → DoesBuiltin h k (builtin g us) o → Agrees h k (d (variable_count h)) o
does_so h k o {f = f} {us = us} d is name args a =
    subst (λ x. DoesBuiltin h k x o) (ap (λ x. builtin x us) name ∙ (ap (λ xs. builtin f xs) args ∙ is)) a

module _ (p : Program) (ps : List CompiledProcedure) (f : List ℕ) (n : ℕ) (plain : B.Plain) (next : ℕ) (is : link_of p ps f n ≡ Plain plain) where
  -- what the goal is
  record IsPlain (ts : List Tree) : Type 0 where
    body : called_body f ts ≡ predication f ts
    goal : IsPlainGoal p f ts
    name : plain_name plain ≡ f

  plain_call : (ts : List Tree) → length ts ≡ n → IsPlain ts
  plain_call ts many =
      let here : link_of p ps f (length ts) ≡ Plain plain = ap (link_of p ps f) many ∙ is in
      record { body = tells_other p ps f ts (ap control_of here); goal = tells_plain p ps f ts plain here; name = (tells_built_in p ps f ts plain here).0 }

  -- its cells are as many as it takes, and are cells of the heap
  pub plain_cells : (s : Machine) (cells : List ℕ) → cells ≡ s.cells.items → IsSomeCall p ps s f n next
      → (length cells ≡ plain_arity plain) × AreCells (cell_count s.memory.heap) cells
  plain_cells s cells same h =
      let c = h.2 in
      let here : link_of p ps f (length c.ts) ≡ Plain plain = ap (link_of p ps f) c.many ∙ is in
      let k = many_cells p ps s f n next cells same h in
      (k.0 ∙ (sym c.many ∙ sym (tells_built_in p ps f c.ts plain here).1), k.1)

  -- the search at the goal
  at_goal : {s : Machine} {written : List (List Tree)} {v : Move} (c : IsCall p ps s written f n next v)
      → Follows p v (at_goals (run_body (predication f c.ts) c.height c.behind_goal) c.b c.w.choice_points c.m)
  at_goal {v = v} c =
      subst (λ x. Follows p v (at_goals (run_body x c.height c.behind_goal) c.b c.w.choice_points c.m)) (plain_call c.ts c.many).body c.follows

  -- no inference is left
  pub plain_exhausted : (s : Machine) → s.left ≡ 0 → (written : List (List Tree)) (v : Move) → IsCall p ps s written f n next v →
      IsThen p ps s written v (Over Exhausted)
  plain_exhausted s none written v c =
      ends_exhausted p ps s none c.behind
      (given_turns p ps c.m c.b c.w.choice_points (run_body (predication f c.ts) c.height c.behind_goal) 0 _ (at_goal c) (c.behind.left ∙ none)
      (predicate_exhausted p f c.ts c.height c.behind_goal (ap uses_inference (plain_call c.ts c.many).goal.is)))

  -- An inference was used and the built-in was called: the heap is another.
  pub record HasRun (s t : Machine) (o : Outcome) : Type 0 where
    pub left : s.left ≡ suc t.left
    pub others : KeepsOthers (with_inferences t.left s) t
    pub choices : t.stacks.choices.items ≡ s.stacks.choices.items
    pub memory : t.memory ≡ with_heap s.memory t.memory.heap
    pub done : DoesBuiltin s.memory.heap t.memory.heap (builtin (plain_name plain) (map (stands_for s.memory.heap) s.cells.items)) o
    pub marks : KeepsMarks s.memory.heap t.memory.heap

  module _ (s t : Machine) (o : Outcome) (r : HasRun s t o) {written : List (List Tree)} {v : Move} (c : IsCall p ps s written f n next v) where
    abbrev goals : Continuation Member
    goals = run_body (predication f c.ts) c.height c.behind_goal

    abbrev branch : Branch Member
    branch = with_goals goals c.b

    abbrev search : AskingSearch
    search = with_choice_points (branch_choice branch ∷ c.w.choice_points) c.m

    agrees : Agrees s.memory.heap t.memory.heap ((plain_call c.ts c.many).goal.does (variable_count s.memory.heap)) o
    agrees =
        let k = plain_call c.ts c.many in
        does_so s.memory.heap t.memory.heap o k.goal.does k.goal.by_name k.name (sym c.arguments.are) r.done

    used_left : search.left ≡ suc t.left
    used_left = c.behind.left ∙ r.left

    behind : IsBehind ps (with_inferences t.left s) written (with_left t.left c.m) c.w
    behind = behind_used ps s t.left c.behind

  -- it failed
  pub plain_failed : (s t : Machine) → HasRun s t Failed → (written : List (List Tree)) (v : Move) → IsCall p ps s written f n next v
      → LeadsTo p ps t written v Fails
  plain_failed s t r written v c =
      let k = plain_call c.ts c.many in
      let failed : k.goal.does (variable_count s.memory.heap) ≡ fails =
      agrees_failed s.memory.heap t.memory.heap (k.goal.does (variable_count s.memory.heap)) (agrees s t Failed r c) in
      let moves : (m : Moment) → IsMoment s.memory m → IsMoment t.memory m × (memory_of t.memory m ≡ memory_of s.memory m) =
      λ m i. subst (λ (X : Contents). IsMoment X m × (memory_of X m ≡ memory_of s.memory m)) (sym r.memory)
      (moments_kept s.memory t.memory.heap s.memory.slots r.marks ([], sym (append-nil s.memory.slots)) m i) in
      record {
        move = at_choices c.w.choice_points (with_left t.left (search s t Failed r c));
        follows = turn_follows p v _ (search s t Failed r c) (at_goal c)
            (plain_fails p f c.ts k.goal.does c.height c.behind_goal t.left (variable_count s.memory.heap) k.goal.is failed (search s t Failed r c)
            (branch s t Failed r c) c.w.choice_points refl refl c.terms.next (used_left s t Failed r c));
        is_at = at_failure (search_changes ps c.w.choice_points (behind_moments ps r.others r.choices moves (behind s t Failed r c))) refl refl;
      }

  -- it succeeded
  pub plain_succeeded : (s t : Machine) → HasRun s t Succeeded → (written : List (List Tree)) (v : Move) → IsCall p ps s written f n next v
      → LeadsTo p ps t written v (GoesAt next)
  plain_succeeded s t r written v c =
      let k = plain_call c.ts c.many in
      let a = agrees_succeeded s.memory.heap t.memory.heap (k.goal.does (variable_count s.memory.heap)) (agrees s t Succeeded r c) in
      let grown : Grows s.memory t.memory a.map = subst (λ N. Grows s.memory N a.map) (sym r.memory) (heap_grows s.memory t.memory.heap a.map a.carried) in
      let b : Branch Member = with_map a.map (record { goals = c.behind_goal; terms = c.b.terms; next = a.following }) in
      let m : AskingSearch = with_left t.left (search s t Succeeded r c) in
      record {
        move = at_unified a.map c.behind_goal a.following (branch s t Succeeded r c) c.w.choice_points m;
        follows = turn_follows p v _ (search s t Succeeded r c) (at_goal c)
            (plain_binds p f c.ts k.goal.does c.height c.behind_goal t.left (variable_count s.memory.heap) a.map a.following k.goal.is a.is
            (search s t Succeeded r c) (branch s t Succeeded r c) c.w.choice_points refl refl c.terms.next (used_left s t Succeeded r c));
        is_at = at_link {b = b}
            (search_changes ps (branch_choice b ∷ c.w.choice_points) (behind_grows ps a.map r.others r.choices grown (behind s t Succeeded r c))) refl
            (record { terms = trees_carried grown c.terms.terms; next = sym a.counted }) (continues_carried s.memory t.memory a.map grown ps c.continues)
            refl;
      }

  -- it raised
  pub plain_raised : (s t : Machine) (u : Term) → HasRun s t (Raised u) → (written : List (List Tree)) (v : Move) → IsCall p ps s written f n next v
      → IsRaising p ps t written (seen u) next v
  plain_raised s t u r written v c =
      let k = plain_call c.ts c.many in
      let a = agrees_raised s.memory.heap t.memory.heap (k.goal.does (variable_count s.memory.heap)) u (agrees s t (Raised u) r c) in
      let same : t.memory ≡ s.memory = r.memory ∙ ap (with_heap s.memory) a.1 in
      let there : IsBehind ps t written (with_left t.left c.m) c.w =
      behind_moments ps r.others r.choices (λ m i. subst (λ (X : Contents). IsMoment X m × (memory_of X m ≡ memory_of s.memory m)) (sym same) (i, refl))
      (behind s t (Raised u) r c) in
      record {
        m = with_left t.left (search s t (Raised u) r c);
        w = c.w;
        b = branch s t (Raised u) r c;
        behind_goal = c.behind_goal;
        follows = turn_follows p v _ (search s t (Raised u) r c) (at_goal c)
            (plain_raises p f c.ts k.goal.does c.height c.behind_goal t.left (variable_count s.memory.heap) (seen u) k.goal.is a.0 (search s t (Raised u) r c)
            (branch s t (Raised u) r c) c.w.choice_points refl refl c.terms.next (used_left s t (Raised u) r c));
        behind = search_changes ps _ there;
        terms = subst (λ N. HasTerms N c.w (branch s t (Raised u) r c)) (sym same) (same_terms refl refl refl c.terms);
        continues = subst (λ N. Continues ps N c.w (length c.w.choice_points) next c.behind_goal) (sym same) c.continues;
      }
