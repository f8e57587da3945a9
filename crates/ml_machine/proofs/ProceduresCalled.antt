-- A procedure of the program is called: its clauses are to be tried, or no inference is left.
use Rattle.std.specs.Prelude.{◌≡◌, ℕ, zero, suc, ◌+◌, ◌-◌, ◌≤◌, ◌<◌, List, [], ◌∷◌, ◌++◌, length, drop, take, Some, slice_get, reverse}
use Rattle.std.proofs.Common.{refl, sym, ap, ◌∙◌, subst, arith, append-nil}
use Rattle.std.proofs.Math.Seq.{drop-append_seam, take-length}
use Rattle.std.proofs.lemmas.List.{length-map}
use Rattle.ml_term.specs.Tree.{Tree}
use Rattle.ml_search.specs.Program.{Program}
use Rattle.ml_search.specs.Bodies.{goal_term, predication}
use Rattle.ml_search.specs.Actions.{Continuation, run_body, Branch, with_goals, out_of_inferences}
use Rattle.ml_asking.specs.Asking.{Member, branch_choice, clause_choices, FindallFrame, AskingSearch, Move, go_on, with_choice_points, finish}
use Rattle.ml_asking.specs.TurnWords.{at_goals, with_left, uses_inference, outermost_found}
use Rattle.ml_asking.proofs.TurnRows.{predicate_exhausted, program_turns, exhausts}
use Rattle.ml_heap.specs.Changes.{Changes, variable_count}
use Rattle.ml_compile.specs.Spells.{called_body}
use Rattle.ml_program.specs.declared.link.Link.TheVariants.{Procedure}
use Rattle.ml_program.specs.LinkedGoals.{control_of, IsProgramGoal}
use Rattle.ml_program.specs.Links.{link_of}
use Rattle.ml_program.specs.LoadedProgram.{IsLoaded}
use Rattle.ml_program.proofs.LinksTold.{tells_other, tells_procedure}
use Rattle.ml_stack.specs.declared.level.Level.{Level}
use Rattle.ml_stack.specs.Memories.{Contents, Grows, AreTrees, tree, CompiledProcedure}
use Rattle.ml_stack.specs.Stands.{View, HasTerms, saved_from, Continues, Stacked}
use Rattle.ml_stack.specs.Answers.{Keeps, outermost, inside}
use Rattle.ml_stack.proofs.BodyValues.{same_trees}
use Rattle.ml_stack.proofs.Carried.{trees_follow}
use Rattle.ml_stack.proofs.CarriedPlainly.{heap_stays, continues_plainly}
use Rattle.ml_machine.specs.declared.machine.Machine.{Machine}
use Rattle.ml_machine.specs.declared.position.Ended.TheVariants.{Exhausted}
use Rattle.ml_machine.specs.declared.position.Then.TheVariants.{Over}
use Rattle.ml_machine.specs.Positions.{IsBehind}
use Rattle.ml_machine.specs.Steps.{Follows, IsThen}
use Rattle.ml_machine.specs.Calls.{IsCall, IsSomeCall}
use Rattle.ml_machine.specs.Clauses.{IsTrying, IsEntering}
use Rattle.ml_machine.proofs.CallsBuilt.{behind_grows, terms_grow}
use Rattle.ml_machine.proofs.ClausesLeft.{height_is, first_and_rest, nothing_behind}
use Rattle.ml_machine.proofs.MovesFollowed.{turn_follows}
use Rattle.ml_machine.proofs.StacksKept.{KeepsOthers, same_terms}

-- where the outermost search has found what was written
pub found_is_written : {h : Changes} {ls : List Level} {os : List FindallFrame} {found written : List (List Tree)} → Keeps h ls os found written →
    outermost_found os found ≡ written
found_is_written (outermost p) = p
found_is_written (inside k c r) = found_is_written r

-- a memory with more saved cells
abbrev pub with_saved : Contents → List ℕ → Contents
with_saved M cells = record { heap = M.heap; frames = M.frames; slots = M.slots; saved = M.saved ++ cells; codes = M.codes }

-- a memory with other saved cells
abbrev pub other_saved : Contents → List ℕ → Contents
other_saved M saved = record { heap = M.heap; frames = M.frames; slots = M.slots; saved = saved; codes = M.codes }

saved_grows : (M : Contents) (cells : List ℕ) → Grows M (with_saved M cells) []
saved_grows M cells = record {
  heap = heap_stays M.heap;
  frames = ([], sym (append-nil M.frames));
  slots = ([], sym (append-nil M.slots));
  saved = (cells, refl);
  codes = ([], sym (append-nil M.codes));
}

-- cells that were saved last are found where they were put
saved_last : (M : Contents) (cells : List ℕ) (place n : ℕ) → place ≡ length M.saved → n ≡ length cells → saved_from (with_saved M cells) place n ≡ cells
saved_last M cells place n p m =
    ap (λ i. take n (drop i (M.saved ++ cells))) p ∙ (ap (take n) (drop-append_seam M.saved cells) ∙ (ap (λ i. take i cells) m ∙ take-length cells))

-- a machine with another number of inferences left
abbrev pub Uses : Machine → Machine → Type 0
Uses s t = (t.memory ≡ s.memory) × (t.stacks ≡ s.stacks) × (t.answers ≡ s.answers) × (t.cells.items ≡ s.cells.items)

module _ (p : Program) (ps : List CompiledProcedure) (f : List ℕ) (n procedure next : ℕ) (is : link_of p ps f n ≡ Procedure procedure) where
  -- the call is of the procedure
  record IsOfProgram (ts : List Tree) : Type 0 where
    body : called_body f ts ≡ predication f ts
    goal : IsProgramGoal p ps f ts procedure

  of_program : IsLoaded p ps → (ts : List Tree) → length ts ≡ n → IsOfProgram ts
  of_program loaded ts many =
      let here : link_of p ps f (length ts) ≡ Procedure procedure = ap (link_of p ps f) many ∙ is in
      record { body = tells_other p ps f ts (ap control_of here); goal = tells_procedure p ps f ts procedure loaded here }

  -- there is such a procedure
  pub some_procedure : {s : Machine} → IsLoaded p ps → IsSomeCall p ps s f n next → (d : CompiledProcedure) × (slice_get ps procedure ≡ Some d)
  some_procedure loaded h = let k = of_program loaded h.2.ts h.2.many in (k.goal.procedure, k.goal.there)

  -- no inference is left
  pub exhausted : (s : Machine) → IsLoaded p ps → s.left ≡ 0 → (written : List (List Tree)) (v : Move) → IsCall p ps s written f n next v →
      IsThen p ps s written v (Over Exhausted)
  exhausted s loaded none written v c =
      let k = of_program loaded c.ts c.many in
      let goals : Continuation Member = run_body (predication f c.ts) c.height c.behind_goal in
      let b : Branch Member = with_goals goals c.b in
      let m : AskingSearch = with_choice_points (branch_choice b ∷ c.w.choice_points) c.m in
      let there : Follows p v (go_on m) =
      subst (λ x. Follows p v (at_goals (run_body x c.height c.behind_goal) c.b c.w.choice_points c.m)) k.body c.follows in
      let e = exhausts c.m.frames c.m.found 0 in
      let written_is : outermost_found c.m.frames c.m.found ≡ written =
      ap (λ os. outermost_found os c.m.found) c.behind.frames ∙ found_is_written c.behind.found in
      subst (λ x. Follows p v x)
      (e ∙ (ap (λ x. finish (record { found = x; end = out_of_inferences; left = 0 })) written_is
      ∙ ap (λ x. finish (record { found = written; end = out_of_inferences; left = x })) (sym none)))
      (turn_follows p v _ m there
      (predicate_exhausted p f c.ts c.height c.behind_goal (ap uses_inference k.goal.is) m b c.w.choice_points refl refl (c.behind.left ∙ none)))

  -- an inference is used, and the clauses are to be tried
  pub record IsCalled (t : Machine) (written : List (List Tree)) (v : Move) : Type 0 where
    pub d : CompiledProcedure
    pub ts : List Tree
    pub m : AskingSearch
    pub w : View
    pub b : Branch Member
    pub is_there : slice_get ps procedure ≡ Some d
    pub some : 0 < length d.clauses
    pub follows : Follows p v (go_on m)
    pub first : m.choice_points ≡ clause_choices (goal_term d.name ts) b d.clauses ∷ w.choice_points
    pub behind : IsBehind ps t written m w
    pub terms : HasTerms t.memory w b
    pub arguments : AreTrees t.memory t.cells.items ts
    pub many : length ts ≡ d.arity
    pub continues : Continues ps t.memory w (length w.choice_points) next b.goals

  pub called : (s t : Machine) → IsLoaded p ps → s.left ≡ suc t.left → t.memory ≡ s.memory → t.stacks.choices.items ≡ s.stacks.choices.items →
      t.stacks.terms.items ≡ s.stacks.terms.items → t.stacks.levels.items ≡ s.stacks.levels.items → t.answers ≡ s.answers → t.cells.items ≡ s.cells.items
      → (written : List (List Tree)) (v : Move) → IsCall p ps s written f n next v → IsCalled t written v
  called s t loaded left memory choices terms levels answers cells written v c =
      let k = of_program loaded c.ts c.many in
      let g = k.goal in
      let goals : Continuation Member = run_body (predication f c.ts) c.height c.behind_goal in
      let b : Branch Member = with_goals goals c.b in
      let m : AskingSearch = with_choice_points (branch_choice b ∷ c.w.choice_points) c.m in
      let there : Follows p v (go_on m) =
      subst (λ x. Follows p v (at_goals (run_body x c.height c.behind_goal) c.b c.w.choice_points c.m)) k.body c.follows in
      let b1 : Branch Member = with_goals c.behind_goal c.b in
      let m1 : AskingSearch = with_choice_points (clause_choices (goal_term f c.ts) b1 g.procedure.clauses ∷ c.w.choice_points) (with_left t.left m) in
      record {
        d = g.procedure;
        ts = c.ts;
        m = m1;
        w = c.w;
        b = b1;
        is_there = g.there;
        some = subst (λ cs. 1 ≤ length cs) refl (loaded.compiled procedure g.procedure g.there).some;
        follows = turn_follows p v _ m there
            (program_turns p f c.ts g.procedure.clauses c.height c.behind_goal t.left g.is m b c.w.choice_points refl refl (c.behind.left ∙ left));
        first = ap (λ x. clause_choices (goal_term x c.ts) b1 g.procedure.clauses ∷ c.w.choice_points) (sym g.name);
        behind = record {
          stacks = record {
            choices = c.behind.stacks.choices ∙ ap reverse (sym choices);
            terms = c.behind.stacks.terms ∙ sym terms;
            levels = c.behind.stacks.levels ∙ ap reverse (sym levels);
            stacked = subst (λ N. Stacked ps N c.w) (sym memory) c.behind.stacks.stacked;
          };
          frames = c.behind.frames;
          left = refl;
          found = subst (λ (x : Changes). Keeps x c.w.levels c.w.findalls c.m.found written) (sym answers) c.behind.found;
          asks = c.behind.asks;
        };
        terms = subst (λ N. HasTerms N c.w b1) (sym memory) (same_terms refl refl refl c.terms);
        arguments = subst (λ N. AreTrees N t.cells.items c.ts) (sym memory) (subst (λ rs. AreTrees s.memory rs c.ts) (sym cells) c.arguments);
        many = sym g.arity;
        continues = subst (λ N. Continues ps N c.w (length c.w.choice_points) next c.behind_goal) (sym memory) c.continues;
      }

  -- a machine that has used an inference
  abbrev pub used : Machine → Machine
  used s = record s { left = s.left - 1 }

  pub called_using : {s : Machine} → IsLoaded p ps → (s.left ≡ 0 → ⊥) → (written : List (List Tree)) (v : Move) → IsCall p ps s written f n next v →
      IsCalled (used s) written v
  called_using {s = s} loaded some written v c = called s (used s) loaded (one_less s.left some) refl refl refl refl refl refl written v c
    where
      one_less : (k : ℕ) → (k ≡ 0 → ⊥) → k ≡ suc (k - 1)
      one_less zero h = absurd (h refl)
      one_less (suc k) h = omega arith

  -- its only clause is to be entered
  pub only_clause : (t : Machine) (height count : ℕ) → height ≡ length t.stacks.choices.items
      → ((d : CompiledProcedure) → slice_get ps procedure ≡ Some d → count ≡ length d.clauses) → count ≡ 1
      → {written : List (List Tree)} {v : Move} → IsCalled t written v → IsEntering p ps t written procedure 0 height next v
  only_clause t height count is_height counts one {written = written} e =
      let k = first_and_rest e.d.clauses 0 e.some in
      let none : drop (0 + 1) e.d.clauses ≡ [] = nothing_behind e.d.clauses (0 + 1) (omega (arith, counts e.d e.is_there, one)) in
      let rest : drop 0 e.d.clauses ≡ k.0 ∷ [] = k.1 ∙ ap (λ xs. k.0 ∷ xs) none in
      let high : height ≡ length e.w.choice_points = is_height ∙ height_is p ps e.behind in
      record {
        d = e.d;
        c = k.0;
        cs = [];
        ts = e.ts;
        m = e.m;
        w = e.w;
        b = e.b;
        r = e.w.choice_points;
        is = e.is_there;
        left = rest;
        follows = e.follows;
        first = e.first ∙ ap (λ xs. clause_choices (goal_term e.d.name e.ts) e.b xs ∷ e.w.choice_points) rest;
        others = refl;
        high = high;
        behind = e.behind;
        terms = e.terms;
        arguments = e.arguments;
        many = e.many;
        continues = subst (λ x. Continues ps t.memory e.w x next e.b.goals) (sym high) e.continues;
      }

  -- its clauses are to be tried, with the arguments saved
  pub first_clause : (t u : Machine) (saved : ℕ) → KeepsOthers t u → u.stacks.choices.items ≡ t.stacks.choices.items →
      u.memory ≡ other_saved t.memory u.memory.saved →
      (cells : List ℕ) → cells ≡ t.cells.items → u.memory.saved ≡ t.memory.saved ++ cells → u.cells.items ≡ t.cells.items → saved ≡ length t.memory.saved
      → {written : List (List Tree)} {v : Move} → IsCalled t written v → IsTrying p ps u written procedure 0 saved next v
  first_clause t u saved keeps choices other args_saved is_args more cells is_saved e =
      let memory : u.memory ≡ with_saved t.memory t.cells.items =
      other ∙ ap (other_saved t.memory) (more ∙ ap (λ xs. t.memory.saved ++ xs) is_args) in
      let grown : Grows t.memory u.memory [] = subst (λ N. Grows t.memory N []) (sym memory) (saved_grows t.memory t.cells.items) in
      let many : e.d.arity ≡ length t.cells.items =
      sym e.many ∙ (ap length e.arguments.are ∙ length-map t.cells.items (tree t.memory)) in
      let args : AreTrees u.memory t.cells.items e.ts =
      subst (λ ts. AreTrees u.memory t.cells.items ts) (same_trees e.ts) (trees_follow t.memory u.memory [] grown t.cells.items e.ts e.arguments) in
      let from : saved_from u.memory saved e.d.arity ≡ t.cells.items =
      ap (λ (N : Contents). saved_from N saved e.d.arity) memory ∙ saved_last t.memory t.cells.items saved e.d.arity is_saved many in
      record {
        d = e.d;
        ts = e.ts;
        m = e.m;
        w = e.w;
        b = e.b;
        is = e.is_there;
        more = e.some;
        follows = e.follows;
        first = e.first;
        behind = behind_grows ps [] keeps choices grown e.behind;
        terms = terms_grow grown (ap (λ (N : Contents). variable_count N.heap) memory) e.terms;
        arguments = subst (λ rs. AreTrees u.memory rs e.ts) (sym cells) args;
        kept = subst (λ rs. AreTrees u.memory rs e.ts) (sym from) args;
        many = e.many;
        continues = continues_plainly t.memory u.memory grown ps e.continues;
      }
