-- A built-in that changes lists is called: an inference is used, and its checks are made.
use Rattle.std.specs.Prelude.{◌≡◌, ℕ, suc, ◌<◌, true, List, [], ◌∷◌, length, map, slice_index_or, Option, Some, None}
use Rattle.std.proofs.Common.{refl, sym, ap, ◌∙◌, subst, arith}
use Rattle.ml_term.specs.Tree.{Tree, rename}
use Rattle.ml_search.specs.Program.{Program, clause_term}
use Rattle.ml_search.specs.Bodies.{predication}
use Rattle.ml_search.specs.Changes.{list_for}
use Rattle.ml_search.specs.Procedures.{procedure_of, procedure_unless, tuple_fault, assert_fault, retract_fault, given_head, given_body}
use Rattle.ml_search.specs.Actions.{Procedure, run_body, insert_tuple, delete_tuple, assert_first, assert_last, retract_clause}
use Rattle.ml_asking.specs.Asking.{Move}
use Rattle.ml_asking.specs.TurnWords.{at_goals, uses_inference}
use Rattle.ml_asking.proofs.TurnRows.{predicate_exhausted}
use Rattle.ml_compile.specs.Spells.{called_body}
use Rattle.ml_heap.specs.Changes.{cell_count, stands_for, variable_count, Grows as HeapGrows}
use Rattle.ml_heap.proofs.CarriedTrees.{carries_grown}
use Rattle.ml_program.specs.declared.link.Link.TheVariants.{Store}
use Rattle.ml_program.specs.declared.link.StoreCall.{StoreCall}
use Rattle.ml_program.specs.declared.link.StoreCall.TheVariants.{InsertTuple, DeleteTuple, Asserta, Assertz, Retract}
use Rattle.ml_program.specs.LinkedGoals.{control_of, store_name}
use Rattle.ml_program.specs.Links.{link_of}
use Rattle.ml_program.proofs.LinksTold.{tells_other, tells_store, tells_name}
use Rattle.ml_stack.specs.Memories.{Contents, CompiledProcedure, AreTrees, Grows, tree}
use Rattle.ml_stack.proofs.CarriedPlainly.{continues_plainly}
use Rattle.ml_store_goals.specs.Goals.{IsStoreGoal}
use Rattle.ml_store_goals.specs.declared.goal.StoreGoal.{StoreGoal}
use Rattle.ml_machine.specs.declared.machine.Machine.{Machine}
use Rattle.ml_machine.specs.declared.position.Ended.TheVariants.{Exhausted}
use Rattle.ml_machine.specs.declared.position.Then.TheVariants.{Over}
use Rattle.ml_machine.specs.Calls.{IsCall, IsSomeCall}
use Rattle.ml_machine.specs.StoreCalls.{IsStoring}
use Rattle.ml_machine.specs.Steps.{Follows, IsThen}
use Rattle.ml_machine.proofs.CallsBuilt.{behind_grows, terms_grow, with_heap, heap_grows}
use Rattle.ml_machine.proofs.GoalsGiven.{given_turns}
use Rattle.ml_machine.proofs.InferencesUsed.{with_inferences, behind_used, ends_exhausted}
use Rattle.ml_machine.proofs.StacksKept.{KeepsOthers}

-- the cell of the one argument
record HasCell (M : Contents) (cells : List ℕ) (x : Tree) : Type 0 where
  some : 0 < length cells
  inside : slice_index_or cells 0 0 < cell_count M.heap
  is : x ≡ tree M (slice_index_or cells 0 0)

one_cell : (M : Contents) (cells : List ℕ) (ts : List Tree) (x : Tree) → ts ≡ x ∷ [] → AreTrees M cells ts → HasCell M cells x
one_cell M [] ts x e a = absurd (none (sym e ∙ a.are))
  where
    none : x ∷ [] ≡ [] → ⊥
    none e = cc
one_cell M (r ∷ rs) ts x e a = record { some = omega arith; inside = a.inside.0; is = same (sym e ∙ a.are) }
  where
    same : x ∷ [] ≡ tree M r ∷ map (tree M) rs → x ≡ tree M r
    same e = cc

module _ (p : Program) where
  -- each of these built-ins uses an inference, whatever its checks find
  refused_uses : (o : Option Tree) (q : Procedure) → uses_inference q ≡ true → uses_inference (procedure_unless p o q) ≡ true
  refused_uses None q e = e
  refused_uses (Some t) q e = refl

  store_uses : (k : StoreCall) (t : Tree) → uses_inference (procedure_of p (store_name k) (t ∷ [])) ≡ true
  store_uses InsertTuple t = refused_uses (tuple_fault p t) (insert_tuple t) refl
  store_uses DeleteTuple t = refused_uses (tuple_fault p t) (delete_tuple t) refl
  store_uses Asserta t =
      refused_uses (assert_fault p (given_head t) (given_body t)) (assert_first (rename 0 (clause_term (given_head t) (given_body t)))) refl
  store_uses Assertz t =
      refused_uses (assert_fault p (given_head t) (given_body t)) (assert_last (rename 0 (clause_term (given_head t) (given_body t)))) refl
  store_uses Retract t =
      refused_uses (retract_fault p (given_head t) (given_body t)) (retract_clause (list_for p.decls (given_head t)) (given_head t) (given_body t)) refl

module _ (p : Program) (ps : List CompiledProcedure) (f : List ℕ) (n : ℕ) (k : StoreCall) (next : ℕ) (is : link_of p ps f n ≡ Store k) where
  -- what the goal is
  record IsStore (ts : List Tree) : Type 0 where
    argument : Tree
    arguments : ts ≡ argument ∷ []
    body : called_body f ts ≡ predication f ts
    goal : procedure_of p f ts ≡ procedure_of p (store_name k) (argument ∷ [])

  store : (ts : List Tree) → length ts ≡ n → IsStore ts
  store ts many =
      let here : link_of p ps f (length ts) ≡ Store k = ap (link_of p ps f) many ∙ is in
      let told = tells_store p ps f ts k here in
      record {
        argument = told.argument;
        arguments = told.arguments;
        body = tells_other p ps f ts (ap control_of here);
        goal = ap (λ g. procedure_of p g ts) (tells_name p ps f ts k here) ∙ ap (procedure_of p (store_name k)) told.arguments;
      }

  -- its argument stands in a cell
  pub store_argument : (s : Machine) → IsSomeCall p ps s f n next →
      (0 < length s.cells.items) × (slice_index_or s.cells.items 0 0 < cell_count s.memory.heap)
  store_argument s h =
      let c = h.2 in
      let e = store c.ts c.many in
      let cell = one_cell s.memory s.cells.items c.ts e.argument e.arguments c.arguments in
      (cell.some, cell.inside)

  -- no inference is left
  pub store_exhausted : (s : Machine) → s.left ≡ 0 → (written : List (List Tree)) (v : Move) → IsCall p ps s written f n next v →
      IsThen p ps s written v (Over Exhausted)
  store_exhausted s none written v c =
      let e = store c.ts c.many in
      let there : Follows p v (at_goals (run_body (predication f c.ts) c.height c.behind_goal) c.b c.w.choice_points c.m) =
      subst (λ x. Follows p v (at_goals (run_body x c.height c.behind_goal) c.b c.w.choice_points c.m)) e.body c.follows in
      ends_exhausted p ps s none c.behind
      (given_turns p ps c.m c.b c.w.choice_points (run_body (predication f c.ts) c.height c.behind_goal) 0 _ there (c.behind.left ∙ none)
      (predicate_exhausted p f c.ts c.height c.behind_goal (ap uses_inference e.goal ∙ store_uses p k e.argument)))

  -- an inference is used, and the checks are made
  pub store_checked : (s t : Machine) (goal : StoreGoal) (cell : ℕ) → s.left ≡ suc t.left → KeepsOthers (with_inferences t.left s) t
      → t.stacks.choices.items ≡ s.stacks.choices.items → t.memory ≡ with_heap s.memory t.memory.heap → HeapGrows s.memory.heap t.memory.heap
      → variable_count t.memory.heap ≡ variable_count s.memory.heap → cell ≡ slice_index_or s.cells.items 0 0
      → IsStoreGoal t.memory.heap (procedure_of p (store_name k) (stands_for s.memory.heap cell ∷ [])) goal
      → (written : List (List Tree)) (v : Move) → IsCall p ps s written f n next v → IsStoring p ps t written goal next v
  store_checked s t goal cell left keeps choices memory heap counted is_cell made written v c =
      let e = store c.ts c.many in
      let at = one_cell s.memory s.cells.items c.ts e.argument e.arguments c.arguments in
      let same : stands_for s.memory.heap cell ≡ e.argument = ap (tree s.memory) is_cell ∙ sym at.is in
      let grown : Grows s.memory t.memory [] = subst (λ N. Grows s.memory N []) (sym memory)
      (heap_grows s.memory t.memory.heap [] (carries_grown s.memory.heap t.memory.heap heap)) in
      record {
        f = f;
        ts = c.ts;
        m = c.m;
        w = c.w;
        b = c.b;
        height = c.height;
        behind_goal = c.behind_goal;
        is = subst (λ (q : Procedure). IsStoreGoal t.memory.heap q goal) (ap (λ x. procedure_of p (store_name k) (x ∷ [])) same ∙ sym e.goal) made;
        follows = subst (λ x. Follows p v (at_goals (run_body x c.height c.behind_goal) c.b c.w.choice_points c.m)) e.body c.follows;
        used = c.behind.left ∙ left;
        behind = behind_grows ps [] keeps choices grown (behind_used ps s t.left c.behind);
        terms = terms_grow grown counted c.terms;
        continues = continues_plainly s.memory t.memory grown ps c.continues;
      }
