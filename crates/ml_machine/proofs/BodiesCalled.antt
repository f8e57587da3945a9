-- A term that is called runs as a body: its code is the last one, and its environment the last slots.
use Rattle.std.specs.Prelude.{◌≡◌, ℕ, ◌≤◌, Bool, true, false, ◌||◌, List, [], ◌∷◌, ◌++◌, length, Some, slice_get}
use Rattle.std.specs.List.{list_any}
use Rattle.std.proofs.Common.{refl, sym, ap, ◌∙◌, subst, append-nil}
use Rattle.ml_term.specs.Tree.{Tree, substitute, occurs}
use Rattle.ml_search.specs.Bodies.{Body, true_goal, fail_goal, cut, conjunction, disjunction, if_then, if_then_else, call, once, not_provable, findall, catch}
use Rattle.ml_search.specs.Bodies.{throw, predication, body_from, in_body}
use Rattle.ml_search.specs.Actions.{Continuation, run_body}
use Rattle.ml_asking.specs.Asking.{Member}
use Rattle.ml_compile.specs.Spells.{IsBlock, block}
use Rattle.ml_compile.specs.declared.instr.Instr.{Instr}
use Rattle.ml_called.specs.Called.{IsCalled, value_at}
use Rattle.ml_called.specs.Goals.{terms_in}
use Rattle.ml_called.proofs.SlotsOfVariables.{has_slot}
use Rattle.ml_stack.specs.declared.frame.At.{At}
use Rattle.ml_stack.specs.declared.frame.CodeName.TheVariants.{Called}
use Rattle.ml_stack.specs.Memories.{Contents, Grows, value_in, tree, CompiledProcedure, code_of}
use Rattle.ml_stack.specs.Variables.{HasSlots, occurs_in}
use Rattle.ml_stack.specs.Stands.{View, Continues, Runs, at_end, at_body}
use Rattle.ml_stack.proofs.CarriedPlainly.{heap_stays, continues_plainly}
use Rattle.ml_stack.proofs.ListEnds.{found_at_seam}
use Rattle.ml_heap.specs.Carries.{Carries}

or_none : (a : Bool) → a ≡ (a || false)
or_none true = refl
or_none false = refl

or_parts : (a b c : Bool) → (a || (b || c)) ≡ ((a || b) || c)
or_parts true b c = refl
or_parts false b c = refl

any_of_both : (f : Tree → Bool) (xs ys : List Tree) → list_any f (xs ++ ys) ≡ (list_any f xs || list_any f ys)
any_of_both f [] ys = refl
any_of_both f (x ∷ xs) ys = ap (λ b. f x || b) (any_of_both f xs ys) ∙ or_parts (f x) (list_any f xs) (list_any f ys)

in_both : (f : Tree → Bool) (a b : Bool) (xs ys : List Tree) → a ≡ list_any f xs → b ≡ list_any f ys → (a || b) ≡ list_any f (xs ++ ys)
in_both f a b xs ys e k = ap (λ x. x || b) e ∙ ap (λ x. list_any f xs || x) k ∙ sym (any_of_both f xs ys)

-- a variable occurs in a body where it occurs in one of its terms
pub occurs_in_terms : (n : ℕ) (b : Body) → occurs_in n b ≡ list_any (occurs n) (terms_in b)
occurs_in_terms n true_goal = refl
occurs_in_terms n fail_goal = refl
occurs_in_terms n cut = refl
occurs_in_terms n (conjunction a b) = in_both (occurs n) _ _ (terms_in a) (terms_in b) (occurs_in_terms n a) (occurs_in_terms n b)
occurs_in_terms n (disjunction a b) = in_both (occurs n) _ _ (terms_in a) (terms_in b) (occurs_in_terms n a) (occurs_in_terms n b)
occurs_in_terms n (if_then c t) = in_both (occurs n) _ _ (terms_in c) (terms_in t) (occurs_in_terms n c) (occurs_in_terms n t)
occurs_in_terms n (if_then_else c t e) =
    or_parts (occurs_in n c) (occurs_in n t) (occurs_in n e)
    ∙ in_both (occurs n) _ _ (terms_in c ++ terms_in t) (terms_in e)
    (in_both (occurs n) _ _ (terms_in c) (terms_in t) (occurs_in_terms n c) (occurs_in_terms n t)) (occurs_in_terms n e)
occurs_in_terms n (call t) = or_none (occurs n t)
occurs_in_terms n (once t) = or_none (occurs n t)
occurs_in_terms n (not_provable t) = or_none (occurs n t)
occurs_in_terms n (findall t u v) = ap (λ x. occurs n t || (occurs n u || x)) (or_none (occurs n v))
occurs_in_terms n (catch t u v) = ap (λ x. occurs n t || (occurs n u || x)) (or_none (occurs n v))
occurs_in_terms n (throw t) = or_none (occurs n t)
occurs_in_terms n (predication f ts) = refl

module _ (M N : Contents) (goal : ℕ) (code : List Instr) (heap : N.heap ≡ M.heap) (frames : N.frames ≡ M.frames) (saved : N.saved ≡ M.saved)
    (codes : N.codes ≡ M.codes ++ code ∷ []) (called : IsCalled M.heap goal M.slots N.slots code) where
  pub called_grows : Grows M N []
  called_grows = record {
    heap = subst (λ h. Carries M.heap h []) (sym heap) (heap_stays M.heap);
    frames = ([], frames ∙ sym (append-nil M.frames));
    slots = (called.cells, called.slots);
    saved = ([], saved ∙ sym (append-nil M.saved));
    codes = (code ∷ [], codes);
  }

  called_slots : HasSlots N (length M.slots) called.body
  called_slots n o =
      let s = has_slot M.heap goal M.slots N.slots code called n (sym (occurs_in_terms n called.body) ∙ o) in
      let here : HasSlots (record { heap = M.heap; frames = N.frames; slots = N.slots; saved = N.saved; codes = N.codes }) (length M.slots) called.body =
      λ k q. (let x = has_slot M.heap goal M.slots N.slots code called k (sym (occurs_in_terms k called.body) ∙ q) in
      record { cell = x.cell; slot = x.slot; inside = x.inside }) in
      subst (λ h. HasSlots (record { heap = h; frames = N.frames; slots = N.slots; saved = N.saved; codes = N.codes }) (length M.slots) called.body)
      (sym heap) here n o

  -- where a called body begins
  abbrev pub called_place : ℕ → ℕ → At
  called_place height next = record { code = Called (length M.codes); place = 0; env = length M.slots; height = height; next = next }

  called_block : {b b' : Body} {w : View} {gs : Continuation Member} (ps : List CompiledProcedure) (n height next : ℕ) → IsBlock code 0 b
      → HasSlots N (length M.slots) b → b' ≡ in_body (substitute (value_in N (length M.slots))) b → height ≤ n → Continues ps N w height next gs
      → Runs ps N w n (called_place height next) (run_body b' height gs)
  called_block ps n height next (block s e) slots is l c =
      let there : code_of ps N (Called (length M.codes)) ≡ Some code = ap (λ xs. slice_get xs (length M.codes)) codes ∙ found_at_seam M.codes code in
      at_body there l s slots (at_end there e c) is

  pub called_runs : (ps : List CompiledProcedure) (w : View) (n height next : ℕ) (gs : Continuation Member) → height ≤ n → Continues ps M w height next gs
      → Runs ps N w n (called_place height next) (run_body (body_from (tree M goal)) height gs)
  called_runs ps w n height next gs l c =
      called_block ps n height next called.block called_slots
      (called.same ∙ ap (λ h. in_body (substitute (value_at h N.slots (length M.slots))) called.body) (sym heap)) l (continues_plainly M N called_grows ps c)

  -- the same, by the numbers that were found, and for another name of the memory before
  pub grows_from : (O : Contents) → M ≡ O → Grows O N []
  grows_from O e = subst (λ X. Grows X N []) e called_grows

  pub runs_from : (O : Contents) (ps : List CompiledProcedure) (place env height next : ℕ) → M ≡ O → place ≡ length M.codes → env ≡ length M.slots
      → (w : View) (n : ℕ) (gs : Continuation Member) → height ≤ n → Continues ps O w height next gs
      → Runs ps N w n (record { code = Called place; place = 0; env = env; height = height; next = next }) (run_body (body_from (tree O goal)) height gs)
  runs_from O ps place env height next same e f w n gs l c =
      let at : At = record { code = Called place; place = 0; env = env; height = height; next = next } in
      let is : at ≡ called_place height next =
      ap (λ k. record { code = Called k; place = 0; env = env; height = height; next = next }) e
      ∙ ap (λ k. record { code = Called (length M.codes); place = 0; env = k; height = height; next = next }) f in
      subst (λ (X : Contents). Runs ps N w n at (run_body (body_from (tree X goal)) height gs)) same
      (subst (λ x. Runs ps N w n x (run_body (body_from (tree M goal)) height gs)) (sym is)
      (called_runs ps w n height next gs l (subst (λ X. Continues ps X w height next gs) (sym same) c)))
