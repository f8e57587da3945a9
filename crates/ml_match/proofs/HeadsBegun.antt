-- A head that is matched by its instructions: how that begins and what it ends in.
use Rattle.std.proofs.Common.{◌≡◌, ℕ, zero, suc, ◌+◌, ◌<◌, ◌≤◌, ◌⊎◌, inl, inr, List, [], ◌∷◌, ◌++◌, map, reverse, take, length, Option, Some, None, refl, sym, ap, subst, ◌∙◌, arith}
use Rattle.std.specs.List.{zip}
use Rattle.std.proofs.lemmas.List.{reverse-reverse, length-reverse, nil_from_length}
use Rattle.ml_term.specs.Tree.{Tree, variables, list_of, width, substitute}
use Rattle.ml_term.specs.Keys.{arguments}
use Rattle.ml_term.proofs.DistinctCounts.{In}
use Rattle.ml_term.specs.Unify.{Equation, mgu, solve_equations}
use Rattle.ml_term.proofs.UnificationRules.{solved_none_left}
use Rattle.ml_search.specs.Program.{Clause, clause_term, arity_of}
use Rattle.ml_search.specs.Bodies.{body_from}
use Rattle.ml_heap.specs.Changes.{Changes, variable_count, cell_count, stands_for, AreCells, Grows}
use Rattle.ml_heap.proofs.CarriedTrees.{carries_grown}
use Rattle.ml_heap.proofs.NumbersBelow.{below}
use Rattle.ml_compile.specs.declared.instr.Instr.{Instr}
use Rattle.ml_compile.specs.declared.instr.Instr.TheVariants.{Enter}
use Rattle.ml_compile.specs.Spells.{StandsAt, Matches, SpellsClause, IsBlock}
use Rattle.ml_match.specs.Slots.{HasSlot, slot_tree}
use Rattle.ml_match.specs.Entered.{head_equations, HasEntered}
use Rattle.ml_match.specs.inside.Matching.{HasNewSlot}
use Rattle.ml_match.specs.inside.Running.{IsBelow, AreBelow, IsRunning, RunsOn, MayRun}
use Rattle.ml_match.proofs.CellLists.{still}
use Rattle.ml_match.proofs.HeadParts.{none_left}
use Rattle.ml_match.proofs.Entering.{as_many_arguments, met_below, shifted, new_slot, new_tree}

up_to : (m w : ℕ) → ((k : ℕ) → k < m → k < w) → m ≤ w
up_to zero w f = omega arith
up_to (suc m) w f = let l = f m (omega arith) in omega arith

-- slots that were written stand where they were
front_of : (xs ys : List ℕ) → take (length xs) (xs ++ ys) ≡ xs
front_of [] ys = refl
front_of (x ∷ xs) ys = ap (λ zs. x ∷ zs) (front_of xs ys)

pub all_written : (slots rest : List ℕ) (n : ℕ) → n ≡ length slots → take n (slots ++ rest) ≡ slots
all_written slots rest n e = ap (λ k. take k (slots ++ rest)) e ∙ front_of slots rest

module _ (code : List Instr) (c : Clause) (s : SpellsClause code c) (args : List ℕ) (many : arity_of c.head ≡ length args)
    (h : Changes) (slots : List ℕ) (env : ℕ) (at_env : env ≡ length slots) (wide : ℕ) (wide_is : (n : ℕ) → StandsAt code 0 (Enter n) → wide ≡ n) where
  abbrev w : ℕ
  w = width (clause_term c.head c.body)

  abbrev es : List Equation
  es = head_equations (variable_count h) (map (stands_for h) args) c.head

  as_wide : wide ≡ w
  as_wide = wide_is w s.enters

  -- the variables are created, and the call's cells wait
  module _ (h1 : Changes) (slots1 slots' todo : List ℕ) (see : slots' ≡ slots1) (inside : AreCells (cell_count h) args) (grown : Grows h h1)
      (todo_is : todo ≡ reverse args) (made_so : (n : ℕ) → n < wide → HasNewSlot h1 slots1 (length slots + n) (variable_count h + n)) where
    made : (n : ℕ) → n < w → HasNewSlot h1 slots' (env + n) (variable_count h + n)
    made n l =
        subst (λ (qs : List ℕ). HasNewSlot h1 qs (env + n) (variable_count h + n)) (sym see)
        (subst (λ (e : ℕ). HasNewSlot h1 slots1 (e + n) (variable_count h + n)) (sym at_env) (made_so n (omega (arith, l, as_wide))))

    turned : reverse todo ≡ args
    turned = ap (λ (qs : List ℕ). reverse qs) todo_is ∙ reverse-reverse args

    left_is : zip (map (stands_for h1) (reverse todo)) (map (substitute (slot_tree h1 slots' env)) (list_of (arguments c.head))) ≡ es
    left_is =
        ap (λ qs. zip (map (stands_for h1) qs) (map (substitute (slot_tree h1 slots' env)) (list_of (arguments c.head)))) turned
        ∙ (ap (λ ts. zip ts (map (substitute (slot_tree h1 slots' env)) (list_of (arguments c.head)))) (still h h1 args grown inside)
        ∙ ap (zip (map (stands_for h) args))
        (shifted code c s (variable_count h) (slot_tree h1 slots' env) (λ n l. new_tree h1 slots' env (variable_count h) n (made n l))))

    older_below : (r : ℕ) → r < cell_count h → IsBelow (variable_count h + 0) (stands_for h1 r)
    older_below r l k i =
        let b = below h r k (subst (λ (t : Tree). In k (variables t)) (grown.others r l) i) in omega (arith, b)

    all_below : (qs : List ℕ) → AreCells (cell_count h) qs → AreBelow h1 (variable_count h + 0) qs
    all_below [] a = tt
    all_below (q ∷ qs) a = ((omega (arith, a.0, grown.cells), older_below q a.0), all_below qs a.1)

    pub running_begins : IsRunning code es h (variable_count h) w env s.body_at 1 h1 slots' todo
    running_begins = record {
      met = 0;
      after = s.met;
      terms = list_of (arguments c.head);
      matches = s.head;
      within = up_to s.met w (met_below code c s);
      many = omega (arith, ap length todo_is, length-reverse args, as_many_arguments c.head, many);
      solving = record { map_so_far = []; carried = carries_grown h h1 grown; solved = ap mgu (sym left_is) };
      waiting = subst (AreBelow h1 (variable_count h + 0)) (sym turned) (all_below args inside);
      older = older_below;
      met_slots = λ n l. absurd (omega (arith, l));
      unmet_slots = λ n l k. record {
        slot = new_slot h1 slots' env (variable_count h) n (made n k);
        itself = new_tree h1 slots' env (variable_count h) n (made n k);
      };
      stand = λ n k. new_tree h1 slots' env (variable_count h) n (made n k);
    }

    pub may_begin : MayRun code env 1 h1 slots' todo
    may_begin = record { equations = es; old = h; next = variable_count h; wide = w; q = s.body_at; running = running_begins }

  -- all instructions of the head have been run
  module _ (h1 h3 : Changes) (slots1 slots' : List ℕ) (counted1 : variable_count h1 ≡ variable_count h + wide)
      (counted3 : variable_count h3 ≡ variable_count h1) (many1 : length slots1 ≡ length slots + wide) (many3 : length slots' ≡ length slots1) where
    pub running_ends : (found : Option ℕ) → RunsOn code es h (variable_count h) w env s.body_at h3 slots' [] found
        → HasEntered code h h3 slots slots' c (map (stands_for h) args) found
    running_ends None e =
        record { counted = omega (arith, counted1, counted3, as_wide); many = omega (arith, many1, many3, as_wide); outcome = e }
    running_ends (Some place) r =
        let none : r.terms ≡ [] = nil_from_length r.terms (omega (arith, r.many)) in
        let at = none_left (subst (λ (ts : List Tree). Matches code place s.body_at r.met ts r.after) none r.matches) in
        record {
          counted = omega (arith, counted1, counted3, as_wide);
          many = omega (arith, many1, many3, as_wide);
          outcome = record {
            unifier = r.solving.map_so_far;
            found = r.solving.solved ∙ ap (λ ts. solve_equations (zip [] (map (substitute (slot_tree h3 slots' env)) ts)) r.solving.map_so_far) none
                ∙ solved_none_left r.solving.map_so_far;
            carried = r.solving.carried;
            have = λ n l. subst (λ (e : ℕ). HasSlot h3 slots' (e + n)) at_env (slot n l);
            stand = λ n l. ap (λ e. slot_tree h3 slots' e n) (sym at_env) ∙ r.stand n l;
            body = subst (λ (p : ℕ). IsBlock code p (body_from c.body)) (sym at.0) s.body;
          };
        }
      where
        met_or_unmet : (n met : ℕ) → (n < met) ⊎ (met ≤ n)
        met_or_unmet n met = grind arith

        slot : (n : ℕ) → n < w → HasSlot h3 slots' (env + n)
        slot n l = elim (met_or_unmet n r.met) [ inl m ↦ (r.met_slots n m).slot | inr m ↦ (r.unmet_slots n m l).slot ]
