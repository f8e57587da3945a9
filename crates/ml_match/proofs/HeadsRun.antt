-- The state of a head that is matched, from one instruction to the next.
use Rattle.std.proofs.Common.{◌≡◌, ◌≢◌, ℕ, ◌+◌, ◌<◌, ◌≤◌, ◌⊎◌, inl, inr, List, [], ◌∷◌, ◌++◌, map, reverse, length, set, get_or, Option, Some, None, refl, sym, ap, subst, ◌∙◌, arith, length-append}
use Rattle.std.specs.List.{zip}
use Rattle.std.proofs.lemmas.Bool.Decides.{eqb_tells}
use Rattle.std.proofs.lemmas.List.{reverse-append, reverse-reverse, map-append, length-map, length-reverse, length-set, get_or-set_same, get_or-set_other, same_from_push}
use Rattle.std.proofs.lemmas.Option.{slice_get-get_or}
use Rattle.ml_term.specs.Tree.{Tree, Trees, variable, compound, trees_of, list_of, arity, variables, variables_of, has, substitute, substitute_in}
use Rattle.ml_term.specs.Unify.{Equation, Map, apply, binding, mgu, unifier, solve_equations}
use Rattle.ml_term.specs.Unifiers.{equations_under, compose}
use Rattle.ml_term.proofs.DistinctCounts.{In}
use Rattle.ml_term.proofs.UnificationEnds.{in_left, in_right}
use Rattle.ml_term.proofs.Substitutions.{comes, arity_kept}
use Rattle.ml_term.proofs.UnificationRules.{solved_none_left}
use Rattle.ml_term.proofs.MapComposition.{applied_followed}
use Rattle.ml_term.proofs.EqualEquations.{same}
use Rattle.ml_term.proofs.GroundTerms.{arguments_solved}
use Rattle.ml_heap.specs.Changes.{Changes, cell_count, stands_for, Grows, AreCells}
use Rattle.ml_heap.specs.Carries.{Carries}
use Rattle.ml_heap.proofs.CarriedTrees.{carries_stay}
use Rattle.ml_heap.proofs.HeapMarks.{marks_go_on}
use Rattle.ml_compile.proofs.CodeKept.{matches_on}
use Rattle.ml_compile.specs.declared.instr.Instr.{Instr}
use Rattle.ml_compile.specs.Spells.{StandsAt, Matches}
use Rattle.ml_match.specs.Slots.{HasSlot, slot_tree}
use Rattle.ml_match.specs.inside.Matching.{HaveSlotsBelow, IsSolving}
use Rattle.ml_match.specs.Built.{HasBuilt}
use Rattle.ml_match.specs.inside.Clashes.{Clashes}
use Rattle.ml_match.specs.inside.Running.{IsBelow, AreBelow, IsRunning, FirstTerm}
use Rattle.ml_match.proofs.CellLists.{slot_within, slot_is, slot_inside}
use Rattle.ml_match.proofs.Solving.{solving_on, solving_fails, first_solved}
use Rattle.ml_match.proofs.HeadParts.{matches_rises, matches_within, early_within, takes_some, next_compound}
use Rattle.ml_match.proofs.GoalsBuilt.{substituted_trees}
use Rattle.std.proofs.lemmas.List.{append-nil, nil_from_length}
use Rattle.ml_heap.specs.Changes.{arguments_of}
use Rattle.ml_compile.specs.declared.instr.Instr.TheVariants.{Enter, GetFirst, GetAgain, GetInt, GetAtom, GetCmp, PutVar, PutInt, PutAtom, PutCmp, Call, Proceed, True, Fail, Cut, Try, Choose}
use Rattle.ml_match.specs.inside.Modes.{Agrees}
use Rattle.ml_match.proofs.HeadClashes.{clash_fails, first_matched_by}
use Rattle.ml_match.proofs.HeadEnds.{ends_by, met_first}
use Rattle.ml_match.proofs.HeadVariables.{weaker, below_applied, others_stay, stays_below, binds_itself, binds_no_other, bound_new, zip_under, cells_carried, terms_carried, trees_listed, only, matched_below, below_later, met_or_unmet}

module _ (code : List Instr) (es : List Equation) (old : Changes) (next wide env q at : ℕ) (h : Changes) (slots todo : List ℕ)
    (s : IsRunning code es old next wide env q at h slots todo) (todo' : List ℕ) (cell : ℕ) (last : todo ≡ todo' ++ cell ∷ []) where
  abbrev value : ℕ → Tree
  value = slot_tree h slots env

  turned : reverse todo ≡ cell ∷ reverse todo'
  turned = ap (λ (qs : List ℕ). reverse qs) last ∙ reverse-append todo' (cell ∷ [])

  below_all : AreBelow h (next + s.met) (cell ∷ reverse todo')
  below_all = subst (AreBelow h (next + s.met)) turned s.waiting

  pub cell_inside : cell < cell_count h
  cell_inside = below_all.0.0

  cell_below : IsBelow (next + s.met) (stands_for h cell)
  cell_below = below_all.0.1

  -- each variable has a slot
  pub all_slots : (n : ℕ) → n < wide → HasSlot h slots (env + n)
  all_slots n l = elim (met_or_unmet n s.met) [ inl m ↦ (s.met_slots n m).slot | inr m ↦ (s.unmet_slots n m l).slot ]

  pub some_left : (t : Tree) × ((rest : List Tree) × (s.terms ≡ t ∷ rest))
  some_left = cut s.terms (omega (arith, s.many, ap length last, length-append todo' (cell ∷ [])))
    where
      cut : (ts : List Tree) → 0 < length ts → (t : Tree) × ((rest : List Tree) × (ts ≡ t ∷ rest))
      cut [] l = absurd (omega arith)
      cut (t ∷ ts) l = (t, (ts, refl))

  fewer : (t : Tree) (rest : List Tree) → s.terms ≡ t ∷ rest → length todo' ≡ length rest
  fewer t rest is = omega (arith, s.many, ap length is, ap length last, length-append todo' (cell ∷ []))

  left_here : (t : Tree) (rest : List Tree) → s.terms ≡ t ∷ rest
      → zip (map (stands_for h) (reverse todo)) (map (substitute value) s.terms)
      ≡ (stands_for h cell, substitute value t) ∷ zip (map (stands_for h) (reverse todo')) (map (substitute value) rest)
  left_here t rest is = ap (λ qs. zip (map (stands_for h) qs) (map (substitute value) s.terms)) turned
      ∙ ap (λ ts. zip (map (stands_for h) (cell ∷ reverse todo')) (map (substitute value) ts)) is

  abbrev solving_here : (t : Tree) (rest : List Tree) → s.terms ≡ t ∷ rest
      → IsSolving es old h ((stands_for h cell, substitute value t) ∷ zip (map (stands_for h) (reverse todo')) (map (substitute value) rest))
  solving_here t rest is = record {
    map_so_far = s.solving.map_so_far;
    carried = s.solving.carried;
    solved = s.solving.solved ∙ ap (λ fs. solve_equations fs s.solving.map_so_far) (left_here t rest is);
  }

  pub early : at < q
  early = let x = some_left in takes_some (subst (λ (ts : List Tree). Matches code at q s.met ts s.after) x.1.1 s.matches)

  -- the first term can't be what the cell stands for
  pub running_fails : (t : Tree) (rest : List Tree) → s.terms ≡ t ∷ rest → unifier (stands_for h cell) (substitute value t) ≡ None → mgu es ≡ None
  running_fails t rest is u = solving_fails es old h _ _ (solving_here t rest is) u

  -- the variables of the rest have slots
  rest_within : (t : Tree) (rest : List Tree) → s.terms ≡ t ∷ rest → (k : ℕ) → In k (variables_of (trees_of rest)) → k < wide
  rest_within t rest is k i =
      let l = matched_below s.matches k (subst (λ (ts : List Tree). In k (variables_of (trees_of ts))) (sym is)
      (in_right k (variables t) (variables_of (trees_of rest)) i)) in
      omega (arith, l, s.within)

  -- the first term was unified with what the cell stands for; cells may have been made for that
  module _ (t : Tree) (rest : List Tree) (is : s.terms ≡ t ∷ rest) (met' at' : ℕ) (m : Matches code at' q met' rest s.after) (up : s.met ≤ met')
      (below : IsBelow (next + met') (substitute value t)) (h' : Changes) (n : Map) (u : unifier (stands_for h cell) (substitute value t) ≡ Some n)
      (k : Carries h h' n) where
    cell_below' : IsBelow (next + met') (stands_for h cell)
    cell_below' = weaker (next + s.met) (next + met') (stands_for h cell) (omega (arith, up)) cell_below

    below_after : (v : Tree) → IsBelow (next + s.met) v → IsBelow (next + met') (apply n v)
    below_after v b = below_applied (next + met') (stands_for h cell) (substitute value t) n u cell_below' below v
        (weaker (next + s.met) (next + met') v (omega (arith, up)) b)

    slot_after : (j : ℕ) → j < wide → slot_tree h' slots env j ≡ apply n (value j)
    slot_after j l =
        let x = all_slots j l in
        ap (stands_for h') (slot_is h slots (env + j) x 0)
        ∙ (k.trees x.cell x.inside ∙ ap (λ r. apply n (stands_for h r)) (sym (slot_is h slots (env + j) x 0)))

    has_after : (j : ℕ) → j < wide → HasSlot h' slots (env + j)
    has_after j l = let x = all_slots j l in record { cell = x.cell; slot = x.slot; inside = omega (arith, x.inside, k.cells) }

    within_met : met' ≤ wide
    within_met = let l = matches_rises m in omega (arith, l, s.within)

    value_below : (j : ℕ) → j < met' → IsBelow (next + met') (slot_tree h' slots env j)
    value_below j l = subst (IsBelow (next + met')) (sym (slot_after j (omega (arith, l, within_met)))) (elim (met_or_unmet j s.met) [
      | inl b ↦ below_after (value j) (s.met_slots j b).below_it
      | inr b ↦ below_applied (next + met') (stands_for h cell) (substitute value t) n u cell_below' below (value j)
          (subst (IsBelow (next + met')) (sym (s.unmet_slots j b (omega (arith, l, within_met))).itself)
          (λ x i. let e = only x (next + j) i in omega (arith, e, l)))
    ])

    same_left : zip (map (stands_for h') (reverse todo')) (map (substitute (slot_tree h' slots env)) rest)
        ≡ equations_under n (zip (map (stands_for h) (reverse todo')) (map (substitute value) rest))
    same_left =
        ap (λ ts. zip ts (map (substitute (slot_tree h' slots env)) rest))
        (cells_carried h h' n (next + s.met) (reverse todo') below_all.1 (λ r l b. k.trees r l))
        ∙ (ap (zip (map (apply n) (map (stands_for h) (reverse todo'))))
        (terms_carried n value (slot_tree h' slots env) rest (λ j i. slot_after j (rest_within t rest is j i)))
        ∙ sym (zip_under n (map (stands_for h) (reverse todo')) (map (substitute value) rest)))

    pub running_unified : IsRunning code es old next wide env q at' h' slots todo'
    running_unified = record {
      met = met';
      after = s.after;
      terms = rest;
      matches = m;
      within = s.within;
      many = fewer t rest is;
      solving = solving_on es old h h' (stands_for h cell, substitute value t) _ _ n (solving_here t rest is) u k same_left;
      waiting = below_later h h' (next + s.met) (next + met') (reverse todo') k.cells
          (λ r l b. subst (IsBelow (next + met')) (sym (k.trees r l)) (below_after (stands_for h r) b)) below_all.1;
      older = λ r l.
          let i : r < cell_count h = omega (arith, l, s.solving.carried.cells) in
          subst (IsBelow (next + met')) (sym (k.trees r i)) (below_after (stands_for h r) (s.older r l));
      met_slots = λ j l. record { slot = has_after j (omega (arith, l, within_met)); below_it = value_below j l };
      unmet_slots = λ j l w. record {
        slot = has_after j w;
        itself = slot_after j w ∙ (ap (apply n) (s.unmet_slots j (omega (arith, l, up)) w).itself
            ∙ others_stay (next + met') (stands_for h cell) (substitute value t) n u cell_below' below (next + j) (omega (arith, l)));
      };
      stand = λ j w. slot_after j w ∙ (ap (apply n) (s.stand j w) ∙ sym (applied_followed s.solving.map_so_far n (variable (next + j))));
    }

  -- the first term is what the cell stands for
  pub running_equal : (t : Tree) (rest : List Tree) → s.terms ≡ t ∷ rest → (met' at' : ℕ) → Matches code at' q met' rest s.after → s.met ≤ met'
      → IsBelow (next + met') (substitute value t) → stands_for h cell ≡ substitute value t → IsRunning code es old next wide env q at' h slots todo'
  running_equal t rest is met' at' m up below e =
      running_unified t rest is met' at' m up below h []
      (subst (λ (v : Tree). unifier v (substitute value t) ≡ Some []) (sym e) (same (substitute value t) [] [] ∙ solved_none_left [])) (carries_stay h)

  -- the first term is a variable that is met now: its slot takes the cell
  module _ (rest : List Tree) (is : s.terms ≡ variable s.met ∷ rest) (at' : ℕ) (m : Matches code at' q (s.met + 1) rest s.after)
      (slots' : List ℕ) (set_is : slots' ≡ set slots (env + s.met) cell) where
    abbrev v : ℕ
    v = next + s.met

    abbrev t : Tree
    t = stands_for h cell

    now_within : s.met < wide
    now_within = let l = matches_rises m in omega (arith, l, s.within)

    place_within : env + s.met < length slots
    place_within = slot_within h slots (env + s.met) (all_slots s.met now_within)

    was_itself : value s.met ≡ variable v
    was_itself = (s.unmet_slots s.met (omega arith) now_within).itself

    at_it : get_or slots' (env + s.met) 0 ≡ cell
    at_it = ap (λ qs. get_or qs (env + s.met) 0) set_is ∙ get_or-set_same slots (env + s.met) cell 0 place_within

    elsewhere : (j : ℕ) → (j ≢ s.met) → get_or slots' (env + j) 0 ≡ get_or slots (env + j) 0
    elsewhere j d = ap (λ qs. get_or qs (env + j) 0) set_is ∙ get_or-set_other slots (env + s.met) (env + j) cell 0 (λ e. d (omega (arith, e)))

    as_long : length slots' ≡ length slots
    as_long = ap length set_is ∙ length-set slots (env + s.met) cell

    has_here : (j : ℕ) → j < wide → HasSlot h slots' (env + j)
    has_here j l =
        let b = slot_within h slots (env + j) (all_slots j l) in
        let lt : env + j < length slots' = omega (arith, b, as_long) in
        record { cell = get_or slots' (env + j) 0; slot = slice_get-get_or slots' (env + j) 0 lt; inside = inside (eq_or_not j s.met) }
      where
        eq_or_not : (a b : ℕ) → (a ≡ b) ⊎ (a ≢ b)
        eq_or_not a b = elim (eqb_tells a b) [ inl e ↦ inl e.1 | inr e ↦ inr e.1 ]

        inside : (j ≡ s.met) ⊎ (j ≢ s.met) → get_or slots' (env + j) 0 < cell_count h
        inside (inl e) = omega (arith, ap (λ i. get_or slots' (env + i) 0) e, at_it, cell_inside)
        inside (inr d) = omega (arith, elsewhere j d, slot_inside h slots (env + j) (all_slots j l) 0)

    value_here : slot_tree h slots' env s.met ≡ t
    value_here = ap (stands_for h) at_it

    value_else : (j : ℕ) → (j ≢ s.met) → slot_tree h slots' env j ≡ value j
    value_else j d = ap (stands_for h) (elsewhere j d)

    -- what a variable's slot has is what the binding makes of what it had
    value_bound : (j : ℕ) → j < wide → slot_tree h slots' env j ≡ apply (binding v t) (value j)
    value_bound j l = elim (eqb_tells j s.met) [
      | inl e ↦ subst (λ (i : ℕ). slot_tree h slots' env i ≡ apply (binding v t) (value i)) (sym e.1)
          (value_here ∙ (sym (binds_itself v t) ∙ ap (apply (binding v t)) (sym was_itself)))
      | inr e ↦ value_else j e.1 ∙ sym (elim (met_or_unmet j s.met) [
        | inl b ↦ stays_below v t (value j) (s.met_slots j b).below_it
        | inr b ↦ let x = (s.unmet_slots j b l).itself in
            ap (apply (binding v t)) x ∙ (binds_no_other v (next + j) t (λ z. e.1 (omega (arith, z))) ∙ sym x)
      ])
    ]

    all_below : AreBelow h v (reverse todo')
    all_below = below_all.1

    bound_left : zip (map (stands_for h) (reverse todo')) (map (substitute (slot_tree h slots' env)) rest)
        ≡ equations_under (binding v t) (zip (map (stands_for h) (reverse todo')) (map (substitute value) rest))
    bound_left =
        ap (λ ts. zip ts (map (substitute (slot_tree h slots' env)) rest))
        (cells_carried h h (binding v t) v (reverse todo') all_below (λ r l b. sym (stays_below v t (stands_for h r) b)))
        ∙ (ap (zip (map (apply (binding v t)) (map (stands_for h) (reverse todo'))))
        (terms_carried (binding v t) value (slot_tree h slots' env) rest (λ j i. value_bound j (rest_within (variable s.met) rest is j i)))
        ∙ sym (zip_under (binding v t) (map (stands_for h) (reverse todo')) (map (substitute value) rest)))

    unified : unifier (stands_for h cell) (value s.met) ≡ Some (binding v t)
    unified = ap (unifier (stands_for h cell)) was_itself ∙ bound_new t v cell_below

    abbrev solved_now : IsSolving es old h (zip (map (stands_for h) (reverse todo')) (map (substitute (slot_tree h slots' env)) rest))
    solved_now = record {
      map_so_far = compose s.solving.map_so_far (binding v t);
      carried = record {
        cells = s.solving.carried.cells;
        trees = λ r l. sym (stays_below v t (stands_for h r) (s.older r l))
            ∙ (ap (apply (binding v t)) (s.solving.carried.trees r l) ∙ sym (applied_followed s.solving.map_so_far (binding v t) _));
        marks = s.solving.carried.marks;
      };
      solved = (solving_here (variable s.met) rest is).solved
          ∙ (first_solved (stands_for h cell, value s.met) _ s.solving.map_so_far (binding v t) unified
          ∙ ap (λ fs. solve_equations fs (compose s.solving.map_so_far (binding v t))) (sym bound_left));
    }

    more : (u : Tree) → IsBelow v u → IsBelow (next + (s.met + 1)) u
    more u b = weaker v (next + (s.met + 1)) u (omega arith) b

    pub running_first : IsRunning code es old next wide env q at' h slots' todo'
    running_first = record {
      met = s.met + 1;
      after = s.after;
      terms = rest;
      matches = m;
      within = s.within;
      many = fewer (variable s.met) rest is;
      solving = solved_now;
      waiting = below_later h h v (next + (s.met + 1)) (reverse todo') (omega arith) (λ r l b. more (stands_for h r) b) all_below;
      older = λ r l. more (stands_for h r) (s.older r l);
      met_slots = λ j l. record {
        slot = has_here j (omega (arith, l, now_within));
        below_it = elim (eqb_tells j s.met) [
          | inl e ↦ subst (λ (i : ℕ). IsBelow (next + (s.met + 1)) (slot_tree h slots' env i)) (sym e.1)
              (subst (IsBelow (next + (s.met + 1))) (sym value_here) (more t cell_below))
          | inr e ↦ subst (IsBelow (next + (s.met + 1))) (sym (value_else j e.1)) (more (value j) (s.met_slots j (earlier j l e.1)).below_it)
        ];
      };
      unmet_slots = λ j l w. record {
        slot = has_here j w;
        itself = value_else j (λ e. later j l e) ∙ (s.unmet_slots j (omega (arith, l)) w).itself;
      };
      stand = λ j w. value_bound j w ∙ (ap (apply (binding v t)) (s.stand j w)
          ∙ sym (applied_followed s.solving.map_so_far (binding v t) (variable (next + j))));
    }
      where
        earlier : (j : ℕ) → j < s.met + 1 → (j ≢ s.met) → j < s.met
        earlier j l d = grind (arith, d)

        later : (j : ℕ) → s.met + 1 ≤ j → j ≡ s.met → ⊥
        later j l e = omega arith

  -- the first term is a compound, and so is what the cell stands for: the arguments wait
  module _ (f : List ℕ) (us : Trees) (rest : List Tree) (is : s.terms ≡ compound f us ∷ rest) (at' between p : ℕ)
      (inner : Matches code at' p s.met (list_of us) between) (behind : Matches code p q between rest s.after)
      (args : List ℕ) (shown : stands_for h cell ≡ compound f (trees_of (map (stands_for h) args))) (many : length args ≡ arity us)
      (inside : AreCells (cell_count h) args) where
    listed : (ts : List Tree) → list_of (trees_of ts) ≡ ts
    listed [] = refl
    listed (u ∷ ts) = ap (λ x. u ∷ x) (listed ts)

    arity_listed : (ts : List Tree) → arity (trees_of ts) ≡ length ts
    arity_listed [] = refl
    arity_listed (u ∷ ts) = omega (arith, arity_listed ts)

    args_long : length (list_of us) ≡ length args
    args_long = omega (arith, sym (arity_listed (list_of us)), ap arity (trees_listed us), many)

    args_below : AreBelow h (next + s.met) args
    args_below = each args inside (λ k i. cell_below k (subst (λ (v : Tree). In k (variables v)) (sym shown) i))
      where
        each : (qs : List ℕ) → AreCells (cell_count h) qs → ((k : ℕ) → In k (variables_of (trees_of (map (stands_for h) qs))) → k < next + s.met)
            → AreBelow h (next + s.met) qs
        each [] a b = tt
        each (r ∷ qs) a b = (
          (a.0, λ k i. b k (in_left k (variables (stands_for h r)) (variables_of (trees_of (map (stands_for h) qs))) i)),
          each qs a.1 (λ k i. b k (in_right k (variables (stands_for h r)) (variables_of (trees_of (map (stands_for h) qs))) i)),
        )

    both_below : (ps qs : List ℕ) → AreBelow h (next + s.met) ps → AreBelow h (next + s.met) qs → AreBelow h (next + s.met) (ps ++ qs)
    both_below [] qs a b = b
    both_below (r ∷ ps) qs a b = (a.0, both_below ps qs a.1 b)

    put_on : reverse (todo' ++ reverse args) ≡ args ++ reverse todo'
    put_on = reverse-append todo' (reverse args) ∙ ap (λ qs. qs ++ reverse todo') (reverse-reverse args)

    zip_both : (ts vs xs ys : List Tree) → length ts ≡ length vs → zip (ts ++ xs) (vs ++ ys) ≡ zip ts vs ++ zip xs ys
    zip_both [] [] xs ys e = refl
    zip_both [] (w ∷ vs) xs ys e = absurd (omega arith)
    zip_both (w ∷ ts) [] xs ys e = absurd (omega arith)
    zip_both (w ∷ ts) (z ∷ vs) xs ys e = ap (λ fs. (w, z) ∷ fs) (zip_both ts vs xs ys (omega arith))

    abbrev later_left : List Equation
    later_left = zip (map (stands_for h) (reverse todo')) (map (substitute value) rest)

    -- the compounds' equation comes apart
    apart : solve_equations ((stands_for h cell, substitute value (compound f us)) ∷ later_left) s.solving.map_so_far
        ≡ solve_equations (zip (map (stands_for h) (reverse (todo' ++ reverse args))) (map (substitute value) (list_of us ++ rest))) s.solving.map_so_far
    apart =
        let ts : List Tree = map (stands_for h) args in
        let many' : arity (trees_of ts) ≡ arity (substitute_in value us) =
        omega (arith, arity_listed ts, length-map args (stands_for h), many, arity_kept value us) in
        let second : list_of (substitute_in value us) ≡ map (substitute value) (list_of us) =
        ap list_of (ap (substitute_in value) (sym (trees_listed us)) ∙ substituted_trees value (list_of us))
        ∙ listed (map (substitute value) (list_of us)) in
        let pairs_are : zip (list_of (trees_of ts)) (list_of (substitute_in value us)) ≡ zip ts (map (substitute value) (list_of us)) =
        ap (λ x. zip x (list_of (substitute_in value us))) (listed ts) ∙ ap (zip ts) second in
        let long : length ts ≡ length (map (substitute value) (list_of us)) =
        omega (arith, length-map args (stands_for h), length-map (list_of us) (substitute value), args_long) in
        let joined : zip ts (map (substitute value) (list_of us)) ++ later_left
        ≡ zip (map (stands_for h) (reverse (todo' ++ reverse args))) (map (substitute value) (list_of us ++ rest)) =
        sym (zip_both ts (map (substitute value) (list_of us)) (map (stands_for h) (reverse todo')) (map (substitute value) rest) long)
        ∙ (ap (λ x. zip x (map (substitute value) (list_of us) ++ map (substitute value) rest))
        (sym (map-append (stands_for h) args (reverse todo')) ∙ ap (map (stands_for h)) (sym put_on))
        ∙ ap (zip (map (stands_for h) (reverse (todo' ++ reverse args)))) (sym (map-append (substitute value) (list_of us) rest))) in
        ap (λ w. solve_equations ((w, substitute value (compound f us)) ∷ later_left) s.solving.map_so_far) shown
        ∙ (arguments_solved f (trees_of ts) (substitute_in value us) later_left s.solving.map_so_far many'
        ∙ ap (λ fs. solve_equations fs s.solving.map_so_far) (ap (λ x. x ++ later_left) pairs_are ∙ joined))

    pub running_inside : IsRunning code es old next wide env q at' h slots (todo' ++ reverse args)
    running_inside = record {
      met = s.met;
      after = s.after;
      terms = list_of us ++ rest;
      matches = matches_on inner behind;
      within = s.within;
      many = omega (arith, length-append todo' (reverse args), length-reverse args, length-append (list_of us) rest, args_long, fewer (compound f us) rest is);
      solving = record {
        map_so_far = s.solving.map_so_far;
        carried = s.solving.carried;
        solved = (solving_here (compound f us) rest is).solved ∙ apart;
      };
      waiting = subst (AreBelow h (next + s.met)) (sym put_on) (both_below args (reverse todo') args_below below_all.1);
      older = s.older;
      met_slots = s.met_slots;
      unmet_slots = s.unmet_slots;
      stand = s.stand;
    }

  -- places are within the code
  pub here_within : at < length code
  here_within = early_within s.matches early

  pub end_within : (end : ℕ) → FirstTerm code at end q s.met s.terms s.after → end ≤ length code
  end_within end f = matches_within f.front (let l = here_within in omega arith)

  -- the first term was built
  module _ (end : ℕ) (f : FirstTerm code at end q s.met s.terms s.after) where
    between_within : f.between ≤ wide
    between_within = let l = matches_rises f.behind in omega (arith, l, s.within)

    pub slots_below : HaveSlotsBelow h slots env f.between
    slots_below k l = all_slots k (omega (arith, l, between_within))

    term_below : IsBelow (next + f.between) (substitute value f.term)
    term_below k i =
        let x = comes value k f.term i in
        let l = matched_below f.front x.0 (in_left x.0 (variables f.term) [] x.1.0) in
        let r = matches_rises f.front in
        elim (met_or_unmet x.0 s.met) [
          | inl b ↦ let w = (s.met_slots x.0 b).below_it k x.1.1 in omega (arith, w, r)
          | inr b ↦ let e = (s.unmet_slots x.0 b (omega (arith, l, between_within))).itself in
              let w = only k (next + x.0) (subst (λ (u : Tree). In k (variables u)) e x.1.1) in omega (arith, w, l)
        ]

    module _ (h1 : Changes) (cells' popped : List ℕ) (built : ℕ) (g : Grows h h1)
        (b : HasBuilt h1 todo' cells' (map (substitute value) (reverse (f.term ∷ [])))) (pop : cells' ≡ popped ++ built ∷ []) where
      one : (qs : List ℕ) (t : Tree) → map (stands_for h1) qs ≡ t ∷ [] → (r : ℕ) × ((qs ≡ r ∷ []) × (stands_for h1 r ≡ t))
      one [] t e = absurd (cc e)
      one (r ∷ []) t e = (r, (refl, cc e))
      one (r ∷ (p ∷ qs)) t e = absurd (omega (arith, ap length e))

      it : (r : ℕ) × ((b.made ≡ r ∷ []) × (stands_for h1 r ≡ substitute value f.term))
      it = one b.made (substitute value f.term) b.stand

      ends : (todo' ≡ popped) × (it.0 ≡ built)
      ends = same_from_push todo' popped it.0 built (sym (b.cells ∙ ap (λ qs. todo' ++ qs) it.1.0) ∙ pop)

      pub built_inside : built < cell_count h1
      built_inside = subst (λ (r : ℕ). r < cell_count h1) ends.1 (subst (AreCells (cell_count h1)) it.1.0 b.inside).0

      built_stands : stands_for h1 built ≡ substitute value f.term
      built_stands = subst (λ (r : ℕ). stands_for h1 r ≡ substitute value f.term) ends.1 it.1.1

      cell_still : stands_for h1 cell ≡ stands_for h cell
      cell_still = g.others cell cell_inside

      as_it_was : (r : Option Map) → unifier (stands_for h1 cell) (stands_for h1 built) ≡ r → unifier (stands_for h cell) (substitute value f.term) ≡ r
      as_it_was r e = ap (λ t. unifier t (substitute value f.term)) (sym cell_still) ∙ (ap (unifier (stands_for h1 cell)) (sym built_stands) ∙ e)

      pub unified_fails : unifier (stands_for h1 cell) (stands_for h1 built) ≡ None → mgu es ≡ None
      unified_fails e = running_fails f.term f.rest f.is (as_it_was None e)

      pub unified_goes : (h2 : Changes) (n : Map) → unifier (stands_for h1 cell) (stands_for h1 built) ≡ Some n → Carries h1 h2 n
          → IsRunning code es old next wide env q end h2 slots popped
      unified_goes h2 n e k =
          let carried : Carries h h2 n = record {
            cells = omega (arith, g.cells, k.cells);
            trees = λ r l. k.trees r (omega (arith, l, g.cells)) ∙ ap (apply n) (g.others r l);
            marks = marks_go_on h h1 h2 g.marks k.marks;
          } in
          subst (λ (qs : List ℕ). IsRunning code es old next wide env q end h2 slots qs) ends.0
          (running_unified f.term f.rest f.is f.between end f.behind (matches_rises f.front) term_below h2 n (as_it_was (Some n) e) carried)

  -- the first term clashes with what the cell stands for
  pub running_clashes : (x : Instr) → StandsAt code at x → Clashes (stands_for h cell) x → mgu es ≡ None
  running_clashes x y c =
      let l = some_left in
      let m = subst (λ (ts : List Tree). Matches code at q s.met ts s.after) l.1.1 s.matches in
      running_fails l.0 l.1.0 l.1.1 (clash_fails value (stands_for h cell) l.0 x y m c)

  -- the first term agrees with what the cell stands for: the arguments wait
  module _ (args : List ℕ) (inside : AreCells (cell_count h) args) (are : map (stands_for h) args ≡ arguments_of (stands_for h cell)) where
    without : arguments_of (stands_for h cell) ≡ [] → IsRunning code es old next wide env q (at + 1) h slots todo'
        → IsRunning code es old next wide env q (at + 1) h slots (todo' ++ reverse args)
    without e r =
        let none : args ≡ [] = nil_from_length args (omega (arith, length-map args (stands_for h), ap length are, ap length e)) in
        let same : todo' ++ reverse args ≡ todo' = ap (λ (qs : List ℕ). todo' ++ reverse qs) none ∙ append-nil todo' in
        subst (λ (qs : List ℕ). IsRunning code es old next wide env q (at + 1) h slots qs) (sym same) r

    pub running_reads : (x : Instr) → StandsAt code at x → Agrees (stands_for h cell) x
        → IsRunning code es old next wide env q (at + 1) h slots (todo' ++ reverse args)
    running_reads (GetInt z) y a =
        let f = ends_by (GetInt z) y q s.met s.after s.terms s.matches early in
        let m = first_matched_by (GetInt z) y f.front in
        without (ap arguments_of a) (running_equal f.term f.rest f.is f.between (at + 1) f.behind (matches_rises f.front) (term_below (at + 1) f)
        (a ∙ ap (substitute value) (sym m)))
    running_reads (GetAtom g) y a =
        let f = ends_by (GetAtom g) y q s.met s.after s.terms s.matches early in
        let m = first_matched_by (GetAtom g) y f.front in
        without (ap arguments_of a) (running_equal f.term f.rest f.is f.between (at + 1) f.behind (matches_rises f.front) (term_below (at + 1) f)
        (a ∙ ap (substitute value) (sym m)))
    running_reads (GetCmp g n z) y a =
        let c = next_compound g n z y early s.matches in
        running_inside g c.args c.rest c.is (at + 1) c.between (at + z) c.inside c.behind args
        (a.is ∙ ap (λ ts. compound g (trees_of ts)) (sym are))
        (omega (arith, length-map args (stands_for h), ap length are, a.many, c.many)) inside
    running_reads (Enter n) y k = absurd k
    running_reads (GetFirst n) y k = absurd k
    running_reads (GetAgain n) y k = absurd k
    running_reads (PutVar n) y k = absurd k
    running_reads (PutInt z) y k = absurd k
    running_reads (PutAtom f) y k = absurd k
    running_reads (PutCmp f n) y k = absurd k
    running_reads (Call g) y k = absurd k
    running_reads Proceed y k = absurd k
    running_reads True y k = absurd k
    running_reads Fail y k = absurd k
    running_reads Cut y k = absurd k
    running_reads (Try a b) y k = absurd k
    running_reads (Choose a b d) y k = absurd k

  -- the first term is a variable that is met now
  module _ (n : ℕ) (y : StandsAt code at (GetFirst n)) where
    now_met : (s.met ≡ n) × ((rest : List Tree) × ((s.terms ≡ variable s.met ∷ rest) × Matches code (at + 1) q (s.met + 1) rest s.after))
    now_met = met_first n y early s.matches

    pub first_within : env + n < length slots
    first_within =
        let l = matches_rises now_met.1.1.1 in
        let b = slot_within h slots (env + s.met) (all_slots s.met (omega (arith, l, s.within))) in
        omega (arith, b, now_met.0)

    pub running_sets : (slots' : List ℕ) → slots' ≡ set slots (env + n) cell → IsRunning code es old next wide env q (at + 1) h slots' todo'
    running_sets slots' e =
        running_first now_met.1.0 now_met.1.1.0 (at + 1) now_met.1.1.1 slots' (e ∙ ap (λ i. set slots (env + i) cell) (sym now_met.0))
