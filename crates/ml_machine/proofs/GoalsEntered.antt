-- A goal is entered as the body of a clause without arguments: its variables are made and nothing is bound.
use Rattle.std.specs.Prelude.{◌≡◌, ℕ, ◌+◌, List, [], ◌∷◌, ◌++◌, length, map, Option, Some}
use Rattle.std.proofs.Common.{refl, sym, ap, ◌∙◌, subst, arith}
use Rattle.ml_term.specs.Tree.{variable}
use Rattle.ml_term.specs.Unify.{Map, apply}
use Rattle.ml_term.proofs.UnificationRules.{solved_none_left}
use Rattle.ml_search.specs.Program.{Clause, Goal, arity_of}
use Rattle.ml_heap.specs.Changes.{Changes, state, stands_for, variable_count}
use Rattle.ml_compile.specs.Spells.{SpellsClause}
use Rattle.ml_compile.specs.declared.instr.Instr.{Instr}
use Rattle.ml_match.specs.Entered.{HasEntered}
use Rattle.ml_stack.specs.declared.frame.CodeName.TheVariants.{Called}
use Rattle.ml_stack.specs.declared.frame.Frame.{Frame}
use Rattle.ml_machine.specs.Begun.{IsGoalEntered, goal_clause}
use Rattle.ml_machine.proofs.GoalClauses.{has_with_head, width_with_head}

nothing_created : variable_count [] ≡ 0
unfolding state
nothing_created = refl

same_map : (u : Map) → Some [] ≡ Some u → u ≡ []
same_map u e = cc

module _ (g : Goal) (h' : Changes) (slots' saved : List ℕ) (frames : List Frame) (codes' : List (List Instr)) (code : List Instr) (place : ℕ)
    (spells : SpellsClause code (goal_clause g)) where
  entered_so : HasEntered code [] h' [] slots' (goal_clause g) [] (Some place) → codes' ≡ code ∷ []
      → IsGoalEntered (record { heap = h'; frames = frames; slots = slots'; saved = saved; codes = codes' }) g
      (record { code = Called 0; place = place; env = 0; height = 0; next = 0 })
  entered_so e is =
      let o = e.outcome in
      let wide = width_with_head g.term in
      let none : o.unifier ≡ [] = same_map o.unifier (sym (solved_none_left []) ∙ o.found) in
      let zero = nothing_created in
      record {
        code = code;
        place = place;
        code_is = is;
        at_is = refl;
        body = o.body;
        counted = omega (arith, e.counted, zero, wide);
        many = omega (arith, e.many, wide);
        have = λ n l. (let s = o.have n (omega (arith, l, wide)) in record { cell = s.cell; slot = s.slot; inside = s.inside });
        stand = λ n l. (let next : variable_count [] + n ≡ n = omega (arith, zero) in
            o.stand n (omega (arith, l, wide)) ∙ ap (λ u. apply u (variable (variable_count [] + n))) none ∙ ap variable next);
        within = λ n i. (let l = spells.within n (has_with_head g.term n i) in omega (arith, l, wide));
      }

  pub goal_entered : (instrs : List Instr) → instrs ≡ code → (h : Changes) (slots args : List ℕ) (codes : List (List Instr)) (found : Option ℕ)
      → h ≡ [] → slots ≡ [] → args ≡ [] → codes ≡ []
      → codes' ≡ codes ++ code ∷ [] → found ≡ Some place
      → ((c : Clause) → SpellsClause instrs c → arity_of c.head ≡ length args → HasEntered instrs h h' slots slots' c (map (stands_for h) args) found)
      → IsGoalEntered (record { heap = h'; frames = frames; slots = slots'; saved = saved; codes = codes' }) g
      (record { code = Called 0; place = place; env = 0; height = 0; next = 0 })
  goal_entered instrs same h slots args codes found heap_none slots_none args_none codes_none more there entered =
      let c = goal_clause g in
      let e : HasEntered instrs h h' slots slots' c (map (stands_for h) args) found =
      entered c (subst (λ i. SpellsClause i c) (sym same) spells) (sym (ap length args_none)) in
      let e0 : HasEntered code h h' slots slots' c (map (stands_for h) args) found =
      subst (λ i. HasEntered i h h' slots slots' c (map (stands_for h) args) found) same e in
      let e1 : HasEntered code h h' slots slots' c [] found = subst (λ xs. HasEntered code h h' slots slots' c (map (stands_for h) xs) found) args_none e0 in
      let e2 : HasEntered code h h' [] slots' c [] found = subst (λ xs. HasEntered code h h' xs slots' c [] found) slots_none e1 in
      let e3 : HasEntered code [] h' [] slots' c [] found = subst (λ x. HasEntered code x h' [] slots' c [] found) heap_none e2 in
      entered_so (subst (λ f. HasEntered code [] h' [] slots' c [] f) there e3) (more ∙ ap (λ cs. cs ++ code ∷ []) codes_none)
