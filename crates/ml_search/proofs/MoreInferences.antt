-- A search that didn't run out of inferences gives the same with more of them.
use Rattle.std.specs.Prelude.{◌≡◌, ℕ, zero, suc, ◌+◌, Bool, true, false, List, [], ◌∷◌, length}
use Rattle.std.specs.List.{flat_map}
use Rattle.std.proofs.Common.{inl, inr, refl, ◌∙◌, sym, ap, arith, subst}
use Rattle.ml_term.specs.Tree.{Tree}
use Rattle.ml_term.specs.Runs.{Next}
use Rattle.ml_term.specs.Falling.{HoldsNext, HoldsAfter}
use Rattle.ml_search.specs.Program.{Program}
use Rattle.ml_search.specs.Changes.{ItemName, alter}
use Rattle.ml_search.specs.Actions.{Branch, End, end_of_answers, ball, out_of_inferences, Transition, answer, end_search, replace_by, prune_to, resolve, Action}
use Rattle.ml_search.specs.Actions.{transition, after_inference, scan, update, search_apart, findall_result, inner_branch, action}
use Rattle.ml_search.specs.Procedures.{procedure_of}
use Rattle.ml_search.specs.Search.{State, Outcome, Turn, last_of, transition_turn, by_effect, use_inference, action_turn, branch_turn, search_from}
use Rattle.ml_search.specs.Search.{outcome_of_turn, outcome_of_next}
use Rattle.ml_search.specs.LawWords.{with_more_inferences, outcome_with_more, ran_out}
use Rattle.ml_search.proofs.SearchTurns.{search_steps, by_turns}

-- a turn with more inferences left
abbrev more_turn : ℕ → Turn → Turn
more_turn k (inl o) = inl (outcome_with_more k o)
more_turn k (inr s) = inr (with_more_inferences k s)

go_more : (k : ℕ) (a : Transition ItemName) (r : List (Branch ItemName)) (s : State) →
    transition_turn a r (with_more_inferences k s) ≡ more_turn k (transition_turn a r s)
go_more k (answer ts) r s = refl
go_more k (end_search e) r s = refl
go_more k (replace_by bs) r s = refl
go_more k (prune_to h a) r s = go_more k a (last_of h r) s
go_more k (resolve t b cs) r s = refl

module _ (program : Program) (k : ℕ) where
  -- what is to be shown of a state and its outcome
  abbrev Same : State → Outcome → Type 0
  Same s o = ran_out o.end ≡ false → search_from program (with_more_inferences k s) ≡ outcome_with_more k o

  settled_more : (x : Turn) (o : Outcome) → HoldsNext Same x o → ran_out o.end ≡ false →
      outcome_of_turn (search_from program) (more_turn k x) ≡ outcome_with_more k o
  settled_more (inl q) o h n = ap (outcome_with_more k) h
  settled_more (inr t) o h n = h n

  using_more : (n : ℕ) (s : State) (f : State → Next State Outcome) (o : Outcome) → HoldsAfter Same (use_inference n s f) o → ran_out o.end ≡ false
      → ((v : State) → HoldsAfter Same (f v) o → outcome_of_next (search_from program) (f (with_more_inferences k v)) ≡ outcome_with_more k o)
      → outcome_of_next (search_from program) (use_inference (n + k) (with_more_inferences k s) f) ≡ outcome_with_more k o
  using_more zero s f o h n g = grind (arith, ap (λ q. ran_out q.end) h, n)
  using_more (suc m) s f o h n g =
      subst (λ j. outcome_of_next (search_from program) (use_inference j (with_more_inferences k s) f) ≡ outcome_with_more k o) later
      (g (record s { left = m }) h)
    where
      later : suc (m + k) ≡ suc m + k
      later = omega arith

  -- what the search of a goal by itself leads to
  abbrev behind : Tree → Branch ItemName → List (Branch ItemName) → List (List Tree) → Outcome → Turn
  behind l b r found q =
      transition_turn (findall_result l b q.end (flat_map (λ ts. ts) q.found)) r (record { branches = r; found = found; lists = q.lists; left = q.left })

  out_goes_on : (e : End) (l : Tree) (b : Branch ItemName) (ts : List Tree) (r : List (Branch ItemName)) (s : State) (o : Outcome) → ran_out e ≡ true →
      HoldsNext Same (transition_turn (findall_result l b e ts) r s) o → ran_out o.end ≡ true
  out_goes_on end_of_answers l b ts r s o d h = grind (arith, d)
  out_goes_on (ball t) l b ts r s o d h = grind (arith, d)
  out_goes_on out_of_inferences l b ts r s o d h = sym (ap (λ q. ran_out q.end) h)

  inner_is_not_out : (l : Tree) (b : Branch ItemName) (r : List (Branch ItemName)) (found : List (List Tree)) (q o : Outcome) →
      HoldsNext Same (behind l b r found q) o → ran_out o.end ≡ false → (c : Bool) → ran_out q.end ≡ c → ran_out q.end ≡ false
  inner_is_not_out l b r found q o h n false d = d
  inner_is_not_out l b r found q o h n true d =
      grind (arith, n, out_goes_on q.end l b (flat_map (λ ts. ts) q.found) r (record { branches = r; found = found; lists = q.lists; left = q.left }) o d h)

  found_more : (l : Tree) (b : Branch ItemName) (r : List (Branch ItemName)) (found : List (List Tree)) (t : State) (q o : Outcome) → Same t q →
      HoldsNext Same (behind l b r found q) o → ran_out o.end ≡ false
      → outcome_of_turn (search_from program) (behind l b r found (search_from program (with_more_inferences k t))) ≡ outcome_with_more k o
  found_more l b r found t q o h g n =
      ap (λ x. outcome_of_turn (search_from program) (behind l b r found x)) (h (inner_is_not_out l b r found q o g n (ran_out q.end) refl))
      ∙ ap (outcome_of_turn (search_from program))
      (go_more k (findall_result l b q.end (flat_map (λ ts. ts) q.found)) r (record { branches = r; found = found; lists = q.lists; left = q.left }))
      ∙ settled_more (behind l b r found q) o g n

  does_more : (a : Action ItemName) (r : List (Branch ItemName)) (s : State) (o : Outcome) → HoldsAfter Same (action_turn program a r s) o →
      ran_out o.end ≡ false → outcome_of_next (search_from program) (action_turn program a r (with_more_inferences k s)) ≡ outcome_with_more k o
  does_more (transition a) r s o h n = ap (outcome_of_turn (search_from program)) (go_more k a r s) ∙ settled_more (transition_turn a r s) o h n
  does_more (after_inference a) r s o h n = using_more s.left s (λ v. action_turn program a r v) o h n (λ v g. does_more a r v o g n)
  does_more (scan how d t b) r s o h n = h n
  does_more (update c x y z) r s o h n =
      let u : State = record s { lists = (alter program.decls c s.lists).1 } in
      let a : Transition ItemName = by_effect (alter program.decls c s.lists).0 x y z in
      ap (outcome_of_turn (search_from program)) (go_more k a r u) ∙ settled_more (transition_turn a r u) o h n
  does_more (search_apart x g l b) r s o h n =
      found_more l b r s.found (record { branches = inner_branch x g b.next ∷ []; found = []; lists = s.lists; left = s.left }) h.0 o h.1.0 h.1.1 n

  branch_more : (bs : List (Branch ItemName)) (s : State) (o : Outcome) → HoldsAfter Same (branch_turn program bs s) o → ran_out o.end ≡ false →
      outcome_of_next (search_from program) (branch_turn program bs (with_more_inferences k s)) ≡ outcome_with_more k o
  branch_more [] s o h n = ap (outcome_with_more k) h
  branch_more (b ∷ r) s o h n = does_more (action (procedure_of program) (length r) b) r s o h n

  pub more_inferences : (s : State) → Same s (search_from program s)
  more_inferences = by_turns program Same (λ s o h n. search_steps program (with_more_inferences k s) ∙ branch_more s.branches s o h n)
