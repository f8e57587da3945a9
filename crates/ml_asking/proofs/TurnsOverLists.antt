-- A turn of the search that asks, over plain lists: it comes to what its state comes to.
use Rattle.std.specs.Prelude.{◌≡◌, ℕ, zero, suc, Bool, true, false, List, [], ◌∷◌, ◌++◌, length, drop, Option, Some, None, slice_get, is_some}
use Rattle.std.specs.List.{flat_map, filter}
use Rattle.std.specs.Option.{option_map, option_map_or, option_and_then}
use Rattle.std.proofs.Common.{refl, sym, ap, ◌∙◌, arith, subst, append_assoc}
use Rattle.ml_term.specs.Tree.{Tree}
use Rattle.ml_term.specs.Unify.{Map, unifier}
use Rattle.ml_search.specs.Program.{Clause, Program, holds_of, is_clause_list}
use Rattle.ml_search.specs.Db.{Item, items}
use Rattle.ml_search.specs.Changes.{Lists, ItemName, Alter, puts, takes, puts_first, puts_last, drops, Effect, change_made, no_change, would_change, alter}
use Rattle.ml_search.specs.Changes as C
use Rattle.ml_search.specs.Actions.{Branch, End, end_of_answers, out_of_inferences, Usage, as_tuple, as_clause, to_retract, Transition, answer, end_search}
use Rattle.ml_search.specs.Actions.{replace_by, prune_to, resolve, Action, transition, after_inference, scan, update, search_apart, branch_by, shift_variables}
use Rattle.ml_search.specs.Actions.{by_clause, by_item, findall_result, inner_branch, action}
use Rattle.ml_search.specs.Procedures.{procedure_of}
use Rattle.ml_search.specs.Search as S
use Rattle.ml_search.specs.Search.{State, Outcome, last_of, by_effect, search_from, outcome_of_turn, outcome_of_next}
use Rattle.ml_search.specs.Operations.{opens, Reply}
use Rattle.ml_search.specs.Replay.{Cursor, Store, rename_apart, item_head, item_reply, member, list_under, unifies, cursor_over, reply_by, reply_to_change, reply}
use Rattle.ml_search.proofs.SearchTurns.{search_steps}
use Rattle.ml_asking.specs.Asking as L
use Rattle.ml_asking.specs.Asking.{Member, ChoicePoint, branch_choice, clause_choices, item_choices, FindallFrame, AskingSearch, Conclusion, Move, finish}
use Rattle.ml_asking.specs.Asking.{go_on, request, push_branches, push_clauses, with_choice_points, operation_of, effect_of}
use Rattle.ml_asking.specs.Expand.{is_stored, id_in, branch_count, branch_over_lists, branches_of, state_of, resume, after_frames, outcome_of, items_remaining}
use Rattle.ml_asking.specs.Expand.{IsThere, Fits, AreWellFormed, FramesAreWellFormed, IsWellFormed}
use Rattle.ml_asking.proofs.BranchCounts.{last_all, last_more, last_expanded, length_expanded, out_more, clause_branch, item_branch, item_is, Extends}
use Rattle.ml_asking.proofs.BranchCounts.{span_later, out_later, expanded_later}
use Rattle.ml_asking.proofs.ActionsFit.{ActFits, act_fits}
use Rattle.ml_asking.proofs.ActionsOverLists.{outs, out_course, out_act, by_out, gathered_out, act_out}
use Rattle.ml_asking.proofs.ActionRequests.{ActMeets, act_meets}
use Rattle.ml_asking.proofs.ItemsThatDoNotUnify.{misses}

chosen_out : (cs : List Cursor) (r : List ChoicePoint) (e : Effect) (x y z : Transition Member) →
    by_effect e (out_course cs r x) (out_course cs r y) (out_course cs r z) ≡ out_course cs r (by_effect e x y z)
chosen_out cs r change_made x y z = refl
chosen_out cs r no_change x y z = refl
chosen_out cs r C.change_limit x y z = refl

expanded_onto : (cs : List Cursor) (bs : List (Branch Member)) (r : List ChoicePoint) → branches_of cs (push_branches bs r) ≡ outs cs bs r ++ branches_of cs r
expanded_onto cs [] r = refl
expanded_onto cs (b ∷ bs) r = rw (expanded_onto cs bs r) refl

-- the items of a list from a number on
none_left : (ms : List Item) (i : ℕ) → slice_get ms i ≡ None → drop i ms ≡ []
none_left [] zero e = refl
none_left [] (suc i) e = refl
none_left (x ∷ ms) zero e = absurd (cc e)
none_left (x ∷ ms) (suc i) e = none_left ms i e

one_left : (ms : List Item) (i : ℕ) (x : Item) → slice_get ms i ≡ Some x → drop i ms ≡ x ∷ drop (suc i) ms
one_left [] zero x e = absurd (cc e)
one_left [] (suc i) x e = absurd (cc e)
one_left (y ∷ ms) zero x e = let q : y ≡ x = cc e in rw q refl
one_left (y ∷ ms) (suc i) x e = one_left ms i x e

-- and of a cursor
no_more : (cs : List Cursor) (c i : ℕ) → member cs c i ≡ None → items_remaining cs c i ≡ []
no_more cs c i e = by_cursor (slice_get cs c) e
  where
    by_cursor : (o : Option Cursor) → option_and_then (λ k. slice_get k.members i) o ≡ None → drop i (option_map_or (λ k. k.members) o []) ≡ []
    by_cursor None e = none_left [] i refl
    by_cursor (Some k) e = none_left k.members i e

one_more_item : (cs : List Cursor) (c i : ℕ) (x : Item) → member cs c i ≡ Some x → items_remaining cs c i ≡ x ∷ items_remaining cs c (suc i)
one_more_item cs c i x e = by_cursor (slice_get cs c) e
  where
    by_cursor : (o : Option Cursor) → option_and_then (λ k. slice_get k.members i) o ≡ Some x
        → drop i (option_map_or (λ k. k.members) o []) ≡ x ∷ drop (suc i) (option_map_or (λ k. k.members) o [])
    by_cursor None e = absurd (cc e)
    by_cursor (Some k) e = one_left k.members i x e

-- a list with one more at its end
at_end : {A : Type 0} (x : A) (xs : List A) → slice_get (xs ++ x ∷ []) (length xs) ≡ Some x
at_end x [] = refl
at_end x (y ∷ xs) = at_end x xs

pub extended : (cs : List Cursor) (k : Cursor) → Extends cs (cs ++ k ∷ [])
extended [] k c l = absurd (omega (arith, l))
extended (j ∷ cs) k zero l = refl
extended (j ∷ cs) k (suc c) l = extended cs k c (omega (arith, l))

filter_out : {A B : Type 0} (p : A → Bool) (f : A → List B) (xs : List A) → ((x : A) → p x ≡ false → f x ≡ []) → flat_map f (filter p xs) ≡ flat_map f xs
filter_out p f [] h = refl
filter_out p f (x ∷ xs) h = test (filter_out p f xs h) (p x) refl
  where
    test : (flat_map f (filter p xs) ≡ flat_map f xs) → (b : Bool) → p x ≡ b → flat_map f (filter p (x ∷ xs)) ≡ f x ++ flat_map f xs
    test i true e = rw e (ap (λ y. f x ++ y) i)
    test i false e = rw (e, h x e) i

-- a reply says what came of the change
effect_is : (c : Alter Member) (e : Effect) → effect_of (reply_by (operation_of c) e) ≡ e
effect_is (puts t) change_made = refl
effect_is (puts t) no_change = refl
effect_is (puts t) C.change_limit = refl
effect_is (takes t) change_made = refl
effect_is (takes t) no_change = refl
effect_is (takes t) C.change_limit = refl
effect_is (puts_first t) change_made = refl
effect_is (puts_first t) no_change = refl
effect_is (puts_first t) C.change_limit = refl
effect_is (puts_last t) change_made = refl
effect_is (puts_last t) no_change = refl
effect_is (puts_last t) C.change_limit = refl
effect_is (drops x) change_made = refl
effect_is (drops x) no_change = refl
effect_is (drops x) C.change_limit = refl

module _ (program : Program) where
  -- the move of a search that ends comes to its outcome
  abbrev Ends : Store → List FindallFrame → (End → AskingSearch → Move) → Type 0
  Ends s ws ends =
      (e : End) (m : AskingSearch) → m.frames ≡ ws →
      outcome_of program (ends e m) s ≡ after_frames program s ws (record { found = m.found; end = e; lists = s.lists; left = m.left })

  course_meant : (s : Store) (ws : List FindallFrame) (ends : End → AskingSearch → Move) → Ends s ws ends →
      (a : Transition Member) (r : List ChoicePoint) (m : AskingSearch) (bs : List (Branch ItemName)) → m.frames ≡ ws
      →
      outcome_of program (L.transition_move ends a r m) s
      ≡ after_frames program s ws
      (outcome_of_turn (search_from program)
      (S.transition_turn (out_course s.cursors r a) (branches_of s.cursors r) (record { branches = bs; found = m.found; lists = s.lists; left = m.left })))
  course_meant s ws ends p (answer ts) r m bs q =
      ap (λ f. after_frames program s f (search_from program (state_of s (record m { choice_points = r; found = m.found ++ ts ∷ [] })))) q
  course_meant s ws ends p (end_search e) r m bs q = p e m q
  course_meant s ws ends p (replace_by cs) r m bs q =
      rw (← expanded_onto s.cursors cs r) (ap (λ f. after_frames program s f (search_from program (state_of s (with_choice_points (push_branches cs r) m)))) q)
  course_meant s ws ends p (prune_to h a) r m bs q =
      course_meant s ws ends p a (last_of h r) m bs q
      ∙ ap
      (λ x. after_frames program s ws
      (outcome_of_turn (search_from program)
      (S.transition_turn (out_course s.cursors (last_of h r) a) x
      (record { branches = bs; found = m.found; lists = s.lists; left = m.left })))) (sym (last_expanded s.cursors h r))
  course_meant s ws ends p (resolve t b ks) r m bs q =
      rw (length_expanded s.cursors r)
      (ap (λ f. after_frames program s f (search_from program (state_of s (with_choice_points (clause_choices t b ks ∷ r) m)))) q)

  concludes_meant : (s : Store) (ws : List FindallFrame) (e : End) (found : List (List Tree)) (left : ℕ) → FramesAreWellFormed s.cursors ws
      → outcome_of program (L.concludes ws e found left) s ≡ after_frames program s ws (record { found = found; end = e; lists = s.lists; left = left })
  concludes_meant s [] e found left w = refl
  concludes_meant s (o ∷ ws) e found left w =
      let g = findall_result o.list o.branch e (flat_map (λ ts. ts) found) in
      let m : AskingSearch = record { choice_points = []; found = o.found; left = left; frames = ws } in
      rw (gathered_out s.cursors o.choice_points o.list o.branch e (flat_map (λ ts. ts) found) w.1)
      (course_meant s ws (λ e m. L.concludes ws e m.found m.left) (λ e m q. concludes_meant s ws e m.found m.left w.2) g o.choice_points m
      (branches_of s.cursors o.choice_points) refl)

  ends_meant : (s : Store) (ws : List FindallFrame) → FramesAreWellFormed s.cursors ws → Ends s ws L.ends_here
  ends_meant s ws w e m q = ap (λ f. outcome_of program (L.concludes f e m.found m.left) s) q ∙ concludes_meant s ws e m.found m.left w

  -- what waits stays as it is where more cursors are open
  plugged_later : (s u : Store) → Extends s.cursors u.cursors → (ws : List FindallFrame) (o : Outcome) → FramesAreWellFormed s.cursors ws →
      after_frames program u ws o ≡ after_frames program s ws o
  plugged_later s u p [] o w = refl
  plugged_later s u p (x ∷ ws) o w =
      rw (
        out_later s.cursors u.cursors p
            (length x.choice_points) x.choice_points x.branch.goals w.0 w.1,
        expanded_later s.cursors u.cursors p x.choice_points w.0,
      ) (plugged_later s u p ws
      (resume program s x o) w.2)

  -- the items of a new cursor stand for the branches of all items of its list
  opened_expanded : (s : Store) (how : Usage) (d : ℕ) (t : Tree) (b : Branch Member) (r : List ChoicePoint) →
      holds_of is_clause_list (slice_get program.decls d) ≡ is_stored how → Fits s.cursors (length r) b.goals → AreWellFormed s.cursors r
      → branches_of (s.cursors ++ cursor_over program.decls d t s.lists.db ∷ []) (item_choices how t b (length s.cursors) 0 ∷ r)
      ≡ flat_map (λ i. by_item how t (length (branches_of s.cursors r)) (branch_over_lists s.cursors r b) (record { list = d; id = i.id }) i.term)
      (items s.lists.db d) ++ branches_of s.cursors r
  opened_expanded s how d t b r h f w =
      let k = cursor_over program.decls d t s.lists.db in
      let u = s.cursors ++ k ∷ [] in
      let p = extended s.cursors k in
      let e : slice_get u (length s.cursors) ≡ Some k = at_end k s.cursors in
      let miss : (i : Item) → unifies program.decls d t i ≡ false →
      by_item how t (branch_count s.cursors r) (branch_over_lists s.cursors r b) (record { list = d; id = i.id }) i.term ≡ [] =
      λ i n.
      let n' : is_some (unifier t _) ≡ false = subst (λ z. is_some (unifier t (rename_apart t (item_head z i.term))) ≡ false) h n in
      item_is how t (branch_count s.cursors r) (branch_over_lists s.cursors r b) (record { list = d; id = i.id }) i.term
      ∙ ap (λ o. branch_by o (item_branch how (branch_count s.cursors r) (branch_over_lists s.cursors r b) (record { list = d; id = i.id }) i.term))
      (misses t b.next (item_head (is_stored how) i.term) n') in
      rw (out_later s.cursors u p (length r) r b.goals w f, span_later s.cursors u p r w, expanded_later s.cursors u p r w, e, length_expanded s.cursors r)
      (ap (λ x. x ++ branches_of s.cursors r)
      (filter_out (unifies program.decls d t)
      (λ i. by_item how t (branch_count s.cursors r) (branch_over_lists s.cursors r b) (record { list = d; id = i.id }) i.term) (items s.lists.db d) miss))

  using_meant : (s : Store) (ws : List FindallFrame) (a : Action Member) (r : List ChoicePoint) (m : AskingSearch) (bs : List (Branch ItemName)) (n : ℕ) →
      m.frames ≡ ws → FramesAreWellFormed s.cursors ws
      →
      ((m' : AskingSearch) → m'.frames ≡ ws →
      outcome_of program (L.action_move a r m') s
      ≡ after_frames program s ws
      (outcome_of_next (search_from program)
      (S.action_turn program (out_act s.cursors r a) (branches_of s.cursors r)
      (record { branches = bs; found = m'.found; lists = s.lists; left = m'.left }))))
      → outcome_of program (L.use_inference n m (λ m. L.action_move a r m)) s
      ≡ after_frames program s ws
      (outcome_of_next (search_from program)
      (S.use_inference n (record { branches = bs; found = m.found; lists = s.lists; left = m.left })
      (λ u. S.action_turn program (out_act s.cursors r a) (branches_of s.cursors r) u)))
  using_meant s ws a r m bs zero q w h = ends_meant s ws w out_of_inferences m q
  using_meant s ws a r m bs (suc n) q w h = h (record m { left = n }) q

  -- what follows a change
  altered_meant : (s : Store) (ws : List FindallFrame) (x y z : Transition Member) (r : List ChoicePoint) (m : AskingSearch) (bs : List (Branch ItemName))
      (e : Effect) (lists : Lists) → m.frames ≡ ws → FramesAreWellFormed s.cursors ws
      → outcome_of program (L.transition_move L.ends_here (by_effect e x y z) r m) (record s { lists = lists })
      ≡ after_frames program s ws
      (outcome_of_turn (search_from program)
      (S.transition_turn (by_effect e (out_course s.cursors r x) (out_course s.cursors r y) (out_course s.cursors r z)) (branches_of s.cursors r)
      (record { branches = bs; found = m.found; lists = lists; left = m.left })))
  altered_meant s ws x y z r m bs e lists q w =
      let u : Store = record s { lists = lists } in
      course_meant u ws L.ends_here (ends_meant u ws w) (by_effect e x y z) r m bs q
      ∙ ap
      (λ g. after_frames program s ws
      (outcome_of_turn (search_from program)
      (S.transition_turn g (branches_of s.cursors r) (record { branches = bs; found = m.found; lists = lists; left = m.left })))) (sym (chosen_out s.cursors
      r e x y z))

  change_meant : (s : Store) (ws : List FindallFrame) (c : Alter Member) (c' : Alter ItemName) (x y z : Transition Member) (r : List ChoicePoint)
      (m : AskingSearch) (bs : List (Branch ItemName)) → m.frames ≡ ws → FramesAreWellFormed s.cursors ws
      →
      outcome_of program (L.transition_move L.ends_here (by_effect (effect_of (reply_by (operation_of c) (alter program.decls c' s.lists).0)) x y z) r m)
      (record s { lists = (alter program.decls c' s.lists).1 })
      ≡ after_frames program s ws
      (outcome_of_turn (search_from program)
      (S.transition_turn (by_effect (alter program.decls c' s.lists).0 (out_course s.cursors r x) (out_course s.cursors r y) (out_course s.cursors r z))
      (branches_of s.cursors r) (record { branches = bs; found = m.found; lists = (alter program.decls c' s.lists).1; left = m.left })))
  change_meant s ws c c' x y z r m bs q w =
      ap (λ e. outcome_of program (L.transition_move L.ends_here (by_effect e x y z) r m) (record s { lists = (alter program.decls c' s.lists).1 }))
      (effect_is c (alter program.decls c' s.lists).0)
      ∙ altered_meant s ws x y z r m bs (alter program.decls c' s.lists).0 (alter program.decls c' s.lists).1 q w

  -- the same where a clause is to be taken out, by the item that its cursor gave
  abbrev DropMeant : (s : Store) (ws : List FindallFrame) (i : Member) (x y z : Transition Member) (r : List ChoicePoint) (m : AskingSearch)
      (bs : List (Branch ItemName)) → Option Item → Type 0
  DropMeant s ws i x y z r m bs o =
      let p : Reply × Store =
      reply_to_change program.decls (option_map (λ j. drops (record { list = list_under s.cursors i.cursor_number; id = j.id })) o)
      (operation_of (drops i)) s in
      let a : Effect × Lists = alter program.decls (drops (record { list = list_under s.cursors i.cursor_number; id = id_in o })) s.lists in
      outcome_of program (L.transition_move L.ends_here (by_effect (effect_of p.0) x y z) r m) p.1
      ≡ after_frames program s ws
      (outcome_of_turn (search_from program)
      (S.transition_turn (by_effect a.0 (out_course s.cursors r x) (out_course s.cursors r y) (out_course s.cursors r z)) (branches_of s.cursors r)
      (record { branches = bs; found = m.found; lists = a.1; left = m.left })))

  act_meant : (s : Store) (ws : List FindallFrame) (a : Action Member) (r : List ChoicePoint) (m : AskingSearch) (bs : List (Branch ItemName)) → m.frames ≡ ws →
      FramesAreWellFormed s.cursors ws → AreWellFormed s.cursors r
      → ActFits (IsThere s.cursors) (length r) a → ActMeets program.decls a
      →
      outcome_of program (L.action_move a r m) s
      ≡ after_frames program s ws
      (outcome_of_next (search_from program)
      (S.action_turn program (out_act s.cursors r a) (branches_of s.cursors r) (record { branches = bs; found = m.found; lists = s.lists; left = m.left })))
  act_meant s ws (transition a) r m bs q w v f h = course_meant s ws L.ends_here (ends_meant s ws w) a r m bs q
  act_meant s ws (after_inference a) r m bs q w v f h = using_meant s ws a r m bs m.left q w (λ n q. act_meant s ws a r n bs q w v f h)
  act_meant s ws (scan how d t b) r m bs q w v f h =
      let u = (reply program.decls (opens d t) s).1 in
      let p = extended s.cursors (cursor_over program.decls d t s.lists.db) in
      ap (λ f. after_frames program u f (search_from program (state_of u (with_choice_points (item_choices how t b (length s.cursors) 0 ∷ r) m)))) q
      ∙ (plugged_later s u p ws (search_from program (state_of u (with_choice_points (item_choices how t b (length s.cursors) 0 ∷ r) m))) w
      ∙ ap (λ x. after_frames program s ws (search_from program (record { branches = x; found = m.found; lists = s.lists; left = m.left })))
      (opened_expanded s how d t b r h f v))
  act_meant s ws (update (puts t) x y z) r m bs q w v f h = change_meant s ws (puts t) (puts t) x y z r m bs q w
  act_meant s ws (update (takes t) x y z) r m bs q w v f h = change_meant s ws (takes t) (takes t) x y z r m bs q w
  act_meant s ws (update (puts_first t) x y z) r m bs q w v f h = change_meant s ws (puts_first t) (puts_first t) x y z r m bs q w
  act_meant s ws (update (puts_last t) x y z) r m bs q w v f h = change_meant s ws (puts_last t) (puts_last t) x y z r m bs q w
  act_meant s ws (update (drops i) x y z) r m bs q w v f h =
      subst (λ o. DropMeant s ws i x y z r m bs o) (sym f.0.1)
      (change_meant s ws (drops i) (drops (record { list = list_under s.cursors i.cursor_number; id = f.0.0.id })) x y z r m bs q w)
  act_meant s ws (search_apart x g l b) r m bs q w v f h =
      ap
      (λ h. after_frames program s h
      (resume program s (record { choice_points = r; found = m.found; branch = b; list = l })
      (search_from program (state_of s (record m { choice_points = branch_choice (inner_branch x g b.next) ∷ []; found = [] }))))) q

  -- the first clause or item, and the others
  one_more : (cs : List Cursor) (o : Option Map) (b : Branch Member) (b' : Branch ItemName) (e : List ChoicePoint) (rest : List (Branch ItemName))
      (r : List (Branch ItemName)) → branch_over_lists cs e b ≡ b' → branches_of cs e ≡ rest ++ r
      → (branch_by o b' ++ rest) ++ r ≡ branches_of cs (push_branches (branch_by o b) e)
  one_more cs o b b' e rest r p q =
      append_assoc (branch_by o b') rest r
      ∙ (sym (ap (λ x. branch_by o b' ++ x) q)
      ∙ (ap (λ x. x ++ branches_of cs e) (sym (by_out cs e o b ∙ ap (branch_by o) p)) ∙ sym (expanded_onto cs (branch_by o b) e)))

  clause_expanded : (cs : List Cursor) (t : Tree) (b : Branch Member) (c : Clause) (ks : List Clause) (r : List ChoicePoint) → Fits cs (length r) b.goals
      → branches_of cs (clause_choices t b (c ∷ ks) ∷ r) ≡ branches_of cs (push_branches (by_clause t (length r) b c) (push_clauses t b ks r))
  clause_expanded cs t b c [] r f =
      one_more cs (unifier t (shift_variables b.next c.head)) (clause_branch (length r) b c) (clause_branch (branch_count cs r) (branch_over_lists cs r b) c) r
      [] (branches_of cs r) (rw (last_all r) refl) refl
  clause_expanded cs t b c (d ∷ ks) r f =
      one_more cs (unifier t (shift_variables b.next c.head)) (clause_branch (length r) b c) (clause_branch (branch_count cs r) (branch_over_lists cs r b) c)
      (clause_choices t b (d ∷ ks) ∷ r)
      (flat_map (by_clause t (branch_count cs r) (branch_over_lists cs r b)) (d ∷ ks)) (branches_of cs r)
      (rw (last_more (length r) (clause_choices t b (d ∷ ks)) r (omega arith), last_all r, out_more cs (clause_choices t b (d ∷ ks)) r b.goals f) refl) refl

  -- what an item's branch stands for
  item_out : (cs : List Cursor) (how : Usage) (t : Tree) (b : Branch Member) (c i : ℕ) (x : Item) (r : List ChoicePoint) → Fits cs (length r) b.goals →
      member cs c i ≡ Some x
      → branch_over_lists cs (item_choices how t b c (suc i) ∷ r) (item_branch how (length r) b (record { cursor_number = c; item_number = i }) x.term)
      ≡ item_branch how (branch_count cs r) (branch_over_lists cs r b) (record { list = list_under cs c; id = x.id }) x.term
  item_out cs as_tuple t b c i x r f e =
      rw (
        last_more (length r) (item_choices as_tuple t b c (suc i)) r (omega arith),
        last_all r,
        out_more cs
            (item_choices as_tuple t b c (suc i)) r b.goals f,
      ) refl
  item_out cs as_clause t b c i x r f e =
      rw (
        last_more (length r) (item_choices as_clause t b c (suc i)) r (omega arith),
        last_all r,
        out_more cs
            (item_choices as_clause t b c (suc i)) r b.goals f,
      ) refl
  item_out cs (to_retract v) t b c i x r f e = rw (e, out_more cs (item_choices (to_retract v) t b c (suc i)) r b.goals f) refl

  item_expanded : (cs : List Cursor) (how : Usage) (t : Tree) (b : Branch Member) (c i : ℕ) (x : Item) (r : List ChoicePoint) → Fits cs (length r) b.goals →
      member cs c i ≡ Some x
      →
      branches_of cs (item_choices how t b c i ∷ r)
      ≡ branches_of cs
      (push_branches (by_item how t (length r) b (record { cursor_number = c; item_number = i }) x.term) (item_choices how t b c (suc i) ∷ r))
  item_expanded cs how t b c i x r f e =
      let o = unifier t (shift_variables b.next (item_head (is_stored how) x.term)) in
      let b' = item_branch how (length r) b (record { cursor_number = c; item_number = i }) x.term in
      let g : Item → List (Branch ItemName) =
      λ y. by_item how t (branch_count cs r) (branch_over_lists cs r b) (record { list = list_under cs c; id = y.id }) y.term in
      ap (λ z. flat_map g z ++ branches_of cs r) (one_more_item cs c i x e)
      ∙ (ap (λ z. (z ++ flat_map g (items_remaining cs c (suc i))) ++ branches_of cs r)
      (item_is how t (branch_count cs r) (branch_over_lists cs r b) (record { list = list_under cs c; id = x.id }) x.term)
      ∙ (one_more cs o b' (item_branch how (branch_count cs r) (branch_over_lists cs r b) (record { list = list_under cs c; id = x.id }) x.term)
      (item_choices how t b c (suc i) ∷ r)
      (flat_map g (items_remaining cs c (suc i))) (branches_of cs r) (item_out cs how t b c i x r f e) refl
      ∙ ap (λ z. branches_of cs (push_branches z (item_choices how t b c (suc i) ∷ r)))
      (sym (item_is how t (length r) b (record { cursor_number = c; item_number = i }) x.term))))

  given_meant : (s : Store) (how : Usage) (t : Tree) (b : Branch Member) (c i : ℕ) (r : List ChoicePoint) (m : AskingSearch) (o : Option Item) →
      Fits s.cursors (length r) b.goals → member s.cursors c i ≡ o
      →
      outcome_of program (L.after_fetch (item_reply o) how t b c i r m) s
      ≡ after_frames program s m.frames (search_from program (state_of s (with_choice_points (item_choices how t b c i ∷ r) m)))
  given_meant s how t b c i r m None f e =
      ap
      (λ x. after_frames program s m.frames
      (search_from program
      (record {
        branches = flat_map
            (λ y. by_item how t (branch_count s.cursors r) (branch_over_lists s.cursors r b) (record { list = list_under s.cursors c; id = y.id }) y.term) x
            ++ branches_of s.cursors r;
        found = m.found;
        lists = s.lists;
        left = m.left;
      })))
      (sym (no_more s.cursors c i e))
  given_meant s how t b c i r m (Some x) f e =
      ap (λ z. after_frames program s m.frames (search_from program (record { branches = z; found = m.found; lists = s.lists; left = m.left })))
      (sym (item_expanded s.cursors how t b c i x r f e))

  entry_meant : (s : Store) (es : List ChoicePoint) (m : AskingSearch) → FramesAreWellFormed s.cursors m.frames → AreWellFormed s.cursors es
      → outcome_of program (L.choice_point_turn program es m) s ≡ after_frames program s m.frames (search_from program (state_of s (with_choice_points es m)))
  entry_meant s [] m w v =
      concludes_meant s m.frames end_of_answers m.found m.left w
      ∙ ap (after_frames program s m.frames) (sym (search_steps program (state_of s (with_choice_points [] m))))
  entry_meant s (branch_choice b ∷ r) m w v =
      act_meant s m.frames (action (procedure_of program) (length r) b) r m (branches_of s.cursors (branch_choice b ∷ r)) refl w v.1
      (act_fits (IsThere s.cursors) (procedure_of program) (length r) b v.0) (act_meets program (length r) b)
      ∙ (ap
      (λ a. after_frames program s m.frames
      (outcome_of_next (search_from program) (S.action_turn program a (branches_of s.cursors r) (state_of s (with_choice_points (branch_choice b ∷ r) m)))))
      (sym (act_out s.cursors (procedure_of program) r b v.0)
      ∙ ap (λ n. action (procedure_of program) n (branch_over_lists s.cursors r b)) (sym (length_expanded s.cursors r)))
      ∙ ap (after_frames program s m.frames) (sym (search_steps program (state_of s (with_choice_points (branch_choice b ∷ r) m)))))
  entry_meant s (clause_choices t b [] ∷ r) m w v = refl
  entry_meant s (clause_choices t b (c ∷ ks) ∷ r) m w v =
      ap (λ z. after_frames program s m.frames (search_from program (record { branches = z; found = m.found; lists = s.lists; left = m.left })))
      (sym (clause_expanded s.cursors t b c ks r v.0))
  entry_meant s (item_choices how t b c i ∷ r) m w v = given_meant s how t b c i r m (member s.cursors c i) v.0.1 refl

  -- a turn comes to what its state comes to
  pub turn_meant : (s : Store) (m : AskingSearch) → IsWellFormed s.cursors m → outcome_of program (L.turn program m) s ≡ outcome_of program (go_on m) s
  turn_meant s m w = entry_meant s m.choice_points m w.1 w.0
