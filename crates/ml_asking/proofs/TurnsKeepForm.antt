-- A turn over plain lists leads to goals that speak of choice points below them, and to items that cursors have.
use Rattle.std.specs.Prelude.{◌≡◌, ℕ, zero, suc, ◌+◌, ◌-◌, ◌<◌, ◌≤◌, List, [], ◌∷◌, ◌++◌, length, Option, Some, None}
use Rattle.std.specs.Option.{option_map}
use Rattle.std.specs.List.{flat_map}
use Rattle.std.proofs.Common.{refl, arith, length-append}
use Rattle.ml_term.specs.Tree.{Tree}
use Rattle.ml_term.specs.Unify.{unifier}
use Rattle.ml_search.specs.Program.{Clause, Program}
use Rattle.ml_search.specs.Db.{Item}
use Rattle.ml_search.specs.Changes.{Lists, ItemName, Alter, puts, takes, puts_first, puts_last, drops, Effect, change_made, no_change}
use Rattle.ml_search.specs.Changes as C
use Rattle.ml_search.specs.Actions.{Continuation, Branch, End, end_of_answers, out_of_inferences, Usage, as_tuple, as_clause, to_retract, Transition, answer}
use Rattle.ml_search.specs.Actions.{end_search, replace_by, prune_to, resolve, Action, transition, after_inference, scan, update, search_apart, shift_variables}
use Rattle.ml_search.specs.Actions.{by_clause, findall_result, action}
use Rattle.ml_search.specs.Procedures.{procedure_of}
use Rattle.ml_search.specs.Search.{last_of, by_effect}
use Rattle.ml_search.specs.Operations.{Operation, insert, delete, assertz, asserta}
use Rattle.ml_search.specs.Replay.{Cursor, Store, item_head, item_reply, member, list_under, cursor_over, reply_to_change}
use Rattle.ml_asking.specs.Asking as L
use Rattle.ml_asking.specs.Asking.{Member, ChoicePoint, branch_choice, clause_choices, item_choices, FindallFrame, AskingSearch, Conclusion, Move, finish}
use Rattle.ml_asking.specs.Asking.{go_on, request, push_branches, push_clauses, with_choice_points, operation_of, effect_of}
use Rattle.ml_asking.specs.Expand.{is_stored, FitsOf, IsThere, Fits, AreWellFormed, FramesAreWellFormed, IsWellFormed, MoveIsWellFormed}
use Rattle.ml_asking.proofs.BranchCounts.{last_length, fits_above, fits_by, well_drop, clause_branch, item_branch, item_goals, item_is, Extends, there_later}
use Rattle.ml_asking.proofs.ActionsFit.{AllFit, CourseFits, ActFits, act_fits, by_fits, gathered_fits}
use Rattle.ml_asking.proofs.TurnsOverLists.{extended}

pub length_onto : (bs : List (Branch Member)) (r : List ChoicePoint) → length (push_branches bs r) ≡ length bs + length r
length_onto [] r = omega arith
length_onto (b ∷ bs) r = omega (arith, length_onto bs r)

pub chosen_fits : (k : Member → Type 0) (n : ℕ) (e : Effect) (x y z : Transition Member) → CourseFits k n x → CourseFits k n y → CourseFits k n z →
    CourseFits k n (by_effect e x y z)
chosen_fits k n change_made x y z f g h = f
chosen_fits k n no_change x y z f g h = g
chosen_fits k n C.change_limit x y z f g h = h

pub rest_above : (t : Tree) (b : Branch Member) (cs : List Clause) (r : List ChoicePoint) → length r ≤ length (push_clauses t b cs r)
rest_above t b [] r = omega arith
rest_above t b (c ∷ cs) r = omega arith

pub item_fits : (k : Member → Type 0) (n p : ℕ) (how : Usage) (b : Branch Member) (x : Member) (t : Tree) → n ≤ p → k x → FitsOf k n b.goals →
    FitsOf k p (item_goals how n b x t)
item_fits k n p as_tuple b x t l h f = (l, f)
item_fits k n p as_clause b x t l h f = (l, f)
item_fits k n p (to_retract u) b x t l h f = (h, fits_above k n p b.goals l f)

-- more cursors
module _ (cs ds : List Cursor) (extends : Extends cs ds) (longer : length cs ≤ length ds) where
  fits_later : (n : ℕ) (gs : Continuation Member) → Fits cs n gs → Fits ds n gs
  fits_later n gs = fits_by (IsThere cs) (IsThere ds) n gs (there_later cs ds extends)

  well_later : (r : List ChoicePoint) → AreWellFormed cs r → AreWellFormed ds r
  well_later [] w = tt
  well_later (branch_choice b ∷ r) w = (fits_later (length r) b.goals w.0, well_later r w.1)
  well_later (clause_choices t b ks ∷ r) w = (fits_later (length r) b.goals w.0, well_later r w.1)
  well_later (item_choices how t b c i ∷ r) w = ((omega (arith, w.0.0, longer), fits_later (length r) b.goals w.0.1), well_later r w.1)

  outer_later : (ws : List FindallFrame) → FramesAreWellFormed cs ws → FramesAreWellFormed ds ws
  outer_later [] w = tt
  outer_later (x ∷ ws) w = (well_later x.choice_points w.0, fits_later (length x.choice_points) x.branch.goals w.1, outer_later ws w.2)

onto_well : (cs : List Cursor) (bs : List (Branch Member)) (r : List ChoicePoint) → AreWellFormed cs r → AllFit (IsThere cs) (length r) bs →
    AreWellFormed cs (push_branches bs r)
onto_well cs [] r w f = w
onto_well cs (b ∷ bs) r w f =
    (fits_above (IsThere cs) (length bs + length r) (length (push_branches bs r)) b.goals (omega (arith, length_onto bs r)) f.0, onto_well cs bs r w f.1)

rest_well : (cs : List Cursor) (t : Tree) (b : Branch Member) (ks : List Clause) (r : List ChoicePoint) → Fits cs (length r) b.goals → AreWellFormed cs r →
    AreWellFormed cs (push_clauses t b ks r)
rest_well cs t b [] r f v = v
rest_well cs t b (c ∷ ks) r f v = (f, v)

module _ (program : Program) where
  abbrev EndsWell : Store → List FindallFrame → (End → AskingSearch → Move) → Type 0
  EndsWell s ws ends = (e : End) (m : AskingSearch) → m.frames ≡ ws → MoveIsWellFormed program (ends e m) s

  course_well : (s : Store) (ws : List FindallFrame) (ends : End → AskingSearch → Move) → EndsWell s ws ends →
      (a : Transition Member) (r : List ChoicePoint) (m : AskingSearch) → m.frames ≡ ws → FramesAreWellFormed s.cursors ws → AreWellFormed s.cursors r
      → CourseFits (IsThere s.cursors) (length r) a → MoveIsWellFormed program (L.transition_move ends a r m) s
  course_well s ws ends h (answer ts) r m q w v f = (v, rw q w)
  course_well s ws ends h (end_search e) r m q w v f = h e m q
  course_well s ws ends h (replace_by bs) r m q w v f = (onto_well s.cursors bs r v f, rw q w)
  course_well s ws ends h (prune_to n a) r m q w v f =
      course_well s ws ends h a (last_of n r) m q w (well_drop s.cursors (length r - n) r v) (rw (last_length n r f.0) f.1)
  course_well s ws ends h (resolve t b ks) r m q w v f = ((f, v), rw q w)

  concludes_well : (s : Store) (ws : List FindallFrame) (e : End) (found : List (List Tree)) (left : ℕ) → FramesAreWellFormed s.cursors ws →
      MoveIsWellFormed program (L.concludes ws e found left) s
  concludes_well s [] e found left w = tt
  concludes_well s (o ∷ ws) e found left w =
      course_well s ws (λ e m. L.concludes ws e m.found m.left) (λ e m q. concludes_well s ws e m.found m.left w.2)
      (findall_result o.list o.branch e (flat_map (λ ts. ts) found)) o.choice_points
      (record { choice_points = []; found = o.found; left = left; frames = ws }) refl w.2 w.0
      (gathered_fits (IsThere s.cursors) (length o.choice_points) o.list o.branch e (flat_map (λ ts. ts) found) w.1)

  ends_well : (s : Store) (ws : List FindallFrame) → FramesAreWellFormed s.cursors ws → EndsWell s ws L.ends_here
  ends_well s ws w e m q = rw q (concludes_well s ws e m.found m.left w)

  using_well : (s : Store) (ws : List FindallFrame) (n : ℕ) (m : AskingSearch) (f : AskingSearch → Move) → m.frames ≡ ws → FramesAreWellFormed s.cursors ws →
      ((m' : AskingSearch) → m'.frames ≡ ws → MoveIsWellFormed program (f m') s)
      → MoveIsWellFormed program (L.use_inference n m f) s
  using_well s ws zero m f q w h = ends_well s ws w out_of_inferences m q
  using_well s ws (suc n) m f q w h = h (record m { left = n }) q

  -- what follows a change: the cursors stay
  changed_well : (s : Store) (ws : List FindallFrame) (o : Operation) (c : Option (Alter ItemName)) (x y z : Transition Member) (r : List ChoicePoint)
      (m : AskingSearch) → m.frames ≡ ws → FramesAreWellFormed s.cursors ws → AreWellFormed s.cursors r
      → CourseFits (IsThere s.cursors) (length r) x → CourseFits (IsThere s.cursors) (length r) y → CourseFits (IsThere s.cursors) (length r) z
      →
      MoveIsWellFormed program (L.transition_move L.ends_here (by_effect (effect_of (reply_to_change program.decls c o s).0) x y z) r m)
      (reply_to_change program.decls c o s).1
  changed_well s ws o None x y z r m q w v f g h =
      course_well s ws L.ends_here (ends_well s ws w) (by_effect (effect_of (reply_to_change program.decls None o s).0) x y z) r m q w v
      (chosen_fits (IsThere s.cursors) (length r) (effect_of (reply_to_change program.decls None o s).0) x y z f g h)
  changed_well s ws o (Some c) x y z r m q w v f g h =
      let u = (reply_to_change program.decls (Some c) o s).1 in
      course_well u ws L.ends_here (ends_well u ws w) (by_effect (effect_of (reply_to_change program.decls (Some c) o s).0) x y z) r m q w v
      (chosen_fits (IsThere s.cursors) (length r) (effect_of (reply_to_change program.decls (Some c) o s).0) x y z f g h)

  act_well : (s : Store) (ws : List FindallFrame) (a : Action Member) (r : List ChoicePoint) (m : AskingSearch) → m.frames ≡ ws →
      FramesAreWellFormed s.cursors ws → AreWellFormed s.cursors r → ActFits (IsThere s.cursors) (length r) a
      → MoveIsWellFormed program (L.action_move a r m) s
  act_well s ws (transition a) r m q w v f = course_well s ws L.ends_here (ends_well s ws w) a r m q w v f
  act_well s ws (after_inference a) r m q w v f = using_well s ws m.left m (λ m. L.action_move a r m) q w (λ n q. act_well s ws a r n q w v f)
  act_well s ws (scan how d t b) r m q w v f =
      let k = cursor_over program.decls d t s.lists.db in
      let u = s.cursors ++ k ∷ [] in
      let l : length s.cursors < length u = omega (arith, length-append s.cursors (k ∷ [])) in
      let p : length s.cursors ≤ length u = omega (arith, l) in (
        ((l, fits_later s.cursors u (extended s.cursors k) p (length r) b.goals f), well_later s.cursors u (extended s.cursors k) p r v),
        rw q (outer_later s.cursors u (extended s.cursors k) p ws w),
      )
  act_well s ws (update (puts t) x y z) r m q w v f = changed_well s ws (insert t) (Some (puts t)) x y z r m q w v f.1 f.2 f.3
  act_well s ws (update (takes t) x y z) r m q w v f = changed_well s ws (delete t) (Some (takes t)) x y z r m q w v f.1 f.2 f.3
  act_well s ws (update (puts_first t) x y z) r m q w v f = changed_well s ws (asserta t) (Some (puts_first t)) x y z r m q w v f.1 f.2 f.3
  act_well s ws (update (puts_last t) x y z) r m q w v f = changed_well s ws (assertz t) (Some (puts_last t)) x y z r m q w v f.1 f.2 f.3
  act_well s ws (update (drops i) x y z) r m q w v f =
      changed_well s ws (operation_of (drops i))
      (option_map (λ j. drops (record { list = list_under s.cursors i.cursor_number; id = j.id })) (member s.cursors i.cursor_number i.item_number)) x y z r
      m q w v f.1 f.2 f.3
  act_well s ws (search_apart x g l b) r m q w v f = (((omega arith, tt), tt), (v, f, rw q w))

  given_well : (s : Store) (how : Usage) (t : Tree) (b : Branch Member) (c i : ℕ) (r : List ChoicePoint) (m : AskingSearch) (o : Option Item) →
      member s.cursors c i ≡ o → FramesAreWellFormed s.cursors m.frames → AreWellFormed s.cursors (item_choices how t b c i ∷ r)
      → MoveIsWellFormed program (L.after_fetch (item_reply o) how t b c i r m) s
  given_well s how t b c i r m None e w v = (v.1, w)
  given_well s how t b c i r m (Some x) e w v =
      let k = IsThere s.cursors in
      let n : Member = record { cursor_number = c; item_number = i } in (
        rw (item_is how t (length r) b n x.term)
            (onto_well s.cursors _ (item_choices how t b c (suc i) ∷ r) (v.0, v.1)
            (by_fits k (suc (length r)) (unifier t (shift_variables b.next (item_head (is_stored how) x.term))) (item_branch how (length r) b n x.term)
            (item_fits k (length r) (suc (length r)) how b n x.term (omega arith) (x, e) v.0.1))),
        w,
      )

  entry_well : (s : Store) (es : List ChoicePoint) (m : AskingSearch) → FramesAreWellFormed s.cursors m.frames → AreWellFormed s.cursors es →
      MoveIsWellFormed program (L.choice_point_turn program es m) s
  entry_well s [] m w v = concludes_well s m.frames end_of_answers m.found m.left w
  entry_well s (branch_choice b ∷ r) m w v =
      act_well s m.frames (action (procedure_of program) (length r) b) r m refl w v.1 (act_fits (IsThere s.cursors) (procedure_of program) (length r) b v.0)
  entry_well s (clause_choices t b [] ∷ r) m w v = (v.1, w)
  entry_well s (clause_choices t b (c ∷ ks) ∷ r) m w v =
      let e = push_clauses t b ks r in (
        onto_well s.cursors (by_clause t (length r) b c) e (rest_well s.cursors t b ks r v.0 v.1)
            (by_fits (IsThere s.cursors) (length e) (unifier t (shift_variables b.next c.head)) (clause_branch (length r) b c) (rest_above t b ks r, v.0)),
        w,
      )
  entry_well s (item_choices how t b c i ∷ r) m w v = given_well s how t b c i r m (member s.cursors c i) refl w v

  pub turn_well : (s : Store) (m : AskingSearch) → IsWellFormed s.cursors m → MoveIsWellFormed program (L.turn program m) s
  turn_well s m w = entry_well s m.choice_points m w.1 w.0
