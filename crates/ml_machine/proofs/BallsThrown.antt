-- A ball goes from frame to frame: past all but a `catch/3`, and back to the call of that one.
use Rattle.std.specs.Prelude.{◌≡◌, ℕ, suc, ◌+◌, ◌<◌, List, [], ◌∷◌, length, map, Some, None, IsTrue, slice_get}
use Rattle.std.proofs.Common.{refl, sym, ap, ◌∙◌, subst}
use Rattle.ml_term.specs.Tree.{Tree, rename, width}
use Rattle.ml_term.specs.Unify.{Map, apply, unifier}
use Rattle.ml_term.specs.Seen.{seen}
use Rattle.ml_term.specs.Valid.{is_valid}
use Rattle.ml_term.specs.declared.term.Term.{Term}
use Rattle.ml_search.specs.Program.{Program}
use Rattle.ml_search.specs.Bodies.{call}
use Rattle.ml_search.specs.Search.{last_of}
use Rattle.ml_search.specs.Actions.{Continuation, run_body, map_continuation, Branch, with_map}
use Rattle.ml_asking.specs.Asking.{Member, ChoicePoint, branch_choice, AskingSearch, Move}
use Rattle.ml_asking.specs.TurnWords.{at_choices, throw_move}
use Rattle.ml_asking.proofs.TurnRows.{caught_so, not_caught}
use Rattle.ml_heap.specs.Changes.{cell_count, variable_count}
use Rattle.ml_stack.specs.declared.frame.At.{At}
use Rattle.ml_stack.specs.declared.frame.Frame.TheVariants.{Body as BodyFrame, Cut, Refute, Caught}
use Rattle.ml_stack.specs.declared.moment.Moment.{Moment}
use Rattle.ml_stack.specs.Memories.{Contents, IsMoment, memory_of, Grows, IsTree, AreTrees, tree, CompiledProcedure}
use Rattle.ml_stack.specs.Stands.{View, lower, Continues, Runs, at_end, at_body, Stacked}
use Rattle.ml_stack.specs.Choices.{StandFor}
use Rattle.ml_stack.proofs.Below.{continues_weaker}
use Rattle.ml_stack.proofs.BodyValues.{same_tree}
use Rattle.ml_stack.proofs.Carried.{continues_carried, tree_follows, trees_follow}
use Rattle.ml_stack.proofs.CarriedPlainly.{continues_plainly}
use Rattle.ml_stack.proofs.ChoicePoints.{stacked_grows}
use Rattle.ml_stack.proofs.TakenApart.{continues_frame, holds_body, holds_cut, holds_refute, holds_caught, IsBehindCatch}
use Rattle.ml_machine.specs.declared.machine.Machine.{Machine}
use Rattle.ml_machine.specs.declared.position.Position.TheVariants.{Throws, Calls}
use Rattle.ml_machine.specs.declared.position.Then.TheVariants.{Goes}
use Rattle.ml_machine.specs.BallsCaught.{IsCatch, IsCaught, IsNotCaught}
use Rattle.ml_machine.specs.Positions.{IsBehind, IsAt, at_ball, at_call}
use Rattle.ml_machine.specs.Steps.{LeadsTo, StepsTo}
use Rattle.ml_machine.proofs.MovesFollowed.{no_turn}
use Rattle.ml_machine.proofs.StacksKept.{KeepsOthers, stacks_change, choices_of, as_high}

pub tree_grows : {M N : Contents} {u : Map} {r : ℕ} {t : Tree} → Grows M N u → IsTree M r t → IsTree N r (apply u t)
tree_grows {M = M} {N = N} {u = u} {r = r} {t = t} g i = tree_follows M N u g r t i

pub tree_stays : {M N : Contents} {r : ℕ} {t : Tree} → Grows M N [] → IsTree M r t → IsTree N r t
tree_stays {N = N} {r = r} {t = t} g i = subst (λ x. IsTree N r x) (same_tree t) (tree_grows g i)

pub trees_carried : {M N : Contents} {u : Map} {rs : List ℕ} {ts : List Tree} → Grows M N u → AreTrees M rs ts → AreTrees N rs (map (apply u) ts)
trees_carried {M = M} {N = N} {u = u} {rs = rs} {ts = ts} g i = trees_follow M N u g rs ts i

same_trees : (ts : List Tree) → map (apply []) ts ≡ ts
same_trees [] = refl
same_trees (t ∷ ts) = ap (λ x. x ∷ map (apply []) ts) (same_tree t) ∙ ap (λ xs. t ∷ xs) (same_trees ts)

pub trees_stay : {M N : Contents} {rs : List ℕ} {ts : List Tree} → Grows M N [] → AreTrees M rs ts → AreTrees N rs ts
trees_stay {N = N} {rs = rs} {ts = ts} g i = subst (λ xs. AreTrees N rs xs) (same_trees ts) (trees_carried g i)

module _ (ps : List CompiledProcedure) where
  -- a machine whose ball looks from a link on, by its parts
  pub record IsThrowing (s : Machine) (written : List (List Tree)) (t : Term) (l : ℕ) (v : Move) : Type 0 where
    pub m : AskingSearch
    pub w : View
    pub gs : Continuation Member
    pub behind : IsBehind ps s written m w
    pub valid : IsTrue (is_valid (seen t))
    pub goals : Continues ps s.memory w (length w.choice_points) l gs
    pub is : v ≡ throw_move (seen t) (variable_count s.memory.heap) gs w.choice_points m

  pub throwing : {s : Machine} {written : List (List Tree)} {t : Term} {l : ℕ} {v : Move} → IsAt ps s written (Throws t l) v → IsThrowing s written t l v
  throwing (at_ball {gs = gs} {m = m} {w = w} i k c e) = record { m = m; w = w; gs = gs; behind = i; valid = k; goals = c; is = e }

  -- goals that a ball passes
  record IsPassed (M : Contents) (w : View) (n next : ℕ) (gs : Continuation Member) : Type 0 where
    behind : Continuation Member
    goes_on : Continues ps M w n next behind
    same : (t : Tree) (k : ℕ) (r : List ChoicePoint) (m : AskingSearch) → throw_move t k gs r m ≡ throw_move t k behind r m

  passed : {M : Contents} {w : View} {n : ℕ} {a : At} {gs : Continuation Member} → Runs ps M w n a gs → IsPassed M w n a.next gs
  passed {gs = gs} (at_end e p c) = record { behind = gs; goes_on = c; same = λ t k r m. refl }
  passed {n = n} (at_body e l s h r b) =
      let p = passed r in
      record { behind = p.behind; goes_on = continues_weaker ps n l p.goes_on; same = p.same }

  module _ (p : Program) (s : Machine) (ball : Term) where
    onward : {written : List (List Tree)} {l : ℕ} {v : Move} (next : ℕ) (f : IsThrowing s written ball l v) →
        IsPassed s.memory f.w (length f.w.choice_points) next f.gs → LeadsTo p ps s written v (Throws ball next)
    onward {v = v} next f k = record {
      move = throw_move (seen ball) (variable_count s.memory.heap) k.behind f.w.choice_points f.m;
      follows = no_turn p v _ (f.is ∙ k.same (seen ball) (variable_count s.memory.heap) f.w.choice_points f.m);
      is_at = at_ball f.behind f.valid k.goes_on refl;
    }

    pub past_body : (i : ℕ) (a : At) → slice_get s.memory.frames i ≡ Some (BodyFrame a) → StepsTo p ps s (Throws ball (suc i)) s (Goes (Throws ball a.next))
    past_body i a e written v j =
        let f = throwing j in
        onward a.next f (passed (holds_body ps (continues_frame ps (BodyFrame a) e f.goals)))

    pub past_cut : (i h next : ℕ) → slice_get s.memory.frames i ≡ Some (Cut h next) → StepsTo p ps s (Throws ball (suc i)) s (Goes (Throws ball next))
    past_cut i h next e written v j =
        let f = throwing j in
        let g = holds_cut ps (continues_frame ps (Cut h next) e f.goals) in
        onward next f (record {
          behind = g.behind;
          goes_on = continues_weaker ps (length f.w.choice_points) g.high g.goes_on;
          same = λ t k r m. ap (λ gs. throw_move t k gs r m) g.is;
        })

    pub past_refute : (i h next : ℕ) → slice_get s.memory.frames i ≡ Some (Refute h next) → StepsTo p ps s (Throws ball (suc i)) s (Goes (Throws ball next))
    past_refute i h next e written v j =
        let f = throwing j in
        let g = holds_refute ps (continues_frame ps (Refute h next) e f.goals) in
        onward next f (record {
          behind = g.behind;
          goes_on = continues_weaker ps (length f.w.choice_points) g.high g.goes_on;
          same = λ t k r m. ap (λ gs. throw_move t k gs r m) g.is;
        })

  -- what stands at a `catch/3`
  pub at_catch : {s : Machine} {written : List (List Tree)} {t : Term} {v : Move} (i h c k next : ℕ) (n : Moment) →
      slice_get s.memory.frames i ≡ Some (Caught h n c k next) → (f : IsThrowing s written t (suc i) v) →
      IsBehindCatch ps s.memory f.w (length f.w.choice_points) h c k next n f.gs
  at_catch i h c k next n e f = holds_caught ps (continues_frame ps (Caught h n c k next) e f.goals)

  module _ (p : Program) (s t : Machine) (keeps : KeepsOthers s t) (ball : Term) (i h c k next : ℕ) (n : Moment)
      (frame : slice_get s.memory.frames i ≡ Some (Caught h n c k next))
      (cuts : (w : View) → StandFor ps s.memory s.stacks.choices.items w → StandFor ps s.memory t.stacks.choices.items (lower h w))
      (N : Contents) (grown : Grows (memory_of s.memory n) N []) (counted : variable_count N.heap ≡ variable_count s.memory.heap) where
    -- the catcher's tree is that at the call
    catcher_there : {w : View} {b : ℕ} {gs : Continuation Member} (g : IsBehindCatch ps s.memory w b h c k next n gs) → tree N c ≡ g.catcher
    catcher_there g = sym ((tree_stays grown g.catcher_is).is)

    pub after_catching : IsCaught N t.memory (seen ball) c → StepsTo p ps s (Throws ball (suc i)) t (Goes (Calls k next))
    after_catching so written v j =
        let f = throwing j in
        let g = at_catch i h c k next n frame f in
        let low : View = lower h f.w in
        let count : ℕ = variable_count s.memory.heap in
        let r : List ChoicePoint = last_of h f.w.choice_points in
        let unified : unifier (rename count (seen ball)) g.catcher ≡ Some so.map =
        ap (λ x. unifier (rename x (seen ball)) g.catcher) (sym counted) ∙ ap (λ x. unifier (rename (variable_count N.heap) (seen ball)) x) (sym
        (catcher_there g))
        ∙ so.unified in
        let b : Branch Member = with_map so.map (record { goals = run_body (call g.recovery) h g.saved; terms = g.terms; next = count + width (seen ball) }) in
        let stacked : Stacked ps t.memory low =
        stacked_grows ps N t.memory so.map low so.grown (stacked_grows ps (memory_of s.memory n) N [] low grown g.stacked) in
        let saved : Continues ps N low h next g.saved = continues_plainly (memory_of s.memory n) N grown ps g.saved_goes_on in
        let goals : Continues ps t.memory low (length r) next (map_continuation so.map g.saved) =
        subst (λ x. Continues ps t.memory low x next (map_continuation so.map g.saved)) (sym (as_high h f.w.choice_points g.high))
        (continues_carried N t.memory so.map so.grown ps saved) in
        let terms : AreTrees t.memory f.w.terms (map (apply so.map) g.terms) = trees_carried so.grown (trees_stay grown g.terms_are) in
        record {
          move = at_choices (branch_choice b ∷ r) f.m;
          follows = no_turn p v _ (f.is ∙ ap (λ gs. throw_move (seen ball) count gs f.w.choice_points f.m) g.is
              ∙ caught_so (seen ball) count h g.catcher g.recovery g.saved g.terms g.behind f.w.choice_points f.m so.map unified);
          is_at = at_call {b = b}
              (stacks_change ps (last_of h f.w.choices) (branch_choice b ∷ r) r keeps (record {
                seen = (cuts f.w
                    (choices_of ps f.behind)).seen;
                stacked = stacked;
              }) f.behind)
              refl (record { terms = terms; next = ap (λ x. x + width (seen ball)) (sym counted) ∙ sym so.counted })
              (tree_grows so.grown (tree_stays grown g.recovery_is)) refl goals refl;
        }

    pub after_not_catching : IsNotCaught N t.memory (seen ball) c → StepsTo p ps s (Throws ball (suc i)) t (Goes (Throws ball next))
    after_not_catching fails written v j =
        let f = throwing j in
        let g = at_catch i h c k next n frame f in
        let low : View = lower h f.w in
        let count : ℕ = variable_count s.memory.heap in
        let r : List ChoicePoint = last_of h f.w.choice_points in
        let unlike : unifier (rename count (seen ball)) g.catcher ≡ None =
        ap (λ x. unifier (rename x (seen ball)) g.catcher) (sym counted) ∙ ap (λ x. unifier (rename (variable_count N.heap) (seen ball)) x) (sym
        (catcher_there g))
        ∙ fails.unlike in
        let stacked : Stacked ps t.memory low =
        subst (λ X. Stacked ps X low) (sym fails.same) (stacked_grows ps (memory_of s.memory n) N [] low grown g.stacked) in
        let saved : Continues ps N low h next g.saved = continues_plainly (memory_of s.memory n) N grown ps g.saved_goes_on in
        let goals : Continues ps t.memory low (length r) next g.saved =
        subst (λ X. Continues ps X low (length r) next g.saved) (sym fails.same)
        (subst (λ x. Continues ps N low x next g.saved) (sym (as_high h f.w.choice_points g.high)) saved) in
        let same_count : count ≡ variable_count t.memory.heap = sym counted ∙ ap (λ (X : Contents). variable_count X.heap) (sym fails.same) in
        record {
          move = throw_move (seen ball) count g.saved r f.m;
          follows = no_turn p v _ (f.is ∙ ap (λ gs. throw_move (seen ball) count gs f.w.choice_points f.m) g.is
              ∙ not_caught (seen ball) count h g.catcher g.recovery g.saved g.terms g.behind f.w.choice_points f.m unlike);
          is_at = at_ball {m = f.m}
              (stacks_change ps (last_of h f.w.choices) f.m.choice_points r keeps (record {
                seen = (cuts f.w
                    (choices_of ps f.behind)).seen;
                stacked = stacked;
              }) f.behind)
              f.valid goals (ap (λ x. throw_move (seen ball) x g.saved r f.m) same_count);
        }

-- what is known at a `catch/3`
pub record CatchFacts (s : Machine) (ball : Term) (n : Moment) (c : ℕ) : Type 0 where
  pub moment : IsMoment s.memory n
  pub valid : IsTrue (is_valid (seen ball))
  pub inside : c < cell_count (memory_of s.memory n).heap

pub catch_facts : {s : Machine} {ball : Term} {h c k next : ℕ} {n : Moment} → IsCatch s ball h n c k next → CatchFacts s ball n c
catch_facts {h = h} {c = c} {k = k} {next = next} {n = n} x =
    let ps = x.2.0 in
    let f = throwing ps x.2.1.2 in
    let g = at_catch ps x.0 h c k next n x.1 f in
    record { moment = g.moment; valid = f.valid; inside = g.catcher_is.inside }
