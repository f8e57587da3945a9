-- An answer that is kept inside a `findall/3`. What waits there stands as before: no part of it speaks of the answers found.
use Rattle.std.specs.Prelude.{◌≡◌, ℕ, ◌<◌, List, [], ◌∷◌, ◌++◌, length, map, reverse, Some, slice_get, Vec}
use Rattle.std.specs.declared.alloc.Global.{Global}
use Rattle.std.proofs.Common.{refl, sym, ap, ◌∙◌, subst, arith}
use Rattle.ml_term.specs.Tree.{Tree, rename}
use Rattle.ml_search.specs.Program.{Program}
use Rattle.ml_search.specs.Actions.{Continuation, Branch}
use Rattle.ml_asking.specs.Asking.{Member, ChoicePoint, FindallFrame, AskingSearch, go_on}
use Rattle.ml_asking.proofs.TurnRows.{answer_turns}
use Rattle.ml_heap.specs.Changes.{Changes, variable_count, cell_count, Grows as HeapGrows, HasTree}
use Rattle.ml_stack.specs.declared.choice.Left.{Left}
use Rattle.ml_stack.specs.declared.frame.At.{At}
use Rattle.ml_stack.specs.declared.frame.Frame.{Frame}
use Rattle.ml_stack.specs.declared.level.Level.{Level}
use Rattle.ml_stack.specs.Memories.{Contents, AreInside, tree, CompiledProcedure}
use Rattle.ml_stack.specs.Stands.{View, Continues, ends, goes, Holds, of_body, of_cut, of_refute, of_caught, Runs, at_end, at_body}
use Rattle.ml_stack.specs.Stands.{IsBranch, of_link, IsLeft, of_goes, of_clauses, of_items, Stacked, bottom, above, Waiting, nobody, somebody}
use Rattle.ml_stack.specs.Answers.{IsCopy, AreCopies, no_copy, one_copy, Keeps, outermost, inside}
use Rattle.ml_stack.proofs.ListEnds.{reverse_more}
use Rattle.ml_stack.proofs.TakenApart.{continues_end}
use Rattle.ml_machine.specs.declared.machine.Machine.{Machine}
use Rattle.ml_machine.specs.declared.position.Position.TheVariants.{Goes as GoesAt, Fails}
use Rattle.ml_machine.specs.declared.position.Then.TheVariants.{Goes}
use Rattle.ml_machine.specs.Positions.{IsBehind, at_failure, AskForOne, StandsForSome}
use Rattle.ml_machine.specs.Steps.{StepsTo}
use Rattle.ml_machine.proofs.MovesFollowed.{no_turn, turn_follows}
use Rattle.ml_machine.proofs.LinkTurns.{linked}

-- a level with other answers
abbrev pub with_found : Level → Vec ℕ Global → Level
with_found l f = record l { found = f }

module _ (ps : List CompiledProcedure) (l : Level) (f : Vec ℕ Global) (ls : List Level) where
  -- a view whose first level has other answers
  abbrev pub view_found : View → View
  view_found w = record {
    choices = w.choices;
    choice_points = w.choice_points;
    terms = w.terms;
    levels = with_found l f ∷ ls;
    findalls = w.findalls;
  }

  waiting_found : {M : Contents} {ks : List Level} {os : List FindallFrame} → ks ≡ l ∷ ls → Waiting ps M ks os → Waiting ps M (with_found l f ∷ ls) os
  waiting_found e nobody = absurd (none e)
    where
      none : [] ≡ l ∷ ls → ⊥
      none e = cc
  waiting_found {M = M} e (somebody {l = k} {ls = ks} {o = o} {os = os} i s b t) =
      again (subst (λ xs. Waiting ps M xs (o ∷ os)) e (somebody i s b t))
    where
      again : {os : List FindallFrame} → Waiting ps M (l ∷ ls) os → Waiting ps M (with_found l f ∷ ls) os
      again (somebody i s b t) = somebody i s b t

  mutual
    continues_found : {M : Contents} {w : View} {n k : ℕ} {gs : Continuation Member} → w.levels ≡ l ∷ ls → Continues ps M w n k gs →
        Continues ps M (view_found w) n k gs
    continues_found e ends = ends
    continues_found e (goes p h) = goes p (holds_found e h)

    holds_found : {M : Contents} {w : View} {n : ℕ} {x : Frame} {gs : Continuation Member} → w.levels ≡ l ∷ ls → Holds ps M w n x gs →
        Holds ps M (view_found w) n x gs
    holds_found e (of_body r) = of_body (runs_found e r)
    holds_found e (of_cut b c) = of_cut b (continues_found e c)
    holds_found e (of_refute b c) = of_refute b (continues_found e c)
    holds_found e (of_caught b i s c g t u ts) = of_caught b i (stacked_found e s) (continues_found e c) (continues_found e g) t u ts

    runs_found : {M : Contents} {w : View} {n : ℕ} {a : At} {gs : Continuation Member} → w.levels ≡ l ∷ ls → Runs ps M w n a gs →
        Runs ps M (view_found w) n a gs
    runs_found e (at_end k p c) = at_end k p (continues_found e c)
    runs_found e (at_body k b s h r q) = at_body k b s h (runs_found e r) q

    branch_found : {M : Contents} {w : View} {k : ℕ} {b : Branch Member} → w.levels ≡ l ∷ ls → IsBranch ps M w k b → IsBranch ps M (view_found w) k b
    branch_found e (of_link c h) = of_link (continues_found e c) (record { terms = h.terms; next = h.next })

    left_found : {M : Contents} {w : View} {x : Left} {c : ChoicePoint} → w.levels ≡ l ∷ ls → IsLeft ps M w x c → IsLeft ps M (view_found w) x c
    left_found e (of_goes b) = of_goes (branch_found e b)
    left_found e (of_clauses p q r s t b) = of_clauses p q r s t (branch_found e b)
    left_found e (of_items t u k b) = of_items t u k (branch_found e b)

    stacked_found : {M : Contents} {w : View} → w.levels ≡ l ∷ ls → Stacked ps M w → Stacked ps M (view_found w)
    stacked_found e (bottom p q r) = bottom p q (waiting_found e r)
    stacked_found e (above p q i x s) = above p q i (left_found e x) (stacked_found e s)

-- copies stay as the answers grow
copies_stay : {h k : Changes} {rs : List ℕ} {found : List (List Tree)} → HeapGrows h k → AreCopies h rs found → AreCopies k rs found
copies_stay g no_copy = no_copy
copies_stay g (one_copy {r = r} c cs) =
    one_copy (record { from = c.from; inside = omega (arith, c.inside, g.cells); is = g.others r c.inside ∙ c.is }) (copies_stay g cs)

one_behind : {h : Changes} {rs : List ℕ} {found : List (List Tree)} (r : ℕ) (t : Tree) → IsCopy h r t → AreCopies h rs found →
    AreCopies h (rs ++ r ∷ []) (found ++ (t ∷ []) ∷ [])
one_behind r t c no_copy = one_copy c no_copy
one_behind r t c (one_copy d ds) = one_copy d (one_behind r t c ds)

-- the answers of levels with one more for the first
more_kept : {h k : Changes} {ks : List Level} {os : List FindallFrame} {found written : List (List Tree)} (l : Level) (ls : List Level) (f : Vec ℕ Global)
    (r : ℕ) (t : Tree) →
    ks ≡ l ∷ ls → f.items ≡ l.found.items ++ r ∷ [] → HeapGrows h k → IsCopy k r t → Keeps h ks os found written →
    Keeps k (with_found l f ∷ ls) os (found ++ (t ∷ []) ∷ []) written
more_kept l ls f r t e more g c (outermost p) = absurd (none e)
  where
    none : [] ≡ l ∷ ls → ⊥
    none e = cc
more_kept {h = h} {k = k} l ls f r t e more g c (inside {l = x} {ls = xs} {o = o} {os = os} {found = found} {written = written} i cs below) =
    again (subst (λ ys. Keeps h ys (o ∷ os) found written) e (inside i cs below))
  where
    again : {os : List FindallFrame} → Keeps h (l ∷ ls) os found written → Keeps k (with_found l f ∷ ls) os (found ++ (t ∷ []) ∷ []) written
    again (inside {o = o} {os = os} i cs below) =
        inside ((g.marks l.kept i).0)
        (subst (λ rs. AreCopies k rs (found ++ (t ∷ []) ∷ [])) (sym more) (one_behind r t c (copies_stay g cs)))
        (subst (λ x. Keeps x ls os o.found written) (sym ((g.marks l.kept i).1)) below)

-- one cell, by its place
one_cell : (rs : List ℕ) (r : ℕ) → length rs ≡ 1 → Some r ≡ slice_get rs 0 → rs ≡ r ∷ []
one_cell [] r e s = absurd (cc s)
one_cell (x ∷ []) r e s = let same : r ≡ x = cc s in ap (λ y. y ∷ []) (sym same)
one_cell (x ∷ y ∷ ys) r e s = absurd (omega (arith, e))

module _ (p : Program) (ps : List CompiledProcedure) (s t : Machine) (l : Level) (rest : List Level) (f : Vec ℕ Global) (wanted r : ℕ)
    (memory : t.memory ≡ s.memory) (choices : t.stacks.choices ≡ s.stacks.choices) (terms : t.stacks.terms ≡ s.stacks.terms) (left : t.left ≡ s.left)
    (was : s.stacks.levels.items ≡ rest ++ l ∷ []) (is : t.stacks.levels.items ≡ rest ++ with_found l f ∷ []) (more : f.items ≡ l.found.items ++ r ∷ [])
    (first : Some wanted ≡ slice_get s.stacks.terms.items 0)
    (copied : HasTree s.answers t.answers r (rename (variable_count s.answers) (tree s.memory wanted))) where
  pub after_keeping : StepsTo p ps s (GoesAt 0) t (Goes Fails)
  after_keeping written v j =
      let x = linked p ps j in
      let w = x.w in
      let ls : List Level = reverse rest in
      let levels : w.levels ≡ l ∷ ls = x.behind.stacks.levels ∙ reverse_more rest s.stacks.levels.items l was in
      let asks : AskForOne w.terms (l ∷ ls) = subst (λ ks. AskForOne w.terms ks) levels x.behind.asks in
      let cells : w.terms ≡ wanted ∷ [] = one_cell w.terms wanted asks.0 (first ∙ ap (λ rs. slice_get rs 0) (sym x.behind.stacks.terms)) in
      let answer : x.b.terms ≡ tree s.memory wanted ∷ [] = x.terms.terms.are ∙ ap (map (tree s.memory)) cells in
      let copy : IsCopy t.answers r (tree s.memory wanted) = record { from = variable_count s.answers; inside = copied.inside; is = copied.stands } in
      let found : List (List Tree) = x.m.found ++ x.b.terms ∷ [] in
      let now : AskingSearch = record { choice_points = w.choice_points; found = found; left = x.m.left; frames = x.m.frames } in
      let u : View = view_found ps l f ls w in
      let kept : Keeps t.answers (with_found l f ∷ ls) w.findalls found written =
      subst (λ y. Keeps t.answers (with_found l f ∷ ls) w.findalls (x.m.found ++ y ∷ []) written) (sym answer)
      (more_kept l ls f r (tree s.memory wanted) levels more copied.grown copy x.behind.found) in
      let behind : IsBehind ps t written now u = record {
        stacks = record {
          choices = x.behind.stacks.choices ∙ ap (λ cs. reverse cs.items) (sym choices);
          terms = x.behind.stacks.terms ∙ ap (λ rs. rs.items) (sym terms);
          levels = sym (reverse_more rest t.stacks.levels.items (with_found l f) is);
          stacked = subst (λ M. Stacked ps M u) (sym memory) (stacked_found ps l f ls levels x.behind.stacks.stacked);
        };
        frames = x.behind.frames;
        left = x.behind.left ∙ sym left;
        found = kept;
        asks = asks;
      } in
      record {
        move = go_on now;
        follows = turn_follows p v _ x.m (no_turn p v _ x.is) (answer_turns p x.m x.b w.choice_points x.choice_points (continues_end ps x.goals));
        is_at = at_failure behind refl refl;
      }

-- the first cell is one of memory
first_inside : (M : Contents) (rs : List ℕ) (r : ℕ) → Some r ≡ slice_get rs 0 → AreInside M rs → r < cell_count M.heap
first_inside M [] r e i = absurd (cc e)
first_inside M (x ∷ xs) r e i = let same : r ≡ x = cc e in omega (arith, same, i.0)

pub wanted_inside : {ps : List CompiledProcedure} {s : Machine} (wanted : ℕ) → Some wanted ≡ slice_get s.stacks.terms.items 0 → StandsForSome ps s (GoesAt 0) →
    wanted < cell_count s.memory.heap
wanted_inside {ps = ps} {s = s} wanted e h =
    let x = linked (record { decls = []; clauses = [] }) ps h.2 in
    first_inside s.memory s.stacks.terms.items wanted e (subst (λ rs. AreInside s.memory rs) x.behind.stacks.terms x.terms.terms.inside)
