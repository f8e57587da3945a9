-- A ball at the end of a continuation: it leaves a `findall/3`, or the search is over.
use Rattle.std.specs.Prelude.{◌≡◌, ℕ, ◌≤◌, List, [], ◌∷◌, length, reverse, Some, IsTrue}
use Rattle.std.proofs.Common.{refl, sym, ap, ◌∙◌, subst}
use Rattle.std.proofs.lemmas.List.{length-map}
use Rattle.ml_term.specs.Tree.{Tree}
use Rattle.ml_term.specs.Seen.{seen}
use Rattle.ml_term.specs.Valid.{is_valid}
use Rattle.ml_term.specs.declared.term.Term.{Term}
use Rattle.ml_search.specs.Program.{Program}
use Rattle.ml_search.specs.Actions.{ball as ball_end, Branch}
use Rattle.ml_asking.specs.Asking.{Member, FindallFrame, AskingSearch, finish}
use Rattle.ml_asking.specs.TurnWords.{throw_move, resume_from}
use Rattle.ml_asking.proofs.TurnRows.{out_of_findall, out_of_all}
use Rattle.ml_heap.specs.Changes.{Changes, heap_of_mark, variable_count}
use Rattle.ml_stack.specs.declared.level.Level.{Level}
use Rattle.ml_stack.specs.declared.level.Stacks.{Stacks}
use Rattle.ml_stack.specs.declared.level.FindallEnd.{FindallEnd}
use Rattle.ml_stack.specs.Memories.{Contents, AreTrees, IsTree, tree, CompiledProcedure}
use Rattle.ml_stack.specs.Stands.{View, IsBranch, of_link}
use Rattle.ml_stack.specs.Answers.{AreCopies, Keeps, outermost, inside}
use Rattle.ml_stack.specs.Levels.{StacksStand, StacksStandForSome, HandsOver, GivesBack, IsBack, outer_view}
use Rattle.ml_stack.proofs.ListEnds.{reverse_more}
use Rattle.ml_stack.proofs.TakenApart.{continues_end}
use Rattle.ml_stack.proofs.WaitingLevels.{last_taken_back}
use Rattle.ml_machine.specs.declared.machine.Machine.{Machine}
use Rattle.ml_machine.specs.declared.position.Position.TheVariants.{Throws}
use Rattle.ml_machine.specs.declared.position.Ended.TheVariants.{Ball}
use Rattle.ml_machine.specs.declared.position.Then.TheVariants.{Goes, Over}
use Rattle.ml_machine.specs.Positions.{IsBehind, at_ball, AskForOne, StandsForAny}
use Rattle.ml_machine.specs.Steps.{LeadsTo, StepsTo}
use Rattle.ml_machine.proofs.MovesFollowed.{no_turn}
use Rattle.ml_machine.proofs.LinkTurns.{all_written}
use Rattle.ml_machine.proofs.BallsThrown.{throwing}

-- what the search inside a `findall/3` keeps, and what is kept without it
pub record KeepsInside (h : Changes) (l : Level) (ls : List Level) (o : FindallFrame) (os : List FindallFrame) (found written : List (List Tree)) : Type 0 where
  pub kept : l.kept ≤ length h
  pub copies : AreCopies h l.found.items found
  pub outside : Keeps (heap_of_mark h l.kept) ls os o.found written

pub keeps_inside : {h : Changes} {ks : List Level} {ps : List FindallFrame} {found written : List (List Tree)} (l : Level) (ls : List Level) (o : FindallFrame)
    (os : List FindallFrame) → ks ≡ l ∷ ls → ps ≡ o ∷ os → Keeps h ks ps found written → KeepsInside h l ls o os found written
keeps_inside l ls o os e f (outermost p) = absurd (none e)
  where
    none : [] ≡ l ∷ ls → ⊥
    none e = cc
keeps_inside {h = h} {found = found} {written = written} l ls o os e f (inside {l = k} {ls = ks} {o = p} {os = ps} i c r) =
    let same_level : k ≡ l = level e in
    let same_levels : ks ≡ ls = levels e in
    let same_frame : p ≡ o = frame f in
    let same_frames : ps ≡ os = frames f in
    record {
      kept = subst (λ (x : Level). x.kept ≤ length h) same_level i;
      copies = subst (λ (x : Level). AreCopies h x.found.items found) same_level c;
      outside =
          subst (λ (x : Level). Keeps (heap_of_mark h x.kept) ls os o.found written) same_level
          (subst (λ xs. Keeps (heap_of_mark h k.kept) xs os o.found written) same_levels
          (subst (λ xs. Keeps (heap_of_mark h k.kept) ks xs o.found written) same_frames
          (subst (λ (x : FindallFrame). Keeps (heap_of_mark h k.kept) ks ps x.found written) same_frame r)));
    }
  where
    level : k ∷ ks ≡ l ∷ ls → k ≡ l
    level e = cc

    levels : k ∷ ks ≡ l ∷ ls → ks ≡ ls
    levels e = cc

    frame : p ∷ ps ≡ o ∷ os → p ≡ o
    frame e = cc

    frames : p ∷ ps ≡ o ∷ os → ps ≡ os
    frames e = cc

-- cells and their trees are as many
many_trees : {M : Contents} {rs : List ℕ} {ts : List Tree} → AreTrees M rs ts → length ts ≡ length rs
many_trees {M = M} {rs = rs} i = ap length i.are ∙ length-map rs (tree M)

terms_of : {ps : List CompiledProcedure} {M : Contents} {w : View} {l : ℕ} {b : Branch Member} → IsBranch ps M w l b → length b.terms ≡ length w.terms
terms_of (of_link c h) = many_trees h.terms

same_first : (o p : FindallFrame) (os qs : List FindallFrame) → o ∷ os ≡ p ∷ qs → o ≡ p
same_first o p os qs e = cc

-- each of the searches that wait asks for as many terms as before
asks_for_one : (ts : List ℕ) (l : Level) (ls ks : List Level) → ks ≡ l ∷ ls → AskForOne ts ks → AskForOne l.terms.items ls
asks_for_one ts l ls ks e a = (subst (λ xs. AskForOne ts xs) e a).1

for_as_many : (ts us : List ℕ) (ls : List Level) → length us ≡ length ts → AskForOne ts ls → AskForOne us ls
for_as_many ts us [] e a = tt
for_as_many ts us (l ∷ ls) e a = (e ∙ a.0, a.1)

module _ (ps : List CompiledProcedure) where
  -- a search that waits is taken back, and goes on as a machine
  pub record IsTakenOut (s : Machine) (N : Contents) (k : Stacks) (end : FindallEnd) (written : List (List Tree)) (m : AskingSearch) (w : View) : Type 0 where
    pub o : FindallFrame
    pub os : List FindallFrame
    pub frames : m.frames ≡ o ∷ os
    pub kept : end.kept ≤ length s.answers
    pub found : AreCopies s.answers end.found.items m.found
    pub stands : StacksStand ps N k (outer_view k o os)
    pub branch : IsBranch ps N (outer_view k o os) end.next o.branch
    pub keeps : Keeps (heap_of_mark s.answers end.kept) (reverse k.levels.items) os o.found written
    pub asks : AskForOne k.terms.items (reverse k.levels.items)
    pub list : IsTree N end.list o.list

  pub taken_out : {s : Machine} {written : List (List Tree)} {m : AskingSearch} {w : View} (N : Contents) (k : Stacks) (end : FindallEnd) →
      HandsOver s.stacks k (Some end) → ((w : View) → StacksStand ps s.memory s.stacks w → GivesBack ps N k w (Some end)) → IsBehind ps s written m w →
      IsTakenOut s N k end written m w
  taken_out {s = s} {written = written} {m = m} {w = w} N k end hands gives i =
      let l : Level = hands.0 in
      let ls : List Level = reverse k.levels.items in
      let back : IsBack ps N k w end = gives w i.stacks in
      let was = last_taken_back ps s.stacks l k.levels.items hands.1 i.stacks in
      let levels : w.levels ≡ l ∷ ls = i.stacks.levels ∙ reverse_more k.levels.items s.stacks.levels.items l hands.1 in
      let inner = keeps_inside l ls back.o back.os levels back.findalls i.found in
      let kept : l.kept ≡ end.kept = sym hands.2 in
      let same : was.o ≡ back.o = same_first was.o back.o was.os back.os (sym was.waits ∙ back.findalls) in
      let many : length k.terms.items ≡ length l.terms.items =
      sym (terms_of back.branch) ∙ ap (λ (x : FindallFrame). length x.branch.terms) (sym same) ∙ terms_of was.branch in
      record {
        o = back.o;
        os = back.os;
        frames = i.frames ∙ back.findalls;
        kept = subst (λ n. n ≤ length s.answers) kept inner.kept;
        found = subst (λ rs. AreCopies s.answers rs m.found) (ap (λ v. v.items) (sym hands.3)) inner.copies;
        stands = back.stands;
        branch = back.branch;
        keeps = subst (λ n. Keeps (heap_of_mark s.answers n) ls back.os back.o.found written) kept inner.outside;
        asks = for_as_many l.terms.items k.terms.items ls many (asks_for_one w.terms l ls w.levels levels i.asks);
        list = back.list;
      }

  module _ (p : Program) (s t : Machine) (ball : Term) where
    pub ball_ends : s.stacks.levels.items ≡ [] → ((w : View) → StacksStand ps s.memory s.stacks w → w.findalls ≡ []) → t.left ≡ s.left →
        StepsTo p ps s (Throws ball 0) t (Over (Ball ball))
    ball_ends none alone left written v j =
        let f = throwing ps j in
        let n : ℕ = variable_count s.memory.heap in
        let frames : f.m.frames ≡ [] = f.behind.frames ∙ alone f.w f.behind.stacks in
        let found : f.m.found ≡ written = all_written (f.behind.stacks.levels ∙ ap reverse none) f.behind.found in
        no_turn p v _ (f.is ∙ ap (λ gs. throw_move (seen ball) n gs f.w.choice_points f.m) (continues_end ps f.goals)
        ∙ out_of_all (seen ball) n f.w.choice_points f.m frames
        ∙ ap (λ x. finish (record { found = x; end = ball_end (seen ball); left = f.m.left })) found
        ∙ ap (λ x. finish (record { found = written; end = ball_end (seen ball); left = x })) (f.behind.left ∙ sym left))

    pub ball_leaves : (end : FindallEnd) → HandsOver s.stacks t.stacks (Some end) →
        ((w : View) → StacksStand ps s.memory s.stacks w → GivesBack ps t.memory t.stacks w (Some end)) →
        t.answers ≡ heap_of_mark s.answers end.kept → t.left ≡ s.left → StepsTo p ps s (Throws ball 0) t (Goes (Throws ball end.next))
    ball_leaves end hands gives answers left written v j =
        let f = throwing ps j in
        let n : ℕ = variable_count s.memory.heap in
        let k = taken_out t.memory t.stacks end hands gives f.behind in
        let m : AskingSearch = resume_from k.o k.os f.m.left in
        let behind : IsBehind ps t written m (outer_view t.stacks k.o k.os) = record {
          stacks = k.stands;
          frames = refl;
          left = f.behind.left ∙ sym left;
          found = subst (λ h. Keeps h (reverse t.stacks.levels.items) k.os k.o.found written) (sym answers) k.keeps;
          asks = k.asks;
        } in
        leaves k.branch behind f.valid (f.is ∙ ap (λ gs. throw_move (seen ball) n gs f.w.choice_points f.m) (continues_end ps f.goals)
        ∙ out_of_findall (seen ball) n f.w.choice_points f.m k.o k.os k.frames)
      where
        leaves : {w : View} {b : Branch Member} {m : AskingSearch} → IsBranch ps t.memory w end.next b → IsBehind ps t written m w →
            IsTrue (is_valid (seen ball)) →
            v ≡ throw_move (seen ball) b.next b.goals w.choice_points m → LeadsTo p ps t written v (Throws ball end.next)
        leaves {w = w} {b = b} {m = m} (of_link c h) i valid e = record {
          move = throw_move (seen ball) b.next b.goals w.choice_points m;
          follows = no_turn p v _ e;
          is_at = at_ball i valid c (ap (λ x. throw_move (seen ball) x b.goals w.choice_points m) h.next);
        }

  -- stacks stand for something, and what was kept is there
  pub some_stacks : {s : Machine} {ball : Term} {l : ℕ} → StandsForAny s (Throws ball l) → StacksStandForSome s.memory s.stacks
  some_stacks h = let f = throwing h.0 h.1.2 in (h.0, f.w, f.behind.stacks)
