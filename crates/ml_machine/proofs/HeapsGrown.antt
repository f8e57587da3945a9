-- Memory whose heap alone changes, and a ball that is tried at a catcher.
use Rattle.std.specs.Prelude.{◌≡◌, ℕ, ◌+◌, ◌<◌, Bool, true, false, [], length, map, take, Option, Some, None}
use Rattle.std.specs.Option.{is_some}
use Rattle.std.proofs.Common.{refl, sym, ap, ◌∙◌, arith, append-nil}
use Rattle.ml_term.specs.Tree.{Tree, rename, width}
use Rattle.ml_term.specs.Unify.{Map, apply, unifier}
use Rattle.ml_heap.specs.Changes.{Changes, trees, cell_count, variable_count, stands_for, KeepsMarks, HasTree}
use Rattle.ml_heap.specs.Carries.{Carries}
use Rattle.ml_heap.proofs.CarriedTrees.{carries_same, carries_stored, carries_unified, carries_go_on}
use Rattle.ml_stack.specs.Memories.{Contents, IsMoment, memory_of, now_of, Grows, tree}
use Rattle.ml_stack.proofs.Moments.{moment_now, is_moment_now}
use Rattle.ml_machine.specs.BallsCaught.{IsCaught, IsNotCaught}

-- a memory with another heap
abbrev pub with_heap : Contents → Changes → Contents
with_heap M h = record { heap = h; frames = M.frames; slots = M.slots; saved = M.saved; codes = M.codes }

pub heap_grows : (M : Contents) (h : Changes) (u : Map) → Carries M.heap h u → Grows M (with_heap M h) u
heap_grows M h u c = record {
  heap = c;
  frames = ([], sym (append-nil M.frames));
  slots = ([], sym (append-nil M.slots));
  saved = ([], sym (append-nil M.saved));
  codes = ([], sym (append-nil M.codes));
}

pub numbers_grow : (M : Contents) (h : Changes) → trees h ≡ trees M.heap → KeepsMarks M.heap h → Grows M (with_heap M h) []
numbers_grow M h e k = heap_grows M h [] (carries_same M.heap h e k)

-- a ball was stored, and its cell unified with a catcher's
pub record IsUnified (M : Contents) (h k : Changes) (r catcher : ℕ) (t : Tree) (found : Bool) : Type 0 where
  pub inside : catcher < cell_count M.heap
  pub stored : HasTree M.heap h r (rename (variable_count M.heap) t)
  pub counted : variable_count h ≡ variable_count M.heap + width t
  pub found_is : found ≡ is_some (unifier (stands_for h r) (stands_for h catcher))
  pub replaced : (m : Map) → unifier (stands_for h r) (stands_for h catcher) ≡ Some m → trees k ≡ map (apply m) (trees h)
  pub marks : KeepsMarks h k
  pub same_count : variable_count k ≡ variable_count h

module _ (M : Contents) (h k : Changes) (r catcher : ℕ) (t : Tree) where
  same_terms : {found : Bool} → IsUnified M h k r catcher t found →
      unifier (stands_for h r) (stands_for h catcher) ≡ unifier (rename (variable_count M.heap) t) (tree M catcher)
  same_terms u =
      ap (λ x. unifier x (stands_for h catcher)) u.stored.stands
      ∙ ap (λ x. unifier (rename (variable_count M.heap) t) x) (u.stored.grown.others catcher u.inside)

  some_found : (o : Option Map) → true ≡ is_some o → (m : Map) × (o ≡ Some m)
  some_found None e = absurd (cc e)
  some_found (Some m) e = (m, refl)

  none_found : (o : Option Map) → false ≡ is_some o → o ≡ None
  none_found None e = refl
  none_found (Some m) e = absurd (cc e)

  pub caught : (found : Bool) → found ≡ true → IsUnified M h k r catcher t found → IsCaught M (with_heap M k) t catcher
  caught found is u =
      let s = some_found (unifier (stands_for h r) (stands_for h catcher)) (sym is ∙ u.found_is) in
      record {
        map = s.0;
        unified = sym (same_terms u) ∙ s.1;
        grown = heap_grows M k s.0
            (carries_go_on M.heap h k [] s.0 (carries_stored M.heap h r (rename (variable_count M.heap) t) u.stored)
            (carries_unified h k s.0 (u.replaced s.0 s.1) u.marks));
        counted = u.same_count ∙ u.counted;
      }

  all_marks : {found : Bool} → IsUnified M h k r catcher t found → KeepsMarks M.heap k
  all_marks u m l =
      let a = u.stored.grown.marks m l in
      let b = u.marks m a.0 in
      (b.0, b.1 ∙ a.1)

  pub before_stays : {found : Bool} → IsUnified M h k r catcher t found → IsMoment (with_heap M k) (now_of M) × (memory_of (with_heap M k) (now_of M) ≡ M)
  before_stays u =
      let a = all_marks u (length M.heap) (omega arith) in
      let i = is_moment_now M in (
        record { mark = a.0; frames = i.frames; slots = i.slots; saved = i.saved; codes = i.codes },
        ap (λ x. record {
          heap = x;
          frames = take (length M.frames) M.frames;
          slots = take (length M.slots) M.slots;
          saved = take (length M.saved) M.saved;
          codes = take (length M.codes) M.codes;
        }) a.1 ∙ moment_now M,
      )

  pub not_caught : (found : Bool) (N : Contents) → found ≡ false → N ≡ memory_of (with_heap M k) (now_of M) → IsUnified M h k r catcher t found →
      IsNotCaught M N t catcher
  not_caught found N is back u = record {
    unlike = sym (same_terms u) ∙ none_found (unifier (stands_for h r) (stands_for h catcher)) (sym is ∙ u.found_is);
    same = back ∙ (before_stays u).1;
  }
