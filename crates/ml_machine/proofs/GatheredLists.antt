-- The list of copies is unified with the wanted one.
use Rattle.std.specs.Prelude.{◌≡◌, ℕ, ◌<◌, Bool, true, false, List, [], length, map, take, Option, Some, None}
use Rattle.std.specs.Option.{is_some}
use Rattle.std.proofs.Common.{refl, sym, ap, ◌∙◌, arith}
use Rattle.ml_term.specs.Tree.{Tree}
use Rattle.ml_term.specs.Unify.{Map, apply, unifier}
use Rattle.ml_search.specs.ListTerms.{list_term}
use Rattle.ml_heap.specs.Changes.{Changes, trees, cell_count, variable_count, stands_for, KeepsMarks, HasTree, Grows as HeapGrows}
use Rattle.ml_heap.proofs.CarriedTrees.{carries_grown, carries_unified, carries_go_on}
use Rattle.ml_heap.proofs.StoredTerms.{grows_on}
use Rattle.ml_stack.specs.Memories.{Contents, IsMoment, memory_of, now_of, tree}
use Rattle.ml_stack.proofs.Moments.{moment_now, is_moment_now}
use Rattle.ml_machine.specs.AnswersGathered.{AreCopied, list_of_copies, IsGathered, IsNotGathered}
use Rattle.ml_machine.proofs.HeapsGrown.{with_heap, heap_grows}

-- answers were copied, a list was made of them, and its cell unified with the wanted one
pub record IsListed (M : Contents) (h i k : Changes) (cells : List ℕ) (list made : ℕ) (fs : List (List Tree)) (alike : Bool) : Type 0 where
  pub inside : list < cell_count M.heap
  pub copied : AreCopied M.heap h cells fs
  pub listed : HasTree h i made (list_term (map (stands_for h) cells))
  pub counted : variable_count i ≡ variable_count h
  pub alike_is : alike ≡ is_some (unifier (stands_for i list) (stands_for i made))
  pub replaced : (m : Map) → unifier (stands_for i list) (stands_for i made) ≡ Some m → trees k ≡ map (apply m) (trees i)
  pub marks : KeepsMarks i k
  pub same_count : variable_count k ≡ variable_count i

module _ (M : Contents) (h i k : Changes) (cells : List ℕ) (list made : ℕ) (fs : List (List Tree)) where
  same_terms : {alike : Bool} → IsListed M h i k cells list made fs alike →
      unifier (stands_for i list) (stands_for i made) ≡ unifier (tree M list) (list_of_copies M fs)
  same_terms u =
      let there : list < cell_count h = omega (arith, u.inside, u.copied.grown.cells) in
      ap (λ x. unifier x (stands_for i made)) (u.listed.grown.others list there ∙ u.copied.grown.others list u.inside)
      ∙ ap (λ x. unifier (tree M list) x) (u.listed.stands ∙ ap list_term u.copied.are)

  some_found : (o : Option Map) → true ≡ is_some o → (m : Map) × (o ≡ Some m)
  some_found None e = absurd (cc e)
  some_found (Some m) e = (m, refl)

  none_found : (o : Option Map) → false ≡ is_some o → o ≡ None
  none_found None e = refl
  none_found (Some m) e = absurd (cc e)

  grown : {alike : Bool} → IsListed M h i k cells list made fs alike → HeapGrows M.heap i
  grown u = grows_on M.heap h i u.copied.grown u.listed.grown

  pub gathered : (alike : Bool) → alike ≡ true → IsListed M h i k cells list made fs alike → IsGathered M (with_heap M k) list fs
  gathered alike is u =
      let s = some_found (unifier (stands_for i list) (stands_for i made)) (sym is ∙ u.alike_is) in
      record {
        map = s.0;
        unified = sym (same_terms u) ∙ s.1;
        grown = heap_grows M k s.0
            (carries_go_on M.heap i k [] s.0 (carries_grown M.heap i (grown u)) (carries_unified i k s.0 (u.replaced s.0 s.1) u.marks));
        counted = u.same_count ∙ u.counted ∙ u.copied.counted;
      }

  pub before_is : {alike : Bool} → IsListed M h i k cells list made fs alike → IsMoment (with_heap M k) (now_of M) × (memory_of (with_heap M k) (now_of M) ≡ M)
  before_is u =
      let a = (grown u).marks (length M.heap) (omega (arith)) in
      let b = u.marks (length M.heap) a.0 in
      let j = is_moment_now M in (
        record { mark = b.0; frames = j.frames; slots = j.slots; saved = j.saved; codes = j.codes },
        ap (λ x. record {
          heap = x;
          frames = take (length M.frames) M.frames;
          slots = take (length M.slots) M.slots;
          saved = take (length M.saved) M.saved;
          codes = take (length M.codes) M.codes;
        }) (b.1 ∙ a.1) ∙ moment_now M,
      )

  pub not_gathered : (alike : Bool) (N : Contents) → alike ≡ false → N ≡ memory_of (with_heap M k) (now_of M) → IsListed M h i k cells list made fs alike →
      IsNotGathered M N list fs
  not_gathered alike N is back u = record {
    unlike = sym (same_terms u) ∙ none_found (unifier (stands_for i list) (stands_for i made)) (sym is ∙ u.alike_is);
    same = back ∙ (before_is u).1;
  }
