-- At the end the value is at home, and it has all that the closing seat knows.
use Rattle.std.proofs.Common.{◌≡◌, ℕ, suc, ◌<◌, ◌≤◌, List, [], ◌∷◌, length, refl, ap, sym, ◌∙◌, arith, Option, Some, None, Contains}
use mathlib.Core.Logic.{dite}
use mathlib.Core.List.{IsPrefix}
use mathlib.Core.Option.{some, some-injective}
use mathlib.Core.Option as maybe
use native.Mathlib.Decide.{ℕ_discrete}
use lib.ListN.{get_elem?}
use Rattle.atomic_table.specs.Table.{State, Final, Seen}
use Rattle.ml_latch.specs.declared.view.View.{View}
use Rattle.ml_latch.specs.Rule.{home, IsInTurns}
use Rattle.ml_latch.proofs.ListLemmas.{there_is}

module _ {X E N B : Type 0} (past : X → List E) (own : X → ℕ → List N) (base : X → B) where
  -- What the value that comes out at the end is, for the seat that closed the latch.
  pub record IsLeftTo (start : X) (v : View X E N) (x : X) : Type 0 where
    pub begins : IsPrefix v.seen (past x)
    pub base_is : base x ≡ base start
    pub own_is : own x 0 ≡ v.own
    pub kept : (n : ℕ) (notes : List N) → Contains v.kept (n, notes) → own x n ≡ notes
    pub others : (n : ℕ) → v.given < n → own x n ≡ own start n

  -- where the seat 0 has no turn and took every other seat in, nobody has a turn
  nobody_is_left : (start : X) (s : State (Option X) (View X E N)) (r : IsInTurns past own base start s) (id : ℕ) (v : View X E N)
      → get_elem? s.views id ≡ some v → id ≡ 0 → v.start ≡ Some start → v.taken ≡ None
      → ((n : ℕ) → 0 < n → n ≤ v.given → (notes : List N) × Contains v.kept (n, notes))
      → length s.views ≡ suc v.given
      → (o : Option ℕ) → r.taker ≡ o → o ≡ None
  nobody_is_left start s r id v at first begun free all count None e = refl
  nobody_is_left start s r id v at first begun free all count (Some q) e =
      let inside : q < length s.views = r.there q e in
      let u = there_is s.views q inside in
      let has = (r.each q u.0 u.1).turn e in
      let alive = ((r.each q u.0 u.1).ticket r.passed has.1).2 in
      dite (ℕ_discrete q id)
      (λ same. let mine = ((r.each id v at).turn (e ∙ ap Some same)).0 in absurd (cc (mine, free)))
      (λ other.
      let took = all q (omega (arith, first, other)) (omega (arith, inside, count)) in
      let spent = (((r.each id v at).knows start begun).kept q took.0 took.1).1 in
      let one : spent.0 ≡ u.0 = some-injective spent.0 u.0 (sym spent.1 ∙ u.1) in
      let still : spent.0.start ≡ Some start = ap (λ (y : View X E N). y.start) one ∙ alive in
      absurd (let n = spent.2 in cc (still, n)))

  pub closes : (start : X) (id : ℕ) (v : View X E N) → v.number ≡ 0 → v.start ≡ Some start → v.taken ≡ None
      → ((n : ℕ) → 0 < n → n ≤ v.given → (notes : List N) × Contains v.kept (n, notes))
      → (ws : List ℕ) (xs : List (Option X)) → Final (Seen (IsInTurns past own base start) id v) ws xs
      → (x : X) × (get_elem? xs 0 ≡ some (Some x)) × IsLeftTo start v x
  closes start id v first begun free all ws xs final =
      let s = final.0 in
      let r = final.1.0 in
      let at = final.1.1 in
      let known = (r.each id v at).knows start begun in
      let here : id ≡ 0 = sym known.number ∙ first in
      let count : length s.views ≡ suc v.given = known.counts here in
      let nobody : r.taker ≡ None = nobody_is_left start s r id v at here begun free all count r.taker refl in
      let homes : s.homes ≡ some (Some r.value) ∷ [] = r.homes ∙ ap (λ (o : Option ℕ). home o r.value ∷ []) nobody in (
        r.value,
        final.4 0 (Some r.value) (ap (λ (hs : List (maybe.Option (Option X))). get_elem? hs 0) homes),
        record {
          begins = known.seen;
          base_is = r.base_is;
          own_is = ap (own r.value) (sym here) ∙ known.own_is;
          kept = λ n notes c. (known.kept n notes c).0;
          others = λ n beyond. r.fresh n (omega arith);
        },
      )
