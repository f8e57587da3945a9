-- A run by its turns: what a machine's run gives is what its first turn leads to.
use Rattle.std.specs.Prelude.{◌≡◌, ℕ, zero, suc, ◌<◌, ◌≤◌, ◌+◌, true, false, Bool, nat_lt, ◌⊎◌}
use Rattle.std.proofs.Common.{inl, inr, refl, sym, ap, subst, arith}
use Rattle.std.proofs.Math.Path.{path_j, subst_refl}
use Rattle.std.proofs.lemmas.Bool.{ltb-true, ltb-false}
use Rattle.ml_term.specs.Runs.{Next, now, ask, result_or, follow_turn, run_within, run_below, run}
use Rattle.ml_term.specs.Falling.{FallsTo, FallsBelow, Falls, AlwaysFalls, HoldsNext, HoldsAfter}

module _ {S R : Type 0} (turn : S → Next S R) where
  -- the runs of a machine, turn by turn
  mutual
    pub data Runs : S → R → Type 0 where
      turned : {s : S} {r : R} → Follows (turn s) r → Runs s r

    pub data Follows : Next S R → R → Type 0 where
      at_once : {x : R ⊎ S} {r : R} → Goes x r → Follows (now x) r
      asked : {t : S} {k : R → R ⊎ S} {r : R} (q : R) → Runs t q → Goes (k q) r → Follows (ask t k) r

    pub data Goes : R ⊎ S → R → Type 0 where
      over : {r : R} → Goes (inl r) r
      goes : {t : S} {r : R} → Runs t r → Goes (inr t) r

  mutual
    pub one_run : {s : S} {r r' : R} → Runs s r → Runs s r' → r ≡ r'
    one_run (turned f) (turned f') = one_follow f f'

    pub one_follow : {x : Next S R} {r r' : R} → Follows x r → Follows x r' → r ≡ r'
    one_follow (at_once g) (at_once g') = one_go g g'
    one_follow (asked {k = k} {r = r} q h g) (asked q' h' g') = one_go (subst (λ z. Goes (k z) r) (one_run h h') g) g'

    pub one_go : {x : R ⊎ S} {r r' : R} → Goes x r → Goes x r' → r ≡ r'
    one_go over over = refl
    one_go (goes h) (goes h') = one_run h h'

  -- how many turns a run takes, those of the runs inside it too
  abbrev mutual
    pub turns_run : {s : S} {r : R} → Runs s r → ℕ
    turns_run (turned f) = suc (turns_follow f)

    pub turns_follow : {x : Next S R} {r : R} → Follows x r → ℕ
    turns_follow (at_once g) = turns_go g
    turns_follow (asked q h g) = turns_run h + turns_go g

    pub turns_go : {x : R ⊎ S} {r : R} → Goes x r → ℕ
    turns_go over = 0
    turns_go (goes h) = turns_run h

  turns_moved : {x y : R ⊎ S} {r : R} (e : x ≡ y) (g : Goes x r) → turns_go (subst (λ z. Goes z r) e g) ≡ turns_go g
  turns_moved {x = x} {r = r} e g = path_j (λ y p. turns_go (subst (λ z. Goes z r) p g) ≡ turns_go g) (ap turns_go (subst_refl (λ z. Goes z r) g)) e

  follow_moved : {x y : Next S R} {r : R} (e : x ≡ y) (g : Follows x r) → turns_follow (subst (λ z. Follows z r) e g) ≡ turns_follow g
  follow_moved {x = x} {r = r} e g = path_j (λ y p. turns_follow (subst (λ z. Follows z r) p g) ≡ turns_follow g)
      (ap turns_follow (subst_refl (λ z. Follows z r) g)) e

  mutual
    pub same_run : {s : S} {r r' : R} (h : Runs s r) (h' : Runs s r') → turns_run h ≡ turns_run h'
    same_run (turned f) (turned f') = ap suc (same_follow f f')

    pub same_follow : {x : Next S R} {r r' : R} (h : Follows x r) (h' : Follows x r') → turns_follow h ≡ turns_follow h'
    same_follow (at_once g) (at_once g') = same_go g g'
    same_follow (asked {k = k} {r = r} q h g) (asked q' h' g') =
        omega (arith, same_run h h', same_go (subst (λ z. Goes z r) (ap k (one_run h h')) g) g', turns_moved (ap k (one_run h h')) g)

    pub same_go : {x : R ⊎ S} {r r' : R} (h : Goes x r) (h' : Goes x r') → turns_go h ≡ turns_go h'
    same_go over over = refl
    same_go (goes h) (goes h') = same_run h h'

  module _ (first second : S → ℕ) (never : S → R) (last : R → ℕ) where
    abbrev FallsIn : S → Next S R → Type 0
    FallsIn = Falls first second last

    abbrev FallsInTo : S → R ⊎ S → Type 0
    FallsInTo = FallsTo first second last

    abbrev FallsInBelow : S → R ⊎ S → Type 0
    FallsInBelow = FallsBelow first second last

    abbrev pub Good : S → R → Type 0
    Good s r = Runs s r × (last r ≤ first s)

    abbrev pub GoodFrom : S → Next S R → R → Type 0
    GoodFrom s x r = Follows x r × (last r ≤ first s)

    abbrev pub GoodBelow : ℕ → (S → R) → Type 0
    GoodBelow n f = (s : S) → first s < n → Good s (f s)

    go_on : (lower : S → R) (s : S) → GoodBelow (first s) lower → (x : R ⊎ S) → FallsInBelow s x →
        Goes x (result_or turn first second never lower x) × (last (result_or turn first second never lower x) ≤ first s)
    go_on lower s g (inl r) f = (over, f)
    go_on lower s g (inr t) f = let h = g t f in (goes h.0, omega arith)

    go_test : (lower again : S → R) (s : S) → GoodBelow (first s) lower → (t : S) → ((first t ≡ first s) → second t < second s → Good t (again t)) →
        FallsInTo s (inr t)
        → (b : Bool) → nat_lt (first t) (first s) ≡ b → GoodFrom s (now (inr t)) (elim b [ true ↦ lower t | false ↦ again t ])
    go_test lower again s g t a f true e = let h = g t (ltb-true _ _ e) in (at_once (goes h.0), omega arith)
    go_test lower again s g t a (inl f) false e = absurd (omega (arith, ltb-false _ _ e))
    go_test lower again s g t a (inr f) false e = let h = a f.0 f.1 in (at_once (goes h.0), omega arith)

    follow : (lower again : S → R) (s : S) → GoodBelow (first s) lower → ((t : S) → (first t ≡ first s) → second t < second s → Good t (again t)) →
        (x : Next S R) → FallsIn s x
        → GoodFrom s x (follow_turn turn first second never lower again (first s) x)
    follow lower again s g a (now (inl r)) f = (at_once over, f)
    follow lower again s g a (now (inr t)) f = go_test lower again s g t (a t) f (nat_lt (first t) (first s)) refl
    follow lower again s g a (ask t k) f =
        let h = g t f.0 in
        let h' = go_on lower s g (k (lower t)) (f.1 (lower t) h.1) in
        (asked (lower t) h.0 h'.0, h'.1)

    module _ (falls : AlwaysFalls first second last turn) where
      within : (lower : S → R) (n : ℕ) → GoodBelow n lower → (m : ℕ) (s : S) → first s ≡ n → second s < m →
          Good s (run_within turn first second never lower m s)
      within lower n g zero s e h = absurd (omega arith)
      within lower n g (suc m) s e h =
          let r = follow lower (run_within turn first second never lower m) s (λ t l. g t (omega arith))
          (λ t p l. within lower n g m t (omega arith) (omega arith)) (turn s) (falls s) in
          (turned r.0, r.1)

      pub below : (n : ℕ) → GoodBelow n (run_below turn first second never n)
      below zero s h = absurd (omega arith)
      below (suc n) s h = within (run_below turn first second never n) (first s) (λ t l. below n t (omega arith)) (suc (second s)) s refl (omega arith)

      -- what a run gives is what its turns lead to, and nothing else is
      pub runs : (s : S) → Runs s (run turn first second never s)
      unfolding run
      runs s = (below (suc (first s)) s (omega arith)).0

      pub run_is : (s : S) (r : R) → Runs s r → run turn first second never s ≡ r
      run_is s r h = one_run (runs s) h

      -- how many turns the run from a state takes
      abbrev pub turns : S → ℕ
      turns s = turns_run (runs s)

      pub turns_fall : (s t : S) → turn s ≡ now (inr t) → turns t < turns s
      turns_fall s t e =
          let f = run turn first second never in
          let g : Follows (now (inr t)) (f t) = at_once (goes (runs t)) in
          let h : Follows (turn s) (f t) = subst (λ x. Follows x (f t)) (sym e) g in
          omega (arith, same_run (runs s) (turned h), follow_moved (sym e) g)

      -- one turn
      pub run_goes : (s t : S) → turn s ≡ now (inr t) → run turn first second never s ≡ run turn first second never t
      run_goes s t e = run_is s _ (turned (subst (λ x. Follows x (run turn first second never t)) (sym e) (at_once (goes (runs t)))))

      pub run_over : (s : S) (r : R) → turn s ≡ now (inl r) → run turn first second never s ≡ r
      run_over s r e = run_is s _ (turned (subst (λ x. Follows x r) (sym e) (at_once over)))

      pub run_asks : (s t : S) (k : R → R ⊎ S) → turn s ≡ ask t k →
          run turn first second never s ≡ result_or turn first second never (run turn first second never) (k (run turn first second never t))
      run_asks s t k e =
          let f = run turn first second never in
          let r = result_or turn first second never f (k (f t)) in
          run_is s r (turned (subst (λ x. Follows x r) (sym e) (asked (f t) (runs t) (onward (k (f t))))))
        where
          onward : (x : R ⊎ S) → Goes x (result_or turn first second never (run turn first second never) x)
          onward (inl r) = over
          onward (inr u) = goes (runs u)

      module _ (P : S → R → Type 0) where
        module _ (keeps : (s : S) (r : R) → HoldsAfter P (turn s) r → P s r) where
          mutual
            by_run : {s : S} {r : R} → Runs s r → P s r
            by_run {s} {r} (turned f) = keeps s r (by_follow f)

            by_follow : {x : Next S R} {r : R} → Follows x r → HoldsAfter P x r
            by_follow (at_once g) = by_go g
            by_follow (asked q h g) = (q, (by_run h, by_go g))

            by_go : {x : R ⊎ S} {r : R} → Goes x r → HoldsNext P x r
            by_go over = refl
            by_go (goes h) = by_run h

          -- induction over turns: what holds of a state whenever it holds of what its turn leads to holds of every state and its run
          pub by_turns : (s : S) → P s (run turn first second never s)
          by_turns s = by_run (runs s)
