-- Numbers by first place, one after another.
use Rattle.std.specs.Prelude.{◌≡◌, ℕ, ◌+◌, ◌<◌, Bool, true, false, ◌&&◌, ◌||◌, ◌==◌, if◌then◌else◌, IsTrue, nat_lt, List, [], ◌∷◌, ◌++◌, length}
use Rattle.std.specs.List.{list_all}
use Rattle.std.proofs.Common.{refl, sym, ap, ◌∙◌, subst, arith, append-nil, true≢false, eqb-true}
use Rattle.std.proofs.lemmas.Bool.{ltb-true, eq-eqb}
use Rattle.ml_term.specs.Tree.{has, without, firsts, counts_from}

without_end : (u n : ℕ) (ms : List ℕ) → without u (ms ++ n ∷ []) ≡ without u ms ++ (if n == u then [] else n ∷ [])
without_end u n [] = go (n == u)
  where
    go : (k : Bool) → (if k then [] else n ∷ []) ≡ [] ++ (if k then [] else n ∷ [])
    go true = refl
    go false = refl
without_end u n (m ∷ ms) = go (m == u) (without_end u n ms)
  where
    go : (k : Bool) → without u (ms ++ n ∷ []) ≡ without u ms ++ (if n == u then [] else n ∷ [])
        → (if k then without u (ms ++ n ∷ []) else m ∷ without u (ms ++ n ∷ [])) ≡ (if k then without u ms else m ∷ without u ms)
        ++ (if n == u then [] else n ∷ [])
    go true h = h
    go false h = ap (λ l. m ∷ l) h

-- a number that stands there already is none of the firsts, and a new one is the last of them
pub first_more : (n : ℕ) (us : List ℕ) → firsts (us ++ n ∷ []) ≡ (if has n us then firsts us else firsts us ++ n ∷ [])
first_more n [] = refl
first_more n (u ∷ us) = ap (λ l. u ∷ without u l) (first_more n us) ∙ go (has n us) (u == n) refl
  where
    flip : (k : Bool) → (u == n) ≡ k → (n == u) ≡ k
    flip true e = subst (λ m. (m == u) ≡ true) (eqb-true u n e) (eq-eqb u u refl)
    flip false e = decide (n == u) refl
      where
        decide : (k : Bool) → (n == u) ≡ k → k ≡ false
        decide true i = absurd (true≢false (sym (subst (λ m. (m == n) ≡ true) (eqb-true n u i) (eq-eqb n n refl)) ∙ e))
        decide false i = refl

    go : (h k : Bool) → (u == n) ≡ k
        → u ∷ without u (if h then firsts us else firsts us ++ n ∷ []) ≡ (if k || h then u ∷ without u (firsts us) else (u ∷ without u (firsts us)) ++ n ∷ [])
    go true true e = refl
    go true false e = refl
    go false true e = ap (λ l. u ∷ l) (without_end u n (firsts us) ∙ (ap (λ k. without u (firsts us) ++ (if k then [] else n ∷ [])) (flip true e)
        ∙ append-nil (without u (firsts us))))
    go false false e = ap (λ l. u ∷ l) (without_end u n (firsts us) ∙ ap (λ k. without u (firsts us) ++ (if k then [] else n ∷ [])) (flip false e))

-- numbers that count go on counting
pub counts_more : (k n : ℕ) (ms : List ℕ) → IsTrue (counts_from k ms) → n ≡ k + length ms → IsTrue (counts_from k (ms ++ n ∷ []))
counts_more k n [] c e = and_true (n == k) true (eq-eqb n k (omega arith)) refl
  where
    and_true : (a b : Bool) → IsTrue a → IsTrue b → IsTrue (a && b)
    and_true true b e e' = e'
    and_true false b e e' = absurd (true≢false (sym e))
counts_more k n (m ∷ ms) c e = go (m == k) (λ c. counts_more (1 + k) n ms c (omega arith)) c
  where
    go : (b : Bool) → (IsTrue (counts_from (1 + k) ms) → IsTrue (counts_from (1 + k) (ms ++ n ∷ []))) → IsTrue (b && counts_from (1 + k) ms)
        → IsTrue (b && counts_from (1 + k) (ms ++ n ∷ []))
    go true h c = h c
    go false h c = absurd (true≢false (sym c))

-- what stands among numbers below a limit is below it
pub has_below : (n v : ℕ) (us : List ℕ) → IsTrue (list_all (λ u. nat_lt u v) us) → has n us ≡ true → n < v
has_below n v [] b h = absurd (true≢false (sym h))
has_below n v (u ∷ us) b h = go (u == n) refl (nat_lt u v) refl (λ b h. has_below n v us b h) b h
  where
    go : (k : Bool) → (u == n) ≡ k → (l : Bool) → nat_lt u v ≡ l → (IsTrue (list_all (λ u. nat_lt u v) us) → has n us ≡ true → n < v)
        → IsTrue (l && list_all (λ u. nat_lt u v) us) → (k || has n us) ≡ true → n < v
    go k i false l r b h = absurd (true≢false (sym b))
    go true i true l r b h = subst (λ m. m < v) (eqb-true u n i) (ltb-true u v l)
    go false i true l r b h = r b h

pub has_last : (n : ℕ) (us : List ℕ) → has n (us ++ n ∷ []) ≡ true
has_last n [] = ap (λ k. k || false) (eq-eqb n n refl)
has_last n (u ∷ us) = ap (λ k. (u == n) || k) (has_last n us) ∙ or_true (u == n)
  where
    or_true : (k : Bool) → (k || true) ≡ true
    or_true true = refl
    or_true false = refl

pub has_more : (n m : ℕ) (us : List ℕ) → has n us ≡ true → has n (us ++ m ∷ []) ≡ true
has_more n m [] h = absurd (true≢false (sym h))
has_more n m (u ∷ us) h = go (u == n) (λ h. has_more n m us h) h
  where
    go : (k : Bool) → (has n us ≡ true → has n (us ++ m ∷ []) ≡ true) → (k || has n us) ≡ true → (k || has n (us ++ m ∷ [])) ≡ true
    go true r h = refl
    go false r h = r h
