-- Variables that are numbered by first place are in order.
use Rattle.std.specs.Prelude.{◌≡◌, ℕ, suc, ◌<◌, Bool, true, false, cond, List, [], ◌∷◌, ◌++◌, length}
use Rattle.std.proofs.Common.{refl, sym, ap, ◌∙◌, subst, arith, append_assoc, append-nil, length-append}
use Rattle.std.proofs.lemmas.Bool.{lt-ltb, le-ltb}
use Rattle.std.proofs.lemmas.Bool.Decides.{eqb_tells}
use Rattle.ml_term.specs.Tree.{has, firsts, without, place_in}
use Rattle.ml_term.proofs.DistinctCounts.{has_append}
use Rattle.ml_round_trip.proofs.PlacesInOrder.{grown, counted, InOrder}

-- the numbers that don't stand among some
abbrev left : List ℕ → List ℕ → List ℕ
left s [] = []
left s (m ∷ ms) = cond (has m s) (left s ms) (m ∷ left s ms)

left_known : (s : List ℕ) (n : ℕ) (ms : List ℕ) → has n s ≡ true → left s (without n ms) ≡ left s ms
left_known s n [] h = refl
left_known s n (m ∷ ms) h = grind (arith, eqb_tells m n, left_known s n ms h)

left_new : (s : List ℕ) (n : ℕ) (ms : List ℕ) → left s (without n ms) ≡ left (s ++ n ∷ []) ms
left_new s n [] = refl
left_new s n (m ∷ ms) = grind (arith, eqb_tells m n, eqb_tells n m, has_append m s (n ∷ []), left_new s n ms)

place_known : (s r : List ℕ) (n : ℕ) → has n s ≡ true → place_in (s ++ r) n < length s
place_known [] r n h = absurd (cc)
place_known (m ∷ s) r n h = grind (arith, eqb_tells m n, place_known s r n)

place_new : (s r : List ℕ) (n : ℕ) → has n s ≡ false → place_in (s ++ n ∷ r) n ≡ length s
place_new [] r n h = grind (arith, eqb_tells n n)
place_new (m ∷ s) r n h = grind (arith, eqb_tells m n, place_new s r n)

-- all stand in order, and each is counted once
pub record AreCounted (whole : List ℕ) (v : ℕ) (ns : List ℕ) : Type 0 where
  pub order : InOrder (place_in whole) v ns
  pub all : counted (place_in whole) v ns ≡ length whole

behind_known : (whole : List ℕ) (v n : ℕ) (ns : List ℕ) → place_in whole n < v → AreCounted whole v ns → AreCounted whole v (n ∷ ns)
behind_known whole v n ns l h =
    let g : grown v (place_in whole n) ≡ v = ap (λ b. cond b v (suc v)) (lt-ltb (place_in whole n) v l) in
    record { order = (omega arith, subst (λ w. InOrder (place_in whole) w ns) (sym g) h.order); all = ap (λ w. counted (place_in whole) w ns) g ∙ h.all }

behind_new : (whole : List ℕ) (v n : ℕ) (ns : List ℕ) → place_in whole n ≡ v → AreCounted whole (suc v) ns → AreCounted whole v (n ∷ ns)
behind_new whole v n ns e h =
    let g : grown v (place_in whole n) ≡ suc v = ap (λ b. cond b v (suc v)) (le-ltb (place_in whole n) v (omega arith)) in
    record { order = (omega arith, subst (λ w. InOrder (place_in whole) w ns) (sym g) h.order); all = ap (λ w. counted (place_in whole) w ns) g ∙ h.all }

left_first : (s : List ℕ) (n : ℕ) (ms : List ℕ) (b : Bool) → has n s ≡ b → left s (n ∷ ms) ≡ cond b (left s ms) (n ∷ left s ms)
left_first s n ms b h = ap (λ k. cond k (left s ms) (n ∷ left s ms)) h

are_counted : (s ns whole : List ℕ) → whole ≡ s ++ left s (firsts ns) → AreCounted whole (length s) ns
are_counted s [] whole e = record { order = tt; all = ap length (sym (e ∙ append-nil s)) }
are_counted s (n ∷ ns) whole e = by_test (has n s) refl (λ f. are_counted s ns whole f) (λ f. are_counted (s ++ n ∷ []) ns whole f)
  where
    by_test : (b : Bool) → has n s ≡ b → (whole ≡ s ++ left s (firsts ns) → AreCounted whole (length s) ns)
        → (whole ≡ (s ++ n ∷ []) ++ left (s ++ n ∷ []) (firsts ns) → AreCounted whole (length (s ++ n ∷ [])) ns) → AreCounted whole (length s) (n ∷ ns)
    by_test true h known new =
        let f : whole ≡ s ++ left s (firsts ns) = e ∙ ap (λ ms. s ++ ms) (left_first s n (without n (firsts ns)) true h ∙ left_known s n (firsts ns) h) in
        behind_known whole (length s) n ns (subst (λ w. place_in w n < length s) (sym f) (place_known s (left s (firsts ns)) n h)) (known f)
    by_test false h known new =
        let f : whole ≡ s ++ n ∷ left (s ++ n ∷ []) (firsts ns) =
        e ∙ ap (λ ms. s ++ ms) (left_first s n (without n (firsts ns)) false h ∙ ap (λ ms. n ∷ ms) (left_new s n (firsts ns))) in
        let m : length (s ++ n ∷ []) ≡ suc (length s) = omega (arith, length-append s (n ∷ [])) in
        behind_new whole (length s) n ns (ap (λ w. place_in w n) f ∙ place_new s (left (s ++ n ∷ []) (firsts ns)) n h)
        (subst (λ k. AreCounted whole k ns) m (new (f ∙ sym (append_assoc s (n ∷ []) (left (s ++ n ∷ []) (firsts ns))))))

left_all : (ms : List ℕ) → left [] ms ≡ ms
left_all [] = refl
left_all (m ∷ ms) = ap (λ ns. m ∷ ns) (left_all ms)

pub counted_all : (ns : List ℕ) → AreCounted (firsts ns) 0 ns
counted_all ns = are_counted [] ns (firsts ns) (sym (left_all (firsts ns)))
