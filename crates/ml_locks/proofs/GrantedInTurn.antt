-- Units that are granted one after another, each with the mode in which it was held before.
use Rattle.std.proofs.Common.{◌≡◌, ℕ, ◌<◌, ◌≤◌, ◌+◌, Bool, true, false, cond, List, [], ◌∷◌, ◌++◌, length, take, get_or, refl, sym, ap, ◌∙◌, subst, Some, None, inl, inr, arith}
use Rattle.std.specs.Prelude.{Option, ◌==◌, ◌&&◌, ◌||◌, not, IsSome}
use Rattle.std.proofs.Math.Nat.{eq-or-lt_of_le}
use Rattle.std.proofs.lemmas.Bool.Decides.{nat_tests}
use Rattle.std.proofs.lemmas.List.{get_or_append_left, get_or_push, length_push, take_all}
use Rattle.std.proofs.lemmas.List.Folds.{list_any_at, list_any_more}
use Rattle.ml_desk.specs.declared.mode.Mode.{Mode}
use Rattle.ml_desk.specs.declared.mode.Mode.TheVariants.{S, X}
use Rattle.ml_locks.specs.Changes.{is_needed, stronger}
use Rattle.ml_locks.specs.Modes.{FileModes, held_in, same_bits}
use Rattle.ml_locks.specs.Requests.{excludes, is_in_way}
use Rattle.ml_locks.specs.inside.Waiting.{IsGrantedIn, stands_in_way}
use Rattle.ml_locks.proofs.FirstUnit.{same_itself}
use Rattle.ml_locks.proofs.Oldest.{never, second_passes}
use Rattle.ml_locks.proofs.StoredModes.{at_slot, same_file}

-- the mode in which a session holds a unit after some units were granted
abbrev pub granted_mode : FileModes → ℕ → List (List Bool) → Mode → ℕ → List Bool → Option Mode
granted_mode old asker us mode s u = cond ((s == asker) && is_needed us u) (Some (stronger mode (held_in old s u))) (held_in old s u)

-- as many of some units as there are notes were granted, and each note is the mode before its grant
pub record Noted (old : FileModes) (asker : ℕ) (us : List (List Bool)) (mode : Mode) (before : List (Option Mode)) (now : FileModes) : Type 0 where
  pub within : length before ≤ length us
  pub granted : (s : ℕ) (u : List Bool) → held_in now s u ≡ granted_mode old asker (take (length before) us) mode s u
  pub noted : (j : ℕ) → j < length before → get_or before j None ≡ granted_mode old asker (take j us) mode asker (get_or us j [])

stronger_twice : (m : Mode) (o : Option Mode) → stronger m (Some (stronger m o)) ≡ stronger m o
stronger_twice X o = refl
stronger_twice S None = refl
stronger_twice S (Some b) = refl

granted_too : (a n q : Bool) (m : Mode) (o : Option Mode) → cond (a && q) (Some (stronger m (cond (a && n) (Some (stronger m o)) o)))
    (cond (a && n) (Some (stronger m o)) o) ≡ cond (a && (n || q)) (Some (stronger m o)) o
granted_too false n q m o = refl
granted_too true true true m o = ap Some (stronger_twice m o)
granted_too true true false m o = refl
granted_too true false q m o = refl

taken_off : (a n q : Bool) (x y o : Option Mode) → ((a && q) ≡ true → x ≡ cond (a && n) y o) → cond (a && q) x (cond (a && (n || q)) y o) ≡ cond (a && n) y o
taken_off false n q x y o e = refl
taken_off true n true x y o e = e refl
taken_off true true false x y o e = refl
taken_off true false false x y o e = refl

strong_before : (n : Bool) (m : Mode) (o : Option Mode) → cond n (Some (stronger m o)) o ≡ Some X → Some (stronger m o) ≡ Some X
strong_before true m o e = e
strong_before false X o e = refl
strong_before false S None e = cc
strong_before false S (Some b) e = e

itself : (k : ℕ) → (k == k) ≡ true
itself k = grind (arith, nat_tests)

nowhere : (b : Bool) (x y : Option Mode) → cond (b && false) x y ≡ y
nowhere true x y = refl
nowhere false x y = refl

not_both : (a b : Bool) → (a && b) ≡ false → b ≡ true → a ≡ false
not_both true b e f = never b e f
not_both false b e f = refl

out_of_way : (a n e : Bool) (m : Mode) (x o : Option Mode) (b : Bool) → (not a && b) ≡ false → (excludes o m ≡ true → b ≡ true)
    → (not a && excludes (cond (a && n) x o) m) ≡ false
out_of_way true n e m x o b f g = refl
out_of_way false n e m x o b f g = at (excludes o m) g
  where
    at : (c : Bool) → (c ≡ true → b ≡ true) → c ≡ false
    at true g = sym (g refl) ∙ f
    at false g = refl

module _ (old : FileModes) (asker : ℕ) (us : List (List Bool)) (mode : Mode) where
  pub none_noted : Noted old asker us mode [] old
  none_noted = record {
    within = omega (arith);
    granted = λ s u. sym (nowhere (s == asker) _ _);
    noted = λ j l. absurd (no j l);
  }
    where
      no : (j : ℕ) → j < 0 → ⊥
      no j l = omega (arith, l)

  pub all_taken_back : (now : FileModes) → Noted old asker us mode [] now → now ≡ old
  all_taken_back now n = same_file now old (λ s u. n.granted s u ∙ nowhere (s == asker) _ _)

  pub all_granted : (before : List (Option Mode)) (now : FileModes) → length us ≤ length before → Noted old asker us mode before now
      → IsGrantedIn old asker us mode now
  all_granted before now l n s u = n.granted s u ∙ ap (λ vs. granted_mode old asker vs mode s u) (take_all (length before) us l)

  pub still_free : (before : List (Option Mode)) (now : FileModes) → Noted old asker us mode before now → length before < length us → (k : ℕ)
      → is_in_way (held_in old) asker us mode k ≡ false → stands_in_way asker mode (held_in now k (get_or us (length before) [])) k ≡ false
  still_free before now n l k e =
      let p = get_or us (length before) [] in
      ap (λ o. not (k == asker) && excludes o mode) (n.granted k p)
      ∙ out_of_way (k == asker) (is_needed (take (length before) us) p) true mode _ (held_in old k p) _ e
      (list_any_at (λ u. excludes (held_in old k u) mode) us (length before) [] l)

  -- one more unit is granted
  module _ (before : List (Option Mode)) (now : FileModes) (l : length before < length us) where
    abbrev next : List Bool
    next = get_or us (length before) []

    abbrev held : Option Mode
    held = held_in now asker next

    needed_too : (u : List Bool) → is_needed (take (length (before ++ held ∷ [])) us) u ≡ (is_needed (take (length before) us) u || same_bits u next)
    needed_too u = ap (λ i. is_needed (take i us) u) (length_push before held) ∙ list_any_more (same_bits u) us (length before) [] l

    pub noted_more : (after : List (Option Mode)) (new : FileModes) → after ≡ before ++ held ∷ []
        → ((s : ℕ) (u : List Bool) → held_in new s u ≡ cond ((s == asker) && same_bits u next) (Some (stronger mode (held_in now s u))) (held_in now s u))
        → Noted old asker us mode before now → Noted old asker us mode after new
    noted_more after new is h n =
        subst (λ bs. Noted old asker us mode bs new) (sym is) (record {
          within = omega (arith, length_push before held, l);
          granted = λ s u. h s u ∙ (ap (λ o. cond ((s == asker) && same_bits u next) (Some (stronger mode o)) o) (n.granted s u)
              ∙ (granted_too (s == asker) (is_needed (take (length before) us) u) (same_bits u next) mode (held_in old s u)
              ∙ ap (λ b. cond ((s == asker) && b) (Some (stronger mode (held_in old s u))) (held_in old s u)) (sym (needed_too u))));
          noted = λ j less. elim (eq-or-lt_of_le {n = j} {m = length before} (omega (arith, less, length_push before held)))
              as (λ _. get_or (before ++ held ∷ []) j None ≡ granted_mode old asker (take j us) mode asker (get_or us j [])) [
                | inl e ↦ get_or_push before held None j (sym e) ∙ subst (λ i. held ≡ granted_mode old asker (take i us) mode asker (get_or us i []))
                    (sym e) (n.granted asker next)
                | inr e ↦ get_or_append_left before (held ∷ []) None j e ∙ n.noted j e
              ];
        })

  -- the last one is taken back
  module _ (before rest : List (Option Mode)) (x : Option Mode) (now : FileModes) (is : before ≡ rest ++ x ∷ []) (n : Noted old asker us mode before now)
    where
      abbrev p : List Bool
      p = get_or us (length rest) []

      abbrev was_needed : List Bool → Bool
      was_needed u = is_needed (take (length rest) us) u

      longer : length before ≡ length rest + 1
      longer = ap length is ∙ length_push rest x

      pub last_within : length rest < length us
      last_within = omega (arith, longer, n.within)

      needed : (u : List Bool) → is_needed (take (length before) us) u ≡ (was_needed u || same_bits u p)
      needed u = ap (λ i. is_needed (take i us) u) longer ∙ list_any_more (same_bits u) us (length rest) [] last_within

      note : x ≡ granted_mode old asker (take (length rest) us) mode asker p
      note = sym (ap (λ bs. get_or bs (length rest) None) is ∙ get_or_push rest x None (length rest) refl) ∙ n.noted (length rest) (omega (arith, longer))

      held_last : held_in now asker p ≡ Some (stronger mode (held_in old asker p))
      held_last = n.granted asker p ∙ (ap (λ b. cond ((asker == asker) && b) (Some (stronger mode (held_in old asker p))) (held_in old asker p))
          (needed p ∙ second_passes (was_needed p) (same_bits p p) (same_itself p))
          ∙ ap (λ b. cond (b && true) (Some (stronger mode (held_in old asker p))) (held_in old asker p)) (itself asker))

      pub last_held : IsSome (held_in now asker p)
      last_held = subst IsSome (sym held_last) refl

      pub last_weaker : x ≡ Some X → held_in now asker p ≡ Some X
      last_weaker e = held_last ∙ strong_before (was_needed p) mode (held_in old asker p)
          (sym (ap (λ b. cond (b && was_needed p) (Some (stronger mode (held_in old asker p))) (held_in old asker p)) (itself asker)) ∙ (sym note ∙ e))

      pub noted_fewer : (new : FileModes) → ((s : ℕ) (u : List Bool) → held_in new s u ≡ cond ((s == asker) && same_bits u p) x (held_in now s u))
          → Noted old asker us mode rest new
      noted_fewer new h = record {
        within = omega (arith, last_within);
        granted = λ s u. h s u ∙ (ap (cond ((s == asker) && same_bits u p) x) (n.granted s u
            ∙ ap (λ b. cond ((s == asker) && b) (Some (stronger mode (held_in old s u))) (held_in old s u)) (needed u))
            ∙ taken_off (s == asker) (was_needed u) (same_bits u p) x _ _ (λ e. let at = at_slot s asker u p e in
            note ∙ (ap (λ k. granted_mode old asker (take (length rest) us) mode k p) (sym at.0)
            ∙ ap (granted_mode old asker (take (length rest) us) mode s) (sym at.1))));
        noted = λ j l. sym (ap (λ bs. get_or bs j None) is ∙ get_or_append_left rest (x ∷ []) None j l) ∙ n.noted j (omega (arith, longer, l));
      }
