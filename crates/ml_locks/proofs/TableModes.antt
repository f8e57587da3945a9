-- The modes of a table in which one file has changed.
use Rattle.std.proofs.Common.{◌≡◌, ◌≢◌, ℕ, ◌<◌, ◌≤◌, ◌⊎◌, Bool, true, false, cond, List, length, get_or, refl, sym, ap, ◌∙◌, Some, inl, inr, arith}
use Rattle.std.specs.Prelude.{Option, ◌==◌, ◌&&◌, slice_get, slice_set}
use Rattle.std.specs.Option.{option_and_then}
use Rattle.std.proofs.lemmas.Bool.Decides.{eqb_tells}
use Rattle.std.proofs.lemmas.List.{set-get_or, get_or-set_same, get_or-set_other, length-set}
use Rattle.std.proofs.lemmas.Option.{slice_get-get_or, slice_get_past, slice_get_read}
use Rattle.ml_desk.specs.declared.mode.Mode.{Mode}
use Rattle.ml_locks.specs.Changes.{is_needed, stronger}
use Rattle.ml_locks.specs.Requests.{Leaves, modes_at}
use Rattle.ml_locks.specs.inside.Waiting.{LeavesIn}
use Rattle.ml_locks.specs.declared.asked.Asked.{Asked}
use Rattle.ml_locks.specs.declared.asked.Asked.TheVariants.{Granted, Wait, Died, OutOfMemory}
use Rattle.ml_locks.specs.Modes.{FileModes, Locks, held_in, mode_of}

module _ (t : Locks) (p : ℕ) (f g : FileModes) (there : p < length t) (is : f ≡ get_or t p f) where
  file_is : slice_get t p ≡ Some f
  file_is = slice_get_read t (length t) p f refl there is

  -- the files after the change
  files_are : (d : ℕ) → slice_get (slice_set t p g) d ≡ cond (d == p) (Some g) (slice_get t d)
  files_are d = elim (eqb_tells d p) [
    | inl e ↦ same e.0 e.1
    | inr n ↦ other n.0 n.1
  ]
    where
      same : (d == p) ≡ true → d ≡ p → slice_get (slice_set t p g) d ≡ cond (d == p) (Some g) (slice_get t d)
      same b e =
          let l : p < length (slice_set t p g) = omega (arith, length-set t p g) in
          ap (slice_get (slice_set t p g)) e ∙ (slice_get-get_or (slice_set t p g) p f l
          ∙ (ap Some (get_or-set_same t p g f there) ∙ sym (ap (λ x. cond x (Some g) (slice_get t d)) b)))

      within : d ≢ p → d < length t → slice_get (slice_set t p g) d ≡ slice_get t d
      within n l =
          let l' : d < length (slice_set t p g) = omega (arith, length-set t p g) in
          slice_get-get_or (slice_set t p g) d f l' ∙ (ap Some (get_or-set_other t p d g f n) ∙ sym (slice_get-get_or t d f l))

      past : length t ≤ d → slice_get (slice_set t p g) d ≡ slice_get t d
      past l =
          let l' : length (slice_set t p g) ≤ d = omega (arith, length-set t p g) in
          slice_get_past (slice_set t p g) d l' ∙ sym (slice_get_past t d l)

      bounded : (d < length t) ⊎ (length t ≤ d)
      bounded = grind arith

      other : (d == p) ≡ false → d ≢ p → slice_get (slice_set t p g) d ≡ cond (d == p) (Some g) (slice_get t d)
      other b n = elim bounded [ inl l ↦ within n l | inr l ↦ past l ] ∙ sym (ap (λ x. cond x (Some g) (slice_get t d)) b)

  chosen : (b a : Bool) (m m' : Option Mode) (s : ℕ) (u : List Bool) (found : Option FileModes) → (b ≡ true → found ≡ Some f) → (b ≡ true → m ≡ m') →
      held_in g s u ≡ cond a m (held_in f s u)
      → option_and_then (λ h. held_in h s u) (cond b (Some g) found) ≡ cond (b && a) m' (option_and_then (λ h. held_in h s u) found)
  chosen true true m m' s u found e same is = is ∙ same refl
  chosen true false m m' s u found e same is = is ∙ sym (ap (option_and_then (λ h. held_in h s u)) (e refl))
  chosen false a m m' s u found e same is = refl

  -- a change of the file as a change of the table, at each session, declaration and prefix
  pub table_changed : (a : Bool) (m m' : Option Mode) (s d : ℕ) (u : List Bool) → ((d == p) ≡ true → m ≡ m') → held_in g s u ≡ cond a m (held_in f s u)
      → mode_of (slice_set t p g) s d u ≡ cond ((d == p) && a) m' (mode_of t s d u)
  table_changed a m m' s d u same is = ap (option_and_then (λ h. held_in h s u)) (files_are d)
      ∙ chosen (d == p) a m m' s u (slice_get t d) (λ b. ap (slice_get t) (equal b) ∙ file_is) same is
    where
      equal : (d == p) ≡ true → d ≡ p
      equal b = elim (eqb_tells d p) [ inl e ↦ e.1 | inr n ↦ absurd (differ b n.0) ]
        where
          differ : (d == p) ≡ true → (d == p) ≡ false → ⊥
          differ x y = cc

  pub table_files : length (slice_set t p g) ≡ length t
  table_files = length-set t p g

  -- what a session holds of the file
  pub held_there : (s : ℕ) (u : List Bool) → mode_of t s p u ≡ held_in f s u
  held_there s u = ap (option_and_then (λ h. held_in h s u)) file_is

  pub held_where : (s d : ℕ) (u : List Bool) → (d == p) ≡ true → mode_of t s d u ≡ held_in f s u
  held_where s d u b = elim (eqb_tells d p) [ inl e ↦ ap (λ x. mode_of t s x u) e.1 ∙ held_there s u | inr n ↦ absurd (differ b n.0) ]
    where
      differ : (d == p) ≡ true → (d == p) ≡ false → ⊥
      differ x y = cc

  -- what a session holds of the file is what it holds of that declaration
  pub held_at : ◌≡◌ {A = ℕ → List Bool → Option Mode} (held_in f) (modes_at t p)
  held_at = λ i s u. sym (held_there s u) i

  unchanged : g ≡ f → slice_set t p g ≡ t
  unchanged e = ap (slice_set t p) (e ∙ is) ∙ set-get_or t p f

  -- what an answer leaves of the file, as what it leaves of the table
  pub left_there : (asker : ℕ) (us : List (List Bool)) (mode : Mode) (result : Asked) → LeavesIn f asker us mode result g
      → Leaves t asker p us mode result (slice_set t p g)
  left_there asker us mode Granted h = record {
    files = table_files;
    modes = λ s d u. table_changed ((s == asker) && is_needed us u) (Some (stronger mode (held_in f s u))) (Some (stronger mode (mode_of t s d u))) s d u
        (λ b. ap (λ o. Some (stronger mode o)) (sym (held_where s d u b))) (h s u);
  }
  left_there asker us mode (Wait holder) e = unchanged e
  left_there asker us mode (Died death) e = unchanged e
  left_there asker us mode OutOfMemory e = unchanged e
