-- What is left where a session is taken out of every entry, and the entries that nobody holds go.
use Rattle.std.proofs.Common.{◌≡◌, ℕ, Bool, true, false, cond, List, [], ◌∷◌, refl, sym, ap, ◌∙◌, subst, Some, None, arith}
use Rattle.std.specs.Prelude.{Option, ◌==◌, ◌&&◌, ◌||◌, not, filter, is_some}
use Rattle.std.specs.List.{list_any, IsDistinct}
use Rattle.std.specs.Map.{lookup, keys_of}
use Rattle.std.specs.Map.Calls.{RetainsPairs}
use Rattle.std.specs.Ordering.{bool_cmp, eq_by_cmp, is_eq}
use Rattle.std.specs.Cmp.{eq_by_cmp_equiv}
use Rattle.std.specs.Cmp.Lexicographic.{slice_cmp}
use Rattle.std.proofs.lemmas.Bool.Decides.{nat_tests}
use Rattle.std.proofs.lemmas.Map.{lookup-none}
use Rattle.std.proofs.lemmas.Map.Entries.{none_past_head}
use Rattle.std.proofs.lemmas.Map.Keys.{IsDistinct-tail}
use Rattle.ml_bits.specs.BitList.{BitList, bits_cmp, bits_cmp_total}
use Rattle.ml_desk.specs.declared.mode.Mode.{Mode}
use Rattle.ml_locks.specs.inside.Stored.{holder_mode}
use Rattle.ml_locks.specs.declared.holders.Holders.{Holders}
use Rattle.ml_locks.proofs.Anyone.{TellsAny}
use Rattle.ml_locks.proofs.StoredModes.{stored_at, mode_among}

-- a session is among the others exactly where it is another one
abbrev is_among : ℕ → List ℕ → Bool
is_among s ks = list_any (λ k. k == s) ks

abbrev pub others : ℕ → List ℕ → List ℕ
others session ks = filter (λ k. not (k == session)) ks

one_fewer : (a b c r : Bool) → (a ≡ true → b ≡ true → c ≡ true) → (a ≡ false → b ≡ true → c ≡ false) → cond (not a) (b || (not c && r))
    (not c && r) ≡ (not c && (b || r))
one_fewer true true c r e f = ap (λ x. not x && r) (e refl refl) ∙ sym (ap (λ x. not x && true) (e refl refl))
one_fewer true false c r e f = refl
one_fewer false true c r e f = sym (ap (λ x. not x && true) (f refl refl))
one_fewer false false c r e f = refl

over_any : (b : Bool) (s k : ℕ) (ks : List ℕ) → is_among s (cond b (k ∷ ks) ks) ≡ cond b ((k == s) || is_among s ks) (is_among s ks)
over_any true s k ks = refl
over_any false s k ks = refl

same_both : (k s t : ℕ) → (k == t) ≡ true → (k == s) ≡ true → (s == t) ≡ true
same_both k s t e f = grind (arith, nat_tests)

apart_both : (k s t : ℕ) → (k == t) ≡ false → (k == s) ≡ true → (s == t) ≡ false
apart_both k s t e f = grind (arith, nat_tests)

pub among_others : (s session : ℕ) (ks : List ℕ) → is_among s (others session ks) ≡ (not (s == session) && is_among s ks)
among_others s session [] = nothing (s == session)
  where
    nothing : (b : Bool) → false ≡ (not b && false)
    nothing true = refl
    nothing false = refl
among_others s session (k ∷ ks) = over_any (not (k == session)) s k (others session ks)
    ∙ (ap (λ r. cond (not (k == session)) ((k == s) || r) r) (among_others s session ks)
    ∙ one_fewer (k == session) (k == s) (s == session) (is_among s ks) (same_both k s session) (apart_both k s session))

pub without_one : (c r : Bool) (m : Mode) → cond (not c && r) (Some m) None ≡ cond c None (cond r (Some m) None)
without_one true r m = refl
without_one false r m = refl

-- where nobody is told of, no session has a mode
quiet : (f : ℕ → Option Mode) (b : Bool) → TellsAny f b → b ≡ false → (s : ℕ) → f s ≡ None
quiet f b h e s = at (f s) refl
  where
    never : b ≡ true → ⊥
    never t = cc

    at : (o : Option Mode) → f s ≡ o → o ≡ None
    at None p = refl
    at (Some m) p = absurd (never (h.1 (s, ap is_some p)))

either_none : (b : Bool) → ◌≡◌ {A = Option Mode} None (cond b None None)
either_none true = refl
either_none false = refl

module _ (u : List Bool) (session s : ℕ) where
  abbrev test : BitList → Bool
  test k = is_eq (slice_cmp bool_cmp u k.bits)

  abbrev left_of : Option Mode → Option Mode
  left_of o = cond (s == session) None o

  at_entry : (t b : Bool) (v w : Holders) (found found' : Option Holders) → (t ≡ true → found ≡ None) → holder_mode w s ≡ left_of (holder_mode v s)
      → (b ≡ false → holder_mode w s ≡ None)
      → mode_among found' s ≡ left_of (mode_among found s) → mode_among (cond b (cond t (Some w) found') found') s ≡ left_of (mode_among (cond t
      (Some v) found) s)
  at_entry true true v w found found' one is gone ih = is
  at_entry true false v w found found' one is gone ih = ih ∙ (ap (λ o. left_of (mode_among o s)) (one refl) ∙ (sym (either_none (s == session)) ∙
      (sym (gone refl) ∙ is)))
  at_entry false true v w found found' one is gone ih = ih
  at_entry false false v w found found' one is gone ih = ih

  lookup_of : (b : Bool) (xs ys : List (BitList × Holders)) → lookup test (cond b xs ys) ≡ cond b (lookup test xs) (lookup test ys)
  lookup_of true xs ys = refl
  lookup_of false xs ys = refl

  module _ {F : Type 0} (T : F → BitList → Holders → Bool → Holders → F → Type 0) (f : F)
      (calls : (k : BitList) (v : Holders) (b : Bool) (w : Holders) (g : F) → T f k v b w g → (holder_mode w s ≡ left_of
      (holder_mode v s)) × TellsAny (holder_mode w) b × (g ≡ f)) where
    pub released : (es left : List (BitList × Holders)) → IsDistinct (eq_by_cmp bits_cmp) (keys_of es) → RetainsPairs T f es left → mode_among
        (stored_at u left) s ≡ left_of (mode_among (stored_at u es) s)
    released [] left d r = ap (λ es. mode_among (stored_at u es) s) r ∙ either_none (s == session)
    released (e ∷ es) left d (b, w, g, rest, call, more, is) =
        let p = calls e.0 e.1 b w g call in
        let ih = released es rest (IsDistinct-tail (eq_by_cmp bits_cmp) e.0 (keys_of es) d) (subst (λ h. RetainsPairs T h es rest) p.2 more) in
        ap (λ es. mode_among (stored_at u es) s) is ∙ (ap (λ o. mode_among o s) (lookup_of b ((e.0, w) ∷ rest) rest)
        ∙ at_entry (test e.0) b e.1 w (lookup test es) (lookup test rest)
        (λ t. lookup-none _ es (none_past_head (eq_by_cmp_equiv bits_cmp_total) (record { bits = u; room = 0 }) e es d t)) p.0 (λ q. quiet
        (holder_mode w) b p.1 q s) ih)
