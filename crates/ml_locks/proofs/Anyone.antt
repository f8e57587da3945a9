-- Whether anybody holds a unit.
use Rattle.std.proofs.Common.{◌≡◌, ℕ, Bool, true, false, cond, List, [], ◌∷◌, length, suc, refl, sym, ap, ◌∙◌, subst, Some, None, arith}
use Rattle.std.specs.Prelude.{Option, ◌==◌, ◌||◌, not, IsTrue, IsSome, is_some}
use Rattle.std.specs.List.{list_any}
use Rattle.std.proofs.lemmas.Bool.Decides.{nat_tests}
use Rattle.ml_desk.specs.declared.mode.Mode.{Mode}
use Rattle.ml_desk.specs.declared.mode.Mode.TheVariants.{S}

-- a truth value says whether some session has a mode
abbrev pub TellsAny : (ℕ → Option Mode) → Bool → Type 0
TellsAny f b = (IsTrue b → (s : ℕ) × IsSome (f s)) × (((s : ℕ) × IsSome (f s)) → IsTrue b)

abbrev pub reader_mode : List ℕ → ℕ → Option Mode
reader_mode ks s = cond (list_any (λ k. k == s) ks) (Some S) None

itself : (k : ℕ) → (k == k) ≡ true
itself k = grind (arith, nat_tests)

not_empty : (n : ℕ) → (suc n == 0) ≡ false
not_empty n = grind (arith, nat_tests)

pub any_reader : (ks : List ℕ) (b : Bool) → b ≡ (length ks == 0) → TellsAny (reader_mode ks) (not b)
any_reader [] b e = (λ t. absurd (never b e t), λ h. absurd (nothing h.1))
  where
    never : (b : Bool) → b ≡ true → not b ≡ true → ⊥
    never true e t = cc
    never false e t = cc

    nothing : is_some {T = Mode} None ≡ true → ⊥
    nothing e = cc
any_reader (k ∷ ks) b e = (λ t. (k, found (k == k) (itself k)), λ h. ap not (e ∙ not_empty (length ks)))
  where
    found : (t : Bool) → t ≡ true → is_some (cond (t || list_any (λ j. j == k) ks) (Some S) None) ≡ true
    found true e = refl
    found false e = cc

pub tells_alike : (f g : ℕ → Option Mode) (b : Bool) → ((s : ℕ) → g s ≡ f s) → TellsAny f b → TellsAny g b
tells_alike f g b e h = (λ t. let x = h.0 t in (x.0, subst IsSome (sym (e x.0)) x.1), λ x. h.1 (x.0, subst IsSome (e x.0) x.1))

pub tells_nobody : (g : ℕ → Option Mode) → ((s : ℕ) → g s ≡ None) → TellsAny g false
tells_nobody g e = (λ t. absurd (no t), λ x. absurd (none (g x.0) (e x.0) x.1))
  where
    no : false ≡ true → ⊥
    no t = cc

    none : (o : Option Mode) → o ≡ None → is_some o ≡ true → ⊥
    none None e t = cc
    none (Some m) e t = cc

pub none_is_some : (o : Option Mode) → o ≡ None → IsSome o → ⊥
none_is_some None e h = cc
none_is_some (Some m) e h = cc
