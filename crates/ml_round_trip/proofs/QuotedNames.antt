-- What is written of a name between quotes spells it.
use Rattle.std.specs.Prelude.{◌≡◌, ℕ, zero, suc, ◌+◌, ◌-◌, ◌≤◌, true, false, ◌&&◌, ◌||◌, ◌==◌, nat_le, List, [], ◌∷◌, ◌++◌, Some, slice_index}
use Rattle.std.specs.List.{flat_map, list_all}
use Rattle.std.proofs.Common.{inl, inr, refl, sym, ap, ◌∙◌, arith, subst, eqb-true}
use Rattle.std.proofs.lemmas.Bool.Decides.{nat_tests}
use Rattle.ml_token.specs.Quoted.{escape_of}
use Rattle.ml_token.specs.Language.{is_plain, Spells, nothing, plain, escape}
use Rattle.ml_term.specs.Names.{is_name_byte}
use Rattle.ml_term.specs.Text.{escape_letters, quoted_byte}
use Rattle.ml_round_trip.proofs.BooleanTests.{cond_cases, both, either}

-- the letters stand for the bytes 7 to 13
letter_of : (k : ℕ) → k ≤ 6 → escape_of (slice_index escape_letters k) ≡ Some (7 + k)
letter_of zero h = refl
letter_of (suc zero) h = refl
letter_of (suc (suc zero)) h = refl
letter_of (suc (suc (suc zero))) h = refl
letter_of (suc (suc (suc (suc zero)))) h = refl
letter_of (suc (suc (suc (suc (suc zero))))) h = refl
letter_of (suc (suc (suc (suc (suc (suc zero)))))) h = refl
letter_of (suc (suc (suc (suc (suc (suc (suc k))))))) h = absurd (omega arith)

control_letter : (b : ℕ) → (nat_le 7 b && nat_le b 13) ≡ true → escape_of (slice_index escape_letters (b - 7)) ≡ Some b
control_letter b e =
    let h : 7 ≤ b = grind (arith, nat_tests) in
    let k : b - 7 ≤ 6 = grind (arith, nat_tests) in
    let m : 7 + (b - 7) ≡ b = omega arith in
    letter_of (b - 7) k ∙ ap Some m

own_letter : (b : ℕ) → (b == 92 || b == 39) ≡ true → escape_of b ≡ Some b
own_letter b e = elim (either (b == 92) (b == 39) e) [
  | inl h ↦ subst (λ n. escape_of n ≡ Some n) (sym (eqb-true b 92 h)) refl
  | inr h ↦ subst (λ n. escape_of n ≡ Some n) (sym (eqb-true b 39 h)) refl
]

plain_byte : (b : ℕ) → is_name_byte b ≡ true → (nat_le 7 b && nat_le b 13) ≡ false → (b == 92 || b == 39) ≡ false → is_plain b ≡ true
plain_byte b e f g = grind (arith, nat_tests)

spells_byte : (b : ℕ) (text name : List ℕ) → is_name_byte b ≡ true → Spells text name → Spells (quoted_byte b ++ text) (b ∷ name)
spells_byte b text name e h =
    cond_cases (λ xs. Spells (xs ++ text) (b ∷ name)) (nat_le 7 b && nat_le b 13) _ _ (λ f. escape (control_letter b f) h)
    (λ f. cond_cases (λ xs. Spells (xs ++ text) (b ∷ name)) ((b == 92) || (b == 39)) _ _ (λ g. escape (own_letter b g) h) (λ g. plain (plain_byte b e f g) h))

pub spells_name : (f : List ℕ) → list_all is_name_byte f ≡ true → Spells (flat_map quoted_byte f) f
spells_name [] e = nothing
spells_name (b ∷ bs) e = let h = both (is_name_byte b) (list_all is_name_byte bs) e in spells_byte b (flat_map quoted_byte bs) bs h.0 (spells_name bs h.1)
