-- The names of variables tell them apart.
use Rattle.std.specs.Prelude.{◌≡◌, ◌≢◌, ℕ, zero, suc, ◌+◌, ◌^◌, ◌<◌, ◌≤◌, Bool, true, false, cond, List, [], ◌∷◌, ◌++◌, length, Some, None, codes}
use Rattle.std.specs.Str.{bytes_eq}
use Rattle.std.proofs.Common.{inl, inr, refl, sym, ap, ◌∙◌, arith}
use Rattle.std.proofs.lemmas.Bool.Decides.{eqb_tells}
use Rattle.std.proofs.lemmas.Slice.Eq.{bytes_eq-Decides}
use Rattle.ml_term.specs.Decimal.{decimal_text}
use Rattle.ml_reader.specs.Tokens.{find_name, is_anonymous}
use Rattle.ml_round_trip.specs.ReadBack.{variable_name, variable_names}
use Rattle.ml_round_trip.proofs.BooleanTests.{same_bytes}
use Rattle.ml_round_trip.proofs.DecimalDigits.{decimal_is, decimal_apart}

found_first : (ns ms : List (List ℕ × ℕ)) (f : List ℕ) (p : ℕ) → find_name ns f ≡ Some p → find_name (ns ++ ms) f ≡ Some p
found_first [] ms f p e = absurd (cc)
found_first (n ∷ ns) ms f p e = by_test (bytes_eq n.0 f) (found_first ns ms f p) e
  where
    by_test : (b : Bool) → (find_name ns f ≡ Some p → find_name (ns ++ ms) f ≡ Some p) → cond b (Some n.1) (find_name ns f) ≡ Some p
        → cond b (Some n.1) (find_name (ns ++ ms) f) ≡ Some p
    by_test true h e = e
    by_test false h e = h e

found_later : (ns ms : List (List ℕ × ℕ)) (f : List ℕ) → find_name ns f ≡ None → find_name (ns ++ ms) f ≡ find_name ms f
found_later [] ms f e = refl
found_later (n ∷ ns) ms f e = by_test (bytes_eq n.0 f) (found_later ns ms f) e
  where
    by_test : (b : Bool) → (find_name ns f ≡ None → find_name (ns ++ ms) f ≡ find_name ms f) → cond b (Some n.1) (find_name ns f) ≡ None
        → cond b (Some n.1) (find_name (ns ++ ms) f) ≡ find_name ms f
    by_test true h e = absurd (cc)
    by_test false h e = h e

tail_same : (a : ℕ) (xs ys : List ℕ) → a ∷ xs ≡ a ∷ ys → xs ≡ ys
tail_same a xs ys e = cc

names_differ : (m n : ℕ) → 1 + m < 10 ^ 20 → 1 + n < 10 ^ 20 → m ≢ n → bytes_eq (variable_name m) (variable_name n) ≡ false
names_differ m n l k d = by_test (bytes_eq (variable_name m) (variable_name n)) refl
  where
    by_test : (b : Bool) → bytes_eq (variable_name m) (variable_name n) ≡ b → b ≡ false
    by_test true e =
        let q : 1 + m ≡ 1 + n = decimal_apart (1 + m) (1 + n) l k (tail_same 95 _ _ (same_bytes (variable_name m) (variable_name n) e)) in
        absurd (d (omega arith))
    by_test false e = refl

-- a variable that has no name yet
pub not_found : (v p : ℕ) → v ≤ p → 1 + p < 10 ^ 20 → find_name (variable_names v) (variable_name p) ≡ None
not_found zero p h l = refl
not_found (suc v) p h l =
    found_later (variable_names v) ((variable_name v, v) ∷ []) (variable_name p) (not_found v p (omega arith) l)
    ∙ ap (λ b. cond b (Some v) None) (names_differ v p (omega arith) l (omega arith))

-- a variable that has a name
pub found : (v p : ℕ) → p < v → 1 + v < 10 ^ 20 → find_name (variable_names v) (variable_name p) ≡ Some p
found zero p h l = absurd (omega arith)
found (suc v) p h l = elim (eqb_tells p v) [
  | inl q ↦
      found_later (variable_names v) ((variable_name v, v) ∷ []) (variable_name p) (not_found v p (omega (arith, q.1)) (omega (arith, q.1)))
      ∙ (ap (λ b. cond b (Some v) None) ((bytes_eq-Decides (variable_name v) (variable_name p)).1 (ap variable_name (sym q.1))) ∙ ap Some (sym q.1))
  | inr q ↦ found_first (variable_names v) ((variable_name v, v) ∷ []) (variable_name p) p (found v p (omega arith) (omega arith))
]

not_empty : (ds : List ℕ) → 1 ≤ length ds → bytes_eq (codes "_") (95 ∷ ds) ≡ false
not_empty [] l = absurd (omega arith)
not_empty (d ∷ ds) l = refl

pub not_anonymous : (p : ℕ) → 1 + p < 10 ^ 20 → is_anonymous (variable_name p) ≡ false
not_anonymous p l = not_empty (decimal_text (1 + p)) (decimal_is (1 + p) l).some
