-- The decimal numbers of std are those of the definitions.
use Rattle.std.specs.Prelude.{◌≡◌, ℕ, suc, ◌+◌, ◌^◌, ◌<◌, nat_lt, ℤ, pos, negsuc, ◌∷◌, FitsSigned}
use Rattle.std.specs.Int.{w64}
use Rattle.std.specs.Fmt.{decimal, signed_decimal}
use Rattle.std.proofs.Common.{sym, ap, ◌∙◌, arith}
use Rattle.std.proofs.lemmas.Bool.{cond-true, cond-false, lt-ltb, le-ltb}
use Rattle.std.proofs.lemmas.Fmt.{AppendsLastDigit, decimal_from_appends, length-decimal-le}
use Rattle.ml_term.specs.Decimal.{digits_of, decimal_text, integer_text}

appends : AppendsLastDigit digits_of
appends = record {
  one = λ k n below. cond-true (nat_lt n 10) _ _ (lt-ltb n 10 below);
  more = λ k n above. cond-false (nat_lt n 10) _ _ (le-ltb n 10 above);
}

pub decimal_is_text : (n : ℕ) → n < 2 ^ 64 → decimal n ≡ decimal_text n
decimal_is_text n below = sym (decimal_from_appends digits_of appends 20 n below (length-decimal-le 20 n (omega arith) (omega arith) below))

pub signed_decimal_is_text : (z : ℤ) → FitsSigned w64 z → signed_decimal z ≡ integer_text z
signed_decimal_is_text (pos n) fits = decimal_is_text n (omega (arith, fits.sfits))
signed_decimal_is_text (negsuc n) fits =
    let e : suc n ≡ n + 1 = omega arith in
    ap (λ bs. 45 ∷ bs) (decimal_is_text (suc n) (omega (arith, fits.sfits)) ∙ ap decimal_text e)
