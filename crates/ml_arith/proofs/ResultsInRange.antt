-- Results are in range.
use Rattle.std.specs.Prelude.{◌≡◌, ℕ, ◌<◌, ℤ, pos, negsuc, Bool, true, false, nat_lt, if◌then◌else◌}
use Rattle.std.specs.Prelude.{◌+ℤ◌, ◌-ℤ◌, ◌*ℤ◌, int_div, int_rem, FitsSigned}
use Rattle.std.specs.Ordering.{int_eq}
use Rattle.std.proofs.Common.{refl, subst, arith}
use Rattle.std.proofs.lemmas.Int.{fits_signed_from_abs}
use mir.Syntax.{w64}
use Rattle.ml_term.specs.Tree.{Tree}
use Rattle.ml_term.specs.Valid.{is_in_range}
use Rattle.ml_search.specs.Evaluate.{Value, value, no_value, in_range, divide, modulo}
use Rattle.ml_arith.specs.declared.operator.Operator.{Operator}
use Rattle.ml_arith.specs.declared.operator.Operator.TheVariants.{Add, Subtract, Multiply, Divide, Remainder, Modulo}
use Rattle.ml_arith.specs.inside.Operators.{operation}

tested : (b : Bool) (w z : ℤ) (e : Tree) → (if b then value w else no_value e) ≡ value z → (b ≡ true) × (w ≡ z)
tested true w z e h = (refl, cc h)
tested false w z e h = absurd (cc h)

value_in_range : (w z : ℤ) → in_range w ≡ value z → is_in_range z ≡ true
value_in_range w z h = let p = tested (is_in_range w) w z _ h in subst (λ x. is_in_range x ≡ true) p.1 p.0

divided : (b : Bool) (v : Value) (z : ℤ) (e : Tree) → (if b then no_value e else v) ≡ value z → v ≡ value z
divided true v z e h = absurd (cc h)
divided false v z e h = h

quotient_in_range : (f : ℤ → ℤ → ℤ) (x y z : ℤ) → divide f x y ≡ value z → is_in_range z ≡ true
quotient_in_range f x y z h = value_in_range (f x y) z (divided (int_eq y (pos 0)) (in_range (f x y)) z _ h)

pub result_in_range : (o : Operator) (x y z : ℤ) → operation o x y ≡ value z → is_in_range z ≡ true
result_in_range Add x y z h = value_in_range (x +ℤ y) z h
result_in_range Subtract x y z h = value_in_range (x -ℤ y) z h
result_in_range Multiply x y z h = value_in_range (x *ℤ y) z h
result_in_range Divide x y z h = quotient_in_range int_div x y z h
result_in_range Remainder x y z h = quotient_in_range int_rem x y z h
result_in_range Modulo x y z h = quotient_in_range modulo x y z h

below_offset : (n : ℕ) → nat_lt n 2305843009213693952 ≡ true → n < 2305843009213693952
below_offset n e = grind arith

pub range_fits : (z : ℤ) → is_in_range z ≡ true → FitsSigned w64 z
range_fits (pos n) h = fits_signed_from_abs w64 (pos n) (omega (arith, below_offset n h))
range_fits (negsuc n) h = fits_signed_from_abs w64 (negsuc n) (omega (arith, below_offset n h))
