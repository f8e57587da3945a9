-- What the operators compute.
use Rattle.std.specs.Prelude.{ℤ, pos, ◌+ℤ◌, ◌-ℤ◌, ◌*ℤ◌, int_div, int_rem, int_lt, Bool}
use Rattle.std.specs.Prelude.{if◌then◌else◌}
use Rattle.ml_search.specs.Evaluate.{Value, in_range, divide, modulo}
use Rattle.ml_arith.specs.declared.operator.Operator.{Operator}
use Rattle.ml_arith.specs.declared.operator.Operator.TheVariants.{Add, Subtract, Multiply}
use Rattle.ml_arith.specs.declared.operator.Operator.TheVariants.{Divide, Remainder, Modulo}

-- an operator's operation
abbrev pub operation : Operator → ℤ → ℤ → Value
operation Add = λ x y. in_range (x +ℤ y)
operation Subtract = λ x y. in_range (x -ℤ y)
operation Multiply = λ x y. in_range (x *ℤ y)
operation Divide = divide int_div
operation Remainder = divide int_rem
operation Modulo = divide modulo

-- whether a quotient truncated toward zero is above the exact one, by what is left of it and the
-- divisor: their signs differ
abbrev pub is_truncated_up : ℤ → ℤ → Bool
is_truncated_up rest divisor =
    if int_lt divisor (pos 0) then int_lt (pos 0) rest else int_lt rest (pos 0)
