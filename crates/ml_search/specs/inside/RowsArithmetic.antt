-- Worked rows of arithmetic.
use Rattle.std.specs.Prelude.{ℕ, ◌++◌, List, [], ◌∷◌, codes}
use Rattle.ml_term.specs.Tree.{Tree}
use Rattle.ml_search.specs.Program.{Goal}
use Rattle.ml_search.specs.inside.RowWords.{a, a1, a2, i, minus, v0, v1, plain, Answers, Fails}
use Rattle.ml_search.specs.inside.RowWords.{goal, script, Print}

-- `X is E` prints `X = TEXT`
abbrev pub Value : Tree → List ℕ → Type 0
Value e text =
    Answers (plain []) (a2 (codes "is") v0 e) (codes "X" ∷ [])
    ((codes "  X = " ++ text) ∷ codes "  1 answers" ∷ [])

-- `X is E` prints `error TEXT`
abbrev pub Raises : Tree → List ℕ → Type 0
Raises e text =
    Fails (plain []) (a2 (codes "is") v0 e) (codes "X" ∷ []) ((codes "  error " ++ text) ∷ [])

-- a goal without variables has one answer, or none
abbrev pub Holds : Tree → Type 0
Holds t = Answers (plain []) t [] (codes "  true" ∷ codes "  1 answers" ∷ [])

abbrev pub HoldsNot : Tree → Type 0
HoldsNot t = Answers (plain []) t [] (codes "  0 answers" ∷ [])

-- a goal `X is E`
abbrev is : Tree → Goal
is e = goal (a2 (codes "is") v0 e) (codes "X" ∷ [])

pub record ArithmeticRows : Type 0 where
  pub four_goals
      : Print (plain [])
      (script
      (is (a2 (codes "mod") (minus 7) (i 2)) ∷ is (a2 (codes "rem") (minus 7) (i 2))
      ∷ is (a2 (codes "//") (minus 7) (i 2)) ∷ is (a2 (codes "+") (i 2305843009213693951) (i 1))
      ∷ []) ∷ [])
      (codes "session 1 failed at goal 4" ∷ codes "goal 1" ∷ codes "  X = 1" ∷ codes "  1 answers"
      ∷ codes "goal 2" ∷ codes "  X = -1" ∷ codes "  1 answers"
      ∷ codes "goal 3" ∷ codes "  X = -3" ∷ codes "  1 answers" ∷ codes "goal 4"
      ∷ codes "  error evaluation_error(int_overflow)" ∷ [])
  pub sum : Value (a2 (codes "+") (i 2) (i 3)) (codes "5")
  pub difference : Value (a2 (codes "-") (i 2) (i 3)) (codes "-1")
  pub product : Value (a2 (codes "*") (minus 2) (i 3)) (codes "-6")
  pub opposite : Value (a1 (codes "-") (i 3)) (codes "-3")
  pub quotient_is_truncated_toward_zero : Value (a2 (codes "//") (minus 7) (i 2)) (codes "-3")
  pub remainder_has_the_sign_of_the_dividend : Value (a2 (codes "rem") (minus 7) (i 2)) (codes "-1")
  pub remainder_by_a_negative_divisor : Value (a2 (codes "rem") (i 7) (minus 2)) (codes "1")
  pub modulo_has_the_sign_of_the_divisor : Value (a2 (codes "mod") (minus 7) (i 2)) (codes "1")
  pub modulo_by_a_negative_divisor : Value (a2 (codes "mod") (i 7) (minus 2)) (codes "-1")
  pub modulo_of_a_multiple : Value (a2 (codes "mod") (minus 6) (i 2)) (codes "0")
  pub modulo_of_two_negatives : Value (a2 (codes "mod") (minus 7) (minus 2)) (codes "-1")
  pub the_smallest_integer : Value (a2 (codes "-") (minus 2305843009213693951) (i 1))
      (codes "-2305843009213693952")
  pub a_sum_out_of_range : Raises (a2 (codes "+") (i 2305843009213693951) (i 1))
      (codes "evaluation_error(int_overflow)")
  pub a_difference_out_of_range : Raises (a2 (codes "-") (minus 2305843009213693952) (i 1))
      (codes "evaluation_error(int_overflow)")
  pub a_quotient_out_of_range : Raises (a2 (codes "//") (minus 2305843009213693952) (minus 1))
      (codes "evaluation_error(int_overflow)")
  pub an_opposite_out_of_range : Raises (a1 (codes "-") (minus 2305843009213693952))
      (codes "evaluation_error(int_overflow)")
  pub a_product_out_of_range_inside : Raises
      (a2 (codes "-") (a2 (codes "*") (i 2000000000) (i 2000000000)) (i 2000000000))
      (codes "evaluation_error(int_overflow)")
  pub no_quotient_by_zero : Raises (a2 (codes "//") (i 1) (i 0))
      (codes "evaluation_error(zero_divisor)")
  pub no_remainder_by_zero : Raises (a2 (codes "rem") (i 1) (i 0))
      (codes "evaluation_error(zero_divisor)")
  pub no_modulo_by_zero : Raises (a2 (codes "mod") (i 1) (i 0))
      (codes "evaluation_error(zero_divisor)")
  pub a_variable_has_no_value : Raises (a2 (codes "+") (i 1) v1) (codes "instantiation_error")
  pub an_atom_has_no_value : Raises (a (codes "foo")) (codes "type_error(evaluable,/(foo,0))")
  pub a_compound_has_no_value : Raises (a2 (codes "/") (i 1) (i 0))
      (codes "type_error(evaluable,/(/,2))")
  pub the_operator_is_looked_at_before_its_arguments : Raises (a2 (codes "foo") v1 (i 1))
      (codes "type_error(evaluable,/(foo,2))")
  pub the_left_operand_comes_first : Raises (a2 (codes "+") (a (codes "foo")) v1)
      (codes "type_error(evaluable,/(foo,0))")
  pub a_fault_inside_comes_before_the_divisor : Raises (a2 (codes "//") (a (codes "foo")) (i 0))
      (codes "type_error(evaluable,/(foo,0))")
  pub values_are_equal : Holds (a2 (codes "=:=") (a2 (codes "+") (i 1) (i 1)) (i 2))
  pub values_differ : Holds (a2 (codes "=\\=") (i 1) (i 2))
  pub a_value_is_less : Holds (a2 (codes "<") (minus 1) (i 0))
  pub a_value_is_not_less_than_itself : HoldsNot (a2 (codes "<") (i 1) (i 1))
  pub a_value_is_at_most_itself : Holds (a2 (codes "=<") (i 1) (i 1))
  pub a_value_is_greater : Holds (a2 (codes ">") (i 2) (a1 (codes "-") (i 2)))
  pub a_value_is_at_least_itself : Holds (a2 (codes ">=") (i 1) (i 1))
  pub a_value_is_not_at_least_a_greater_one : HoldsNot (a2 (codes ">=") (i 1) (i 2))
  pub the_left_side_is_evaluated_first : Fails (plain [])
      (a2 (codes "<") (a (codes "foo")) (a (codes "bar"))) []
      (codes "  error type_error(evaluable,/(foo,0))" ∷ [])
  pub a_value_is_unified_with_the_left_side : HoldsNot
      (a2 (codes "is") (a2 (codes "+") (i 1) (i 1)) (i 2))
