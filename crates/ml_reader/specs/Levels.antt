-- Levels. One is opened by each `(`, `[` and `{` until its closing one, also where that follows at
-- once, and by each prefix or infix operator until its right operand ends.
use Rattle.std.specs.Prelude.{◌≡◌, ℕ, ◌+◌, max, Bool, true, false, not, IsTrue, if◌then◌else◌}
use Rattle.std.specs.Prelude.{nat_le, List, [], ◌∷◌, ◌++◌, length, Some, None}
use Rattle.ml_term.specs.Tree.{Tree, Trees}
use Rattle.ml_reader.specs.Lexemes.{ClauseEnd, ReadClause, Lexeme, open_paren, open_list}
use Rattle.ml_reader.specs.Lexemes.{open_curly, head_tail_separator, comma, end}
use Rattle.ml_reader.specs.Operators.{Operator, max_priority, max_argument_priority, prefix_of}
use Rattle.ml_reader.specs.Operators.{is_operator, infix_at, closes, priority_fits}
use Rattle.ml_reader.specs.Grammar.{Word, plain, brackets, curlies, joins, Derives, a_variable}
use Rattle.ml_reader.specs.Grammar.{a_number, a_negative, in_braces, an_atom, a_compound, in_parens}
use Rattle.ml_reader.specs.Grammar.{a_list, a_prefix, an_infix, Arguments, last_argument, argument}
use Rattle.ml_reader.specs.Grammar.{Elements, last_element, before_bar, element, IsText, no_clause}
use Rattle.ml_reader.specs.Grammar.{a_clause}

-- a level that is open: parentheses or braces round a term, an argument of a compound by its number
-- from 1, an element of a list, what stands behind a list's bar, or an operator's right operand by
-- the greatest priority that it may have
pub data Level : Type 0 where
  enclosed : Level
  in_argument : ℕ → Level
  in_list : Level
  in_tail : Level
  right_of : ℕ → Level

-- commas are operators inside these levels, the innermost first
abbrev pub commas_inside : List Level → Bool
commas_inside [] = true
commas_inside (enclosed ∷ ls) = true
commas_inside (right_of p ∷ ls) = commas_inside ls
commas_inside (l ∷ ls) = false

-- the greatest priority of a term inside these levels, the innermost first
abbrev pub greatest_inside : List Level → ℕ
greatest_inside [] = max_priority
greatest_inside (enclosed ∷ ls) = max_priority
greatest_inside (right_of p ∷ ls) = p
greatest_inside (l ∷ ls) = max_argument_priority

-- in front of ys, with which the tokens xs end, a term may begin, and these levels are open, the
-- innermost first; b: priorities count
pub data Wants (b : Bool) (xs : List Lexeme) : List Lexeme → List Level → Type 0 where
  at_first : Wants b xs xs []
  behind_clause : {ys zs : List Lexeme} {m : ClauseEnd} {p : ℕ} {t : Tree} → Wants b xs ys []
      → Derives b true ys (end m ∷ zs) p t → IsTrue (priority_fits b p max_priority)
      → Wants b xs zs []
  behind_paren : {ys : List Lexeme} {ls : List Level} {k : Bool} → Wants b xs (open_paren k ∷ ys) ls
      → Wants b xs ys (enclosed ∷ ls)
  behind_brace : {ys : List Lexeme} {ls : List Level} → Wants b xs (open_curly ∷ ys) ls
      → Wants b xs ys (enclosed ∷ ls)
  behind_bracket : {ys : List Lexeme} {ls : List Level} → Wants b xs (open_list ∷ ys) ls
      → Wants b xs ys (in_list ∷ ls)
  behind_functor : {ys zs : List Lexeme} {ls : List Level} {m : Bool} {f : List ℕ}
      → Wants b xs ys ls → Word ys (open_paren true ∷ zs) m f → Wants b xs zs (in_argument 1 ∷ ls)
  behind_argument : {ys zs : List Lexeme} {ls : List Level} {n p : ℕ} {t : Tree}
      → Wants b xs ys (in_argument n ∷ ls) → Derives b false ys (comma ∷ zs) p t
      → IsTrue (priority_fits b p max_argument_priority)
      → Wants b xs zs (in_argument (1 + n) ∷ ls)
  behind_element : {ys zs : List Lexeme} {ls : List Level} {p : ℕ} {t : Tree}
      → Wants b xs ys (in_list ∷ ls) → Derives b false ys (comma ∷ zs) p t
      → IsTrue (priority_fits b p max_argument_priority)
      → Wants b xs zs (in_list ∷ ls)
  behind_bar : {ys zs : List Lexeme} {ls : List Level} {p : ℕ} {t : Tree}
      → Wants b xs ys (in_list ∷ ls) → Derives b false ys (head_tail_separator ∷ zs) p t
      → IsTrue (priority_fits b p max_argument_priority)
      → Wants b xs zs (in_tail ∷ ls)
  behind_prefix : {y : Lexeme} {ys zs : List Lexeme} {ls : List Level} {m : Bool} {f : List ℕ}
      {o : Operator} → Wants b xs ys ls → Word ys (y ∷ zs) m f → prefix_of f ≡ Some o
      → IsTrue (not (joins m (y ∷ zs))) → closes y ≡ false
      → IsTrue (priority_fits b o.priority (greatest_inside ls))
      → Wants b xs (y ∷ zs) (right_of o.right ∷ ls)
  behind_infix : {x : Lexeme} {ys zs : List Lexeme} {ls : List Level} {o : Operator} {p : ℕ}
      {t : Tree} → Wants b xs ys ls → Derives b (commas_inside ls) ys (x ∷ zs) p t
      → infix_at (commas_inside ls) x ≡ Some o → IsTrue (priority_fits b p o.left)
      → IsTrue (priority_fits b o.priority (greatest_inside ls))
      → Wants b xs zs (right_of o.right ∷ ls)

-- In front of ys, with which the tokens xs end, these levels are open: a term may begin there, or
-- right before ys stands a prefix operator where a term may begin, whether or not its priority
-- fits.
pub data OpenBefore (xs : List Lexeme) : List Lexeme → List Level → Type 0 where
  before_term : {ys : List Lexeme} {ls : List Level} → Wants true xs ys ls → OpenBefore xs ys ls
  before_operand : {y : Lexeme} {ys zs : List Lexeme} {ls : List Level} {m : Bool} {f : List ℕ}
      {o : Operator} → Wants true xs ys ls → Word ys (y ∷ zs) m f → prefix_of f ≡ Some o
      → IsTrue (not (joins m (y ∷ zs))) → closes y ≡ false
      → OpenBefore xs (y ∷ zs) (right_of o.right ∷ ls)

-- the token is an opening bracket
abbrev pub is_opening : Lexeme → Bool
is_opening (open_paren k) = true
is_opening open_list = true
is_opening open_curly = true
is_opening x = false

-- the levels that an infix operator of priority p leaves open: it ends the operators before it
-- whose right operands may not have this priority, up to the innermost bracket
abbrev pub left_open : ℕ → List Level → List Level
left_open p (right_of q ∷ ls) = if nat_le p q then right_of q ∷ ls else left_open p ls
left_open p ls = ls

-- The token x behind the tokens xs opens this level, whether or not the grammar goes on with it: a
-- bracket where a term may begin, or behind a prefix operator; a bracket behind an operand, where
-- the operators before the operand are still open, or behind the name of an operator that is no
-- prefix operator and no atom; and an infix operator behind an operand. An operand of priority 0 is
-- one that is no operator term, so it is the last one.
pub data OpensLevel (xs : List Lexeme) (x : Lexeme) : ℕ → Type 0 where
  bracket_of_term : {ls : List Level} → OpenBefore (xs ++ x ∷ []) (x ∷ []) ls
      → IsTrue (is_opening x) → OpensLevel xs x (1 + length ls)
  bracket_behind_operand : {ys : List Lexeme} {ls : List Level} {t : Tree}
      → Wants true (xs ++ x ∷ []) ys ls → Derives true (commas_inside ls) ys (x ∷ []) 0 t
      → IsTrue (is_opening x) → OpensLevel xs x (1 + length ls)
  bracket_behind_name : {ys : List Lexeme} {ls : List Level} {m : Bool} {f : List ℕ}
      → Wants true (xs ++ x ∷ []) ys ls → Word ys (x ∷ []) m f → IsTrue (is_operator f)
      → prefix_of f ≡ None → IsTrue (not (joins m (x ∷ []))) → IsTrue (is_opening x)
      → OpensLevel xs x (1 + length ls)
  infix_behind_operand : {ys : List Lexeme} {ls : List Level} {t : Tree} {o : Operator}
      → Wants true (xs ++ x ∷ []) ys ls → Derives true (commas_inside ls) ys (x ∷ []) 0 t
      → infix_at (commas_inside ls) x ≡ Some o
      → OpensLevel xs x (1 + length (left_open o.priority ls))

-- how many levels a name opens: brackets with nothing between them are one
abbrev pub levels_of_name : {xs ys : List Lexeme} {m : Bool} {f : List ℕ} → Word xs ys m f → ℕ
levels_of_name plain = 0
levels_of_name brackets = 1
levels_of_name curlies = 1

abbrev mutual
  -- how many levels a derivation has open at most at once
  pub most_levels : {b c : Bool} {xs ys : List Lexeme} {p : ℕ} {t : Tree}
      → Derives b c xs ys p t → ℕ
  most_levels a_variable = 0
  most_levels a_number = 0
  most_levels (a_negative w) = 0
  most_levels (in_braces d l) = 1 + most_levels d
  most_levels (an_atom w a) = levels_of_name w
  most_levels (a_compound w ds) = 1 + most_levels_of_arguments ds
  most_levels (in_parens d l) = 1 + most_levels d
  most_levels (a_list ds) = 1 + most_levels_of_elements ds
  most_levels (a_prefix w e n d l) = 1 + most_levels d
  most_levels (an_infix d e l d' l') = max (most_levels d) (1 + most_levels d')

  pub most_levels_of_arguments : {b : Bool} {xs ys : List Lexeme} {ts : Trees}
      → Arguments b xs ys ts → ℕ
  most_levels_of_arguments (last_argument d l) = most_levels d
  most_levels_of_arguments (argument d l ds) = max (most_levels d) (most_levels_of_arguments ds)

  pub most_levels_of_elements : {b : Bool} {xs ys : List Lexeme} {t : Tree} → Elements b xs ys t → ℕ
  most_levels_of_elements (last_element d l) = most_levels d
  most_levels_of_elements (before_bar d l d' l') = max (most_levels d) (most_levels d')
  most_levels_of_elements (element d l ds) = max (most_levels d) (most_levels_of_elements ds)

-- the same over all clauses of a text
abbrev pub most_levels_of_text : {b : Bool} {xs : List Lexeme} {cs : List ReadClause}
    → IsText b xs cs → ℕ
most_levels_of_text no_clause = 0
most_levels_of_text (a_clause d l i) = max (most_levels d) (most_levels_of_text i)
