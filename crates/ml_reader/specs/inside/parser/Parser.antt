-- The parser: one step for each token. No public clause but the law
-- `the_parser_is_exact` cites this module.
use Rattle.std.specs.Prelude.{pos, neg_ℤ, ℕ, Bool, true, false, ◌||◌, not, List, [], ◌∷◌, Option}
use Rattle.std.specs.Prelude.{Some, None, Result, Ok, Err}
use Rattle.ml_term.specs.Tree.{Tree, Trees, variable, integer, atom, compound, compound_1}
use Rattle.ml_term.specs.Tree.{compound_2, no_trees, tree}
use Rattle.ml_reader.specs.Lexemes.{ReadClause, clause_from, Lexeme, name, variable_lexeme, number}
use Rattle.ml_reader.specs.Lexemes.{open_paren, close_paren, open_list, close_list, open_curly}
use Rattle.ml_reader.specs.Lexemes.{close_curly, head_tail_separator, comma, end, trees_onto}
use Rattle.ml_reader.specs.Lexemes.{brackets_name, braces_name, is_minus, cell, cells}
use Rattle.ml_reader.specs.Operators.{Operator, max_priority, max_argument_priority, prefix_of}
use Rattle.ml_reader.specs.Operators.{is_operator, infix_at, closes, priority_fits}

-- what is open: an operator that waits for its right operand, or a bracket with what was read in
-- it, the last first
pub data Frame : Type 0 where
  prefix_frame : List ℕ → Operator → Frame
  infix_frame : Operator → Tree → Frame
  parens : Frame
  braces : Frame
  arguments : List ℕ → Trees → Frame
  list_elements : Trees → Frame
  list_tail : Trees → Frame

infixr 50 ◌▹◌
-- what is open, innermost first; at the bottom the clauses that were read, the last first
pub data Stack : Type 0 where
  root : List ReadClause → Stack
  ◌▹◌ : Frame → Stack → Stack

-- What the next token finds: a term is to begin, a bracket was opened, a name was read, or an
-- operand was read.
pub data State : Type 0 where
  expect_term : Stack → State  -- a term begins here
  after_open : Bool → Stack → State  -- an opening bracket was read
  after_name : Bool → List ℕ → Stack → State  -- a name was read where a term begins
  after_term : ℕ → Tree → Stack → State  -- an operand with its priority

-- A clash of priorities, or a token with which nothing goes on.
pub data Fault : Type 0 where
  clash : Fault
  unexpected : Fault

-- the next state, or a fault
abbrev pub Next : Type 0
Next = Result State Fault

-- commas are operators in the innermost bracket
abbrev pub commas : Stack → Bool
commas (root cs) = true
commas (prefix_frame f o ▹ fs) = commas fs
commas (infix_frame o t ▹ fs) = commas fs
commas (parens ▹ fs) = true
commas (braces ▹ fs) = true
commas (arguments f ts ▹ fs) = false
commas (list_elements ts ▹ fs) = false
commas (list_tail ts ▹ fs) = false

-- the greatest priority of the operand that is wanted
abbrev pub limit : Stack → ℕ
limit (root cs) = max_priority
limit (prefix_frame f o ▹ fs) = o.right
limit (infix_frame o t ▹ fs) = o.right
limit (parens ▹ fs) = max_priority
limit (braces ▹ fs) = max_priority
limit (arguments f ts ▹ fs) = max_argument_priority
limit (list_elements ts ▹ fs) = max_argument_priority
limit (list_tail ts ▹ fs) = max_argument_priority

-- an operand ends at a token that isn't an operator
abbrev pub finish_operand : Lexeme → Tree → Stack → Next
finish_operand x t (prefix_frame f o ▹ fs) = finish_operand x (compound_1 f t) fs
finish_operand x t (infix_frame o u ▹ fs) = finish_operand x (compound_2 o.name u t) fs
finish_operand close_paren t (parens ▹ fs) = Ok (after_term 0 t fs)
finish_operand close_curly t (braces ▹ fs) = Ok (after_term 0 (compound_1 braces_name t) fs)
finish_operand close_paren t (arguments f ts ▹ fs) =
    Ok (after_term 0 (compound f (trees_onto ts (tree t no_trees))) fs)
finish_operand comma t (arguments f ts ▹ fs) = Ok (expect_term (arguments f (tree t ts) ▹ fs))
finish_operand comma t (list_elements ts ▹ fs) = Ok (expect_term (list_elements (tree t ts) ▹ fs))
finish_operand head_tail_separator t (list_elements ts ▹ fs) =
    Ok (expect_term (list_tail (tree t ts) ▹ fs))
finish_operand close_list t (list_elements ts ▹ fs) =
    Ok (after_term 0 (cells ts (cell t (atom brackets_name))) fs)
finish_operand close_list t (list_tail ts ▹ fs) = Ok (after_term 0 (cells ts t) fs)
finish_operand (end n) t (root cs) = Ok (expect_term (root (clause_from n t ∷ cs)))
finish_operand x t fs = Err unexpected

-- an infix operator takes its left operand, if that fits
abbrev pub place_infix : Bool → Operator → Tree → Stack → Next
place_infix true o t fs = Ok (expect_term (infix_frame o t ▹ fs))
place_infix false o t fs = Err clash

-- the operator as its first argument fits in the frames or not: `low` is what is done if it doesn't
abbrev pub try_infix : Bool → Bool → Operator → ℕ → Tree → Stack → Next → Next
try_infix b true o p t fs low = place_infix (priority_fits b p o.left) o t fs
try_infix b false o p t fs low = low

-- an infix operator behind an operand
abbrev pub infix_operator : Bool → Operator → ℕ → Tree → Stack → Next
infix_operator b o p t (prefix_frame f o' ▹ fs) = try_infix b (priority_fits b o.priority o'.right)
    o p t (prefix_frame f o' ▹ fs) (infix_operator b o o'.priority (compound_1 f t) fs)
infix_operator b o p t (infix_frame o' u ▹ fs) = try_infix b (priority_fits b o.priority o'.right) o
    p t (infix_frame o' u ▹ fs) (infix_operator b o o'.priority (compound_2 o'.name u t) fs)
infix_operator b o p t (root cs) =
    try_infix b (priority_fits b o.priority max_priority) o p t (root cs) (Err clash)
infix_operator b o p t (f ▹ fs) =
    try_infix b (priority_fits b o.priority (limit (f ▹ fs))) o p t (f ▹ fs) (Err clash)

-- the same, by the infix operator that the token is, if it is one
abbrev pub follow_term_as : Bool → Option Operator → Lexeme → ℕ → Tree → Stack → Next
follow_term_as b (Some o) x p t fs = infix_operator b o p t fs
follow_term_as b None x p t fs = finish_operand x t fs

-- a token behind an operand
abbrev pub follow_term : Bool → Lexeme → ℕ → Tree → Stack → Next
follow_term b x p t fs = follow_term_as b (infix_at (commas fs) x) x p t fs

-- a token where a term begins
abbrev pub begin_term : Lexeme → Stack → Next
begin_term (name q f) fs = Ok (after_name (is_minus q f) f fs)
begin_term (variable_lexeme n) fs = Ok (after_term 0 (variable n) fs)
begin_term (number k n) fs = Ok (after_term 0 (integer (pos n)) fs)
begin_term (open_paren k) fs = Ok (expect_term (parens ▹ fs))
begin_term open_list fs = Ok (after_open true fs)
begin_term open_curly fs = Ok (after_open false fs)
begin_term x fs = Err unexpected

-- a token behind an opening bracket
abbrev pub follow_open : Bool → Lexeme → Stack → Next
follow_open true close_list fs = Ok (after_name false brackets_name fs)
follow_open false close_curly fs = Ok (after_name false braces_name fs)
follow_open true x fs = begin_term x (list_elements no_trees ▹ fs)
follow_open false x fs = begin_term x (braces ▹ fs)

-- a prefix operator, if it fits
abbrev pub place_prefix : Bool → List ℕ → Operator → Lexeme → Stack → Next
place_prefix true f o x fs = begin_term x (prefix_frame f o ▹ fs)
place_prefix false f o x fs = Err clash

-- a token behind a prefix operator
abbrev pub prefix_operator : Bool → Option Operator → List ℕ → Lexeme → Stack → Next
prefix_operator b None f x fs = Err unexpected
prefix_operator b (Some o) f x fs = place_prefix (priority_fits b o.priority (limit fs)) f o x fs

-- a token behind a name that is an operand, or else a prefix operator
abbrev pub operand_or_prefix : Bool → Bool → List ℕ → Lexeme → Stack → Next
operand_or_prefix b true f x fs = follow_term b x 0 (atom f) fs
operand_or_prefix b false f x fs = prefix_operator b (prefix_of f) f x fs

-- a token behind a name
abbrev pub follow_name : Bool → Bool → List ℕ → Lexeme → Stack → Next
follow_name b m f (open_paren true) fs = Ok (expect_term (arguments f no_trees ▹ fs))
follow_name b true f (number true n) fs = Ok (after_term 0 (integer (neg_ℤ (pos n))) fs)
follow_name b m f x fs = operand_or_prefix b (not (is_operator f) || closes x) f x fs

-- one token
abbrev pub step : Bool → State → Lexeme → Next
step b (expect_term fs) x = begin_term x fs
step b (after_open k fs) x = follow_open k x fs
step b (after_name m f fs) x = follow_name b m f x fs
step b (after_term p t fs) x = follow_term b x p t fs

-- tokens, one after another
abbrev pub run_tokens : Bool → Next → List Lexeme → Next
run_tokens b s [] = s
run_tokens b (Ok s) (x ∷ xs) = run_tokens b (step b s x) xs
run_tokens b (Err e) (x ∷ xs) = Err e

-- all tokens of a text
abbrev pub read_tokens : Bool → List Lexeme → Next
read_tokens b xs = run_tokens b (Ok (expect_term (root []))) xs
