-- Which levels the parser has open in front of a token, and when two of its states are alike there.
use Rattle.std.specs.Prelude.{◌≡◌, ◌+◌, Bool, true, false, List, [], ◌∷◌, length, Option, Some, None}
use Rattle.std.proofs.Common.{refl, arith}
use Rattle.ml_term.specs.Tree.{arity}
use Rattle.ml_reader.specs.Lexemes.{Lexeme}
use Rattle.ml_reader.specs.Operators.{Operator, prefix_of}
use Rattle.ml_reader.specs.inside.parser.Parser.{prefix_frame, infix_frame, parens, braces, arguments, list_elements, list_tail, Stack, root, ◌▹◌, State}
use Rattle.ml_reader.specs.inside.parser.Parser.{expect_term, after_open, after_name, after_term, commas, limit, step}
use Rattle.ml_reader.specs.Levels.{Level, enclosed, in_argument, in_list, in_tail, right_of, commas_inside, greatest_inside}
use Rattle.ml_reader.specs.inside.parser.LimitedSteps.{depth, makes_prefix, token_too_deep, is_lone}

-- the levels of frames
abbrev pub opened : Stack → List Level
opened (root cs) = []
opened (prefix_frame f o ▹ fs) = right_of o.right ∷ opened fs
opened (infix_frame o t ▹ fs) = right_of o.right ∷ opened fs
opened (parens ▹ fs) = enclosed ∷ opened fs
opened (braces ▹ fs) = enclosed ∷ opened fs
opened (arguments f ts ▹ fs) = in_argument (1 + arity ts) ∷ opened fs
opened (list_elements ts ▹ fs) = in_list ∷ opened fs
opened (list_tail ts ▹ fs) = in_tail ∷ opened fs

pub commas_opened : (fs : Stack) → commas_inside (opened fs) ≡ commas fs
commas_opened (root cs) = refl
commas_opened (prefix_frame f o ▹ fs) = commas_opened fs
commas_opened (infix_frame o t ▹ fs) = commas_opened fs
commas_opened (parens ▹ fs) = refl
commas_opened (braces ▹ fs) = refl
commas_opened (arguments f ts ▹ fs) = refl
commas_opened (list_elements ts ▹ fs) = refl
commas_opened (list_tail ts ▹ fs) = refl

pub greatest_opened : (fs : Stack) → greatest_inside (opened fs) ≡ limit fs
greatest_opened (root cs) = refl
greatest_opened (prefix_frame f o ▹ fs) = refl
greatest_opened (infix_frame o t ▹ fs) = refl
greatest_opened (parens ▹ fs) = refl
greatest_opened (braces ▹ fs) = refl
greatest_opened (arguments f ts ▹ fs) = refl
greatest_opened (list_elements ts ▹ fs) = refl
greatest_opened (list_tail ts ▹ fs) = refl

-- each frame is a level
pub length_opened : (fs : Stack) → length (opened fs) ≡ depth fs
length_opened (root cs) = refl
length_opened (prefix_frame f o ▹ fs) = omega (arith, length_opened fs)
length_opened (infix_frame o t ▹ fs) = omega (arith, length_opened fs)
length_opened (parens ▹ fs) = omega (arith, length_opened fs)
length_opened (braces ▹ fs) = omega (arith, length_opened fs)
length_opened (arguments f ts ▹ fs) = omega (arith, length_opened fs)
length_opened (list_elements ts ▹ fs) = omega (arith, length_opened fs)
length_opened (list_tail ts ▹ fs) = omega (arith, length_opened fs)

-- the levels of a name that is a prefix operator, or none
abbrev pub prefix_path : Bool → Option Operator → Stack → Option (List Level)
prefix_path true (Some o) fs = Some (right_of o.right ∷ opened fs)
prefix_path k m fs = None

-- the levels that are open in front of a token where a term may begin, or would behind a prefix operator that doesn't fit
abbrev pub path_before : State → Lexeme → Option (List Level)
path_before (expect_term fs) x = Some (opened fs)
path_before (after_open true fs) x = Some (in_list ∷ opened fs)
path_before (after_open false fs) x = Some (enclosed ∷ opened fs)
path_before (after_name m f fs) x = prefix_path (makes_prefix (after_name m f fs) x) (prefix_of f) fs
path_before (after_term p t fs) x = None

-- in front of this token the states are alike
pub record Alike (s r : State) (x : Lexeme) : Type 0 where
  pub same_step : step true s x ≡ step true r x
  pub same_path : path_before s x ≡ path_before r x
  pub same_past : token_too_deep s x ≡ token_too_deep r x
  pub same_lone : is_lone s x ≡ is_lone r x
