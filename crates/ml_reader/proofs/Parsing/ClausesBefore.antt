-- The parser doesn't look at the clauses that were read before.
use Rattle.std.specs.Prelude.{◌≡◌, ℕ, Bool, true, false, ◌||◌, not, List, ◌++◌, Option, Some, None, Ok, Err}
use Rattle.std.proofs.Common.{refl, ap, ◌∙◌}
use Rattle.ml_term.specs.Tree.{Tree, atom, compound_1, compound_2, no_trees}
use Rattle.ml_reader.specs.Lexemes.{ReadClause, Lexeme, name, variable_lexeme, number, open_paren, close_paren, open_list, close_list, open_curly, close_curly}
use Rattle.ml_reader.specs.Lexemes.{head_tail_separator, comma, end}
use Rattle.ml_reader.specs.Operators.{Operator, prefix_of, is_operator, infix_at, closes, priority_fits}
use Rattle.ml_reader.specs.inside.parser.Parser.{prefix_frame, infix_frame, parens, braces, arguments, list_elements, list_tail, Stack, root, ◌▹◌, State}
use Rattle.ml_reader.specs.inside.parser.Parser.{expect_term, after_open, after_name, after_term, clash, Next, commas, limit, finish_operand, place_infix}
use Rattle.ml_reader.specs.inside.parser.Parser.{try_infix, infix_operator, follow_term_as, follow_term, begin_term, follow_open, place_prefix, prefix_operator}
use Rattle.ml_reader.specs.inside.parser.Parser.{operand_or_prefix, follow_name, step}

module _ (cs : List ReadClause) where
  -- a stack with these clauses below those that it has
  abbrev pub over : Stack → Stack
  over (root ds) = root (ds ++ cs)
  over (f ▹ fs) = f ▹ over fs

  abbrev pub state_over : State → State
  state_over (expect_term fs) = expect_term (over fs)
  state_over (after_open k fs) = after_open k (over fs)
  state_over (after_name m f fs) = after_name m f (over fs)
  state_over (after_term p t fs) = after_term p t (over fs)

  abbrev pub next_over : Next → Next
  next_over (Ok s) = Ok (state_over s)
  next_over (Err k) = Err k

  pub commas_over : (fs : Stack) → commas (over fs) ≡ commas fs
  commas_over (root ds) = refl
  commas_over (prefix_frame f o ▹ fs) = commas_over fs
  commas_over (infix_frame o t ▹ fs) = commas_over fs
  commas_over (parens ▹ fs) = refl
  commas_over (braces ▹ fs) = refl
  commas_over (arguments f ts ▹ fs) = refl
  commas_over (list_elements ts ▹ fs) = refl
  commas_over (list_tail ts ▹ fs) = refl

  pub limit_over : (fs : Stack) → limit (over fs) ≡ limit fs
  limit_over (root ds) = refl
  limit_over (prefix_frame f o ▹ fs) = refl
  limit_over (infix_frame o t ▹ fs) = refl
  limit_over (parens ▹ fs) = refl
  limit_over (braces ▹ fs) = refl
  limit_over (arguments f ts ▹ fs) = refl
  limit_over (list_elements ts ▹ fs) = refl
  limit_over (list_tail ts ▹ fs) = refl

  ended_over : (x : Lexeme) (t : Tree) (fs : Stack) → finish_operand x t (over fs) ≡ next_over (finish_operand x t fs)
  ended_over x t (prefix_frame f o ▹ fs) = ended_over x (compound_1 f t) fs
  ended_over x t (infix_frame o u ▹ fs) = ended_over x (compound_2 o.name u t) fs
  ended_over close_paren t (parens ▹ fs) = refl
  ended_over close_curly t (braces ▹ fs) = refl
  ended_over close_paren t (arguments f ts ▹ fs) = refl
  ended_over comma t (arguments f ts ▹ fs) = refl
  ended_over comma t (list_elements ts ▹ fs) = refl
  ended_over head_tail_separator t (list_elements ts ▹ fs) = refl
  ended_over close_list t (list_elements ts ▹ fs) = refl
  ended_over close_list t (list_tail ts ▹ fs) = refl
  ended_over (end m) t (root ds) = refl
  ended_over x t fs = refl

  module _ (b : Bool) where
    placed_over : (k : Bool) (o : Operator) (t : Tree) (fs : Stack) → place_infix k o t (over fs) ≡ next_over (place_infix k o t fs)
    placed_over true o t fs = refl
    placed_over false o t fs = refl

    tried_over : (k : Bool) (o : Operator) (p : ℕ) (t : Tree) (fs : Stack) (low low' : Next) → low' ≡ next_over low
        → try_infix b k o p t (over fs) low' ≡ next_over (try_infix b k o p t fs low)
    tried_over true o p t fs low low' e = placed_over (priority_fits b p o.left) o t fs
    tried_over false o p t fs low low' e = e

    operated_over : (o : Operator) (p : ℕ) (t : Tree) (fs : Stack) → infix_operator b o p t (over fs) ≡ next_over (infix_operator b o p t fs)
    operated_over o p t (prefix_frame f o' ▹ fs) =
        tried_over (priority_fits b o.priority o'.right) o p t (prefix_frame f o' ▹ fs) (infix_operator b o o'.priority (compound_1 f t) fs)
        (infix_operator b o o'.priority (compound_1 f t) (over fs)) (operated_over o o'.priority (compound_1 f t) fs)
    operated_over o p t (infix_frame o' u ▹ fs) =
        tried_over (priority_fits b o.priority o'.right) o p t (infix_frame o' u ▹ fs) (infix_operator b o o'.priority (compound_2 o'.name u t) fs)
        (infix_operator b o o'.priority (compound_2 o'.name u t) (over fs))
        (operated_over o o'.priority (compound_2 o'.name u t) fs)
    operated_over o p t (root ds) = tried_over (priority_fits b o.priority 1200) o p t (root ds) (Err clash) (Err clash) refl
    operated_over o p t (parens ▹ fs) = tried_over (priority_fits b o.priority 1200) o p t (parens ▹ fs) (Err clash) (Err clash) refl
    operated_over o p t (braces ▹ fs) = tried_over (priority_fits b o.priority 1200) o p t (braces ▹ fs) (Err clash) (Err clash) refl
    operated_over o p t (arguments f ts ▹ fs) = tried_over (priority_fits b o.priority 999) o p t (arguments f ts ▹ fs) (Err clash) (Err clash) refl
    operated_over o p t (list_elements ts ▹ fs) = tried_over (priority_fits b o.priority 999) o p t (list_elements ts ▹ fs) (Err clash) (Err clash) refl
    operated_over o p t (list_tail ts ▹ fs) = tried_over (priority_fits b o.priority 999) o p t (list_tail ts ▹ fs) (Err clash) (Err clash) refl

    had_as_over : (m : Option Operator) (x : Lexeme) (p : ℕ) (t : Tree) (fs : Stack)
        → follow_term_as b m x p t (over fs) ≡ next_over (follow_term_as b m x p t fs)
    had_as_over (Some o) x p t fs = operated_over o p t fs
    had_as_over None x p t fs = ended_over x t fs

    had_over : (x : Lexeme) (p : ℕ) (t : Tree) (fs : Stack) → follow_term b x p t (over fs) ≡ next_over (follow_term b x p t fs)
    had_over x p t fs = ap (λ c. follow_term_as b (infix_at c x) x p t (over fs)) (commas_over fs) ∙ had_as_over (infix_at (commas fs) x) x p t fs

    wanted_over : (x : Lexeme) (fs : Stack) → begin_term x (over fs) ≡ next_over (begin_term x fs)
    wanted_over (name q f) fs = refl
    wanted_over (variable_lexeme n) fs = refl
    wanted_over (number k n) fs = refl
    wanted_over (open_paren k) fs = refl
    wanted_over open_list fs = refl
    wanted_over open_curly fs = refl
    wanted_over x fs = refl

    bracket_over : (k : Bool) (x : Lexeme) (fs : Stack) → follow_open k x (over fs) ≡ next_over (follow_open k x fs)
    bracket_over true close_list fs = refl
    bracket_over false close_curly fs = refl
    bracket_over true x fs = wanted_over x (list_elements no_trees ▹ fs)
    bracket_over false x fs = wanted_over x (braces ▹ fs)

    put_over : (k : Bool) (f : List ℕ) (o : Operator) (x : Lexeme) (fs : Stack) → place_prefix k f o x (over fs) ≡ next_over (place_prefix k f o x fs)
    put_over true f o x fs = wanted_over x (prefix_frame f o ▹ fs)
    put_over false f o x fs = refl

    prefixed_over : (m : Option Operator) (f : List ℕ) (x : Lexeme) (fs : Stack) → prefix_operator b m f x (over fs) ≡ next_over (prefix_operator b m f x fs)
    prefixed_over None f x fs = refl
    prefixed_over (Some o) f x fs =
        ap (λ l. place_prefix (priority_fits b o.priority l) f o x (over fs)) (limit_over fs) ∙ put_over (priority_fits b o.priority (limit fs)) f o x fs

    either_over : (k : Bool) (f : List ℕ) (x : Lexeme) (fs : Stack) → operand_or_prefix b k f x (over fs) ≡ next_over (operand_or_prefix b k f x fs)
    either_over true f x fs = had_over x 0 (atom f) fs
    either_over false f x fs = prefixed_over (prefix_of f) f x fs

    word_over : (m : Bool) (f : List ℕ) (x : Lexeme) (fs : Stack) → follow_name b m f x (over fs) ≡ next_over (follow_name b m f x fs)
    word_over m f (open_paren true) fs = refl
    word_over true f (number true n) fs = refl
    word_over m f x fs = either_over (not (is_operator f) || closes x) f x fs

    -- a step over clauses is the step over none
    pub step_over : (s : State) (x : Lexeme) → step b (state_over s) x ≡ next_over (step b s x)
    step_over (expect_term fs) x = wanted_over x fs
    step_over (after_open k fs) x = bracket_over k x fs
    step_over (after_name m f fs) x = word_over m f x fs
    step_over (after_term p t fs) x = had_over x p t fs
