-- A clause ends at an end alone.
use Rattle.std.specs.Prelude.{◌≡◌, ℕ, Bool, true, false, ◌||◌, not, List, [], ◌∷◌, Option, Some, None, Ok}
use Rattle.std.proofs.Common.{refl}
use Rattle.ml_term.specs.Tree.{Tree, atom, compound_1, compound_2, no_trees}
use Rattle.ml_reader.specs.Lexemes.{ClauseEnd, Lexeme, name, variable_lexeme, number, open_paren, close_paren, open_list, close_list, open_curly, close_curly}
use Rattle.ml_reader.specs.Lexemes.{head_tail_separator, comma, end}
use Rattle.ml_reader.specs.Operators.{Operator, prefix_of, is_operator, infix_at, closes, priority_fits}
use Rattle.ml_reader.specs.inside.parser.Parser.{prefix_frame, infix_frame, parens, braces, arguments, list_elements, list_tail, Stack, root, ◌▹◌, State}
use Rattle.ml_reader.specs.inside.parser.Parser.{expect_term, after_open, after_name, after_term, Next, commas, limit, finish_operand, place_infix, try_infix}
use Rattle.ml_reader.specs.inside.parser.Parser.{infix_operator, follow_term_as, begin_term, follow_open, place_prefix, prefix_operator, operand_or_prefix}
use Rattle.ml_reader.specs.inside.parser.Parser.{follow_name, step}

abbrev pub IsEndToken : Lexeme → Type 0
IsEndToken x = (m : ClauseEnd) × (x ≡ end m)

-- where the parser comes to stand between clauses, it has read a clause and its end
abbrev pub EndsClause : Lexeme → Next → Type 0
EndsClause x (Ok (expect_term (root []))) = ⊥
EndsClause x (Ok (expect_term (root (w ∷ cs)))) = IsEndToken x
EndsClause x n = Unit {0}

ended_ends : (x : Lexeme) (t : Tree) (fs : Stack) → EndsClause x (finish_operand x t fs)
ended_ends x t (prefix_frame f o ▹ fs) = ended_ends x (compound_1 f t) fs
ended_ends x t (infix_frame o u ▹ fs) = ended_ends x (compound_2 o.name u t) fs
ended_ends (end m) t (root cs) = (m, refl)
ended_ends close_paren t (parens ▹ fs) = tt
ended_ends close_curly t (braces ▹ fs) = tt
ended_ends close_paren t (arguments f ts ▹ fs) = tt
ended_ends comma t (arguments f ts ▹ fs) = tt
ended_ends comma t (list_elements ts ▹ fs) = tt
ended_ends head_tail_separator t (list_elements ts ▹ fs) = tt
ended_ends close_list t (list_elements ts ▹ fs) = tt
ended_ends close_list t (list_tail ts ▹ fs) = tt
ended_ends x t fs = tt

placed_ends : (x : Lexeme) (k : Bool) (o : Operator) (t : Tree) (fs : Stack) → EndsClause x (place_infix k o t fs)
placed_ends x true o t fs = tt
placed_ends x false o t fs = tt

tried_ends : (x : Lexeme) (k : Bool) (o : Operator) (p : ℕ) (t : Tree) (fs : Stack) (low : Next) → EndsClause x low
    → EndsClause x (try_infix true k o p t fs low)
tried_ends x true o p t fs low h = placed_ends x (priority_fits true p o.left) o t fs
tried_ends x false o p t fs low h = h

operated_ends : (x : Lexeme) (o : Operator) (p : ℕ) (t : Tree) (fs : Stack) → EndsClause x (infix_operator true o p t fs)
operated_ends x o p t (prefix_frame f o' ▹ fs) =
    tried_ends x (priority_fits true o.priority o'.right) o p t (prefix_frame f o' ▹ fs) _ (operated_ends x o o'.priority (compound_1 f t) fs)
operated_ends x o p t (infix_frame o' u ▹ fs) =
    tried_ends x (priority_fits true o.priority o'.right) o p t (infix_frame o' u ▹ fs) _ (operated_ends x o o'.priority (compound_2 o'.name u t) fs)
operated_ends x o p t (root cs) = tried_ends x (priority_fits true o.priority 1200) o p t (root cs) _ tt
operated_ends x o p t (f ▹ fs) = tried_ends x (priority_fits true o.priority (limit (f ▹ fs))) o p t (f ▹ fs) _ tt

had_ends : (x : Lexeme) (m : Option Operator) (p : ℕ) (t : Tree) (fs : Stack) → EndsClause x (follow_term_as true m x p t fs)
had_ends x (Some o) p t fs = operated_ends x o p t fs
had_ends x None p t fs = ended_ends x t fs

wanted_ends : (x : Lexeme) (fs : Stack) → EndsClause x (begin_term x fs)
wanted_ends (name q f) fs = tt
wanted_ends (variable_lexeme n) fs = tt
wanted_ends (number k n) fs = tt
wanted_ends (open_paren k) fs = tt
wanted_ends open_list fs = tt
wanted_ends open_curly fs = tt
wanted_ends x fs = tt

bracket_ends : (k : Bool) (x : Lexeme) (fs : Stack) → EndsClause x (follow_open k x fs)
bracket_ends true close_list fs = tt
bracket_ends false close_curly fs = tt
bracket_ends true x fs = wanted_ends x (list_elements no_trees ▹ fs)
bracket_ends false x fs = wanted_ends x (braces ▹ fs)

put_ends : (x : Lexeme) (k : Bool) (f : List ℕ) (o : Operator) (fs : Stack) → EndsClause x (place_prefix k f o x fs)
put_ends x true f o fs = wanted_ends x (prefix_frame f o ▹ fs)
put_ends x false f o fs = tt

prefixed_ends : (x : Lexeme) (m : Option Operator) (f : List ℕ) (fs : Stack) → EndsClause x (prefix_operator true m f x fs)
prefixed_ends x None f fs = tt
prefixed_ends x (Some o) f fs = put_ends x (priority_fits true o.priority (limit fs)) f o fs

either_ends : (x : Lexeme) (k : Bool) (f : List ℕ) (fs : Stack) → EndsClause x (operand_or_prefix true k f x fs)
either_ends x true f fs = had_ends x (infix_at (commas fs) x) 0 (atom f) fs
either_ends x false f fs = prefixed_ends x (prefix_of f) f fs

word_ends : (m : Bool) (f : List ℕ) (x : Lexeme) (fs : Stack) → EndsClause x (follow_name true m f x fs)
word_ends m f (open_paren true) fs = tt
word_ends true f (number true n) fs = tt
word_ends m f x fs = either_ends x (not (is_operator f) || closes x) f fs

pub step_ends : (s : State) (x : Lexeme) → EndsClause x (step true s x)
step_ends (expect_term fs) x = wanted_ends x fs
step_ends (after_open k fs) x = bracket_ends k x fs
step_ends (after_name m f fs) x = word_ends m f x fs
step_ends (after_term p t fs) x = had_ends x (infix_at (commas fs) x) p t fs
