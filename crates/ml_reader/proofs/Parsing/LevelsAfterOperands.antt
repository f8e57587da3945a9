-- An operand and a name have no more levels open than what came before them.
use Rattle.std.specs.Prelude.{◌≡◌, ℕ, ◌+◌, ◌≤◌, Bool, true, false, ◌&&◌, ◌||◌, not, List, [], ◌∷◌, Option, Some, None, Ok}
use Rattle.std.proofs.Common.{refl, subst, arith, true≢false}
use Rattle.ml_term.specs.Tree.{Tree, atom, compound_1, compound_2, no_trees, tree}
use Rattle.ml_reader.specs.Lexemes.{Lexeme, name, variable_lexeme, number, open_paren, close_paren, open_list, close_list, open_curly, close_curly}
use Rattle.ml_reader.specs.Lexemes.{head_tail_separator, comma, end}
use Rattle.ml_reader.specs.Operators.{Operator, prefix_of, is_operator, infix_at, closes, priority_fits}
use Rattle.ml_reader.specs.Grammar.{joins}
use Rattle.ml_reader.specs.inside.parser.Parser.{prefix_frame, infix_frame, parens, braces, arguments, list_elements, list_tail, Stack, root, ◌▹◌, State}
use Rattle.ml_reader.specs.inside.parser.Parser.{expect_term, after_open, after_name, after_term, Next, commas, limit, finish_operand, place_infix, try_infix}
use Rattle.ml_reader.specs.inside.parser.Parser.{infix_operator, follow_term_as, begin_term, follow_open, place_prefix, prefix_operator, operand_or_prefix}
use Rattle.ml_reader.specs.inside.parser.Parser.{follow_name, step}
use Rattle.ml_reader.specs.inside.parser.LimitedSteps.{depth, levels}
use Rattle.ml_reader.specs.Limits.{max_text_levels}
use Rattle.ml_reader.proofs.Parsing.OpenLevels.{length_opened, prefix_path, path_before}
use Rattle.ml_reader.proofs.Parsing.RunsWithinLimits.{AreFew}

-- how many levels a state has
abbrev pub height : State → ℕ
height (expect_term fs) = depth fs
height (after_open k fs) = 1 + depth fs
height (after_name m f fs) = depth fs
height (after_term p t fs) = depth fs

pub levels_low : (s : State) → levels s ≤ height s
levels_low (expect_term fs) = omega arith
levels_low (after_open k fs) = omega arith
levels_low (after_name m f fs) = omega arith
levels_low (after_term p t fs) = omega arith

-- a token that isn't a number
abbrev pub IsOther : Lexeme → Type 0
IsOther (number k n) = ⊥
IsOther x = Unit {0}

-- what came behind a token, a level that it opens aside, is within the limit
abbrev pub IsLow : Lexeme → Next → Type 0
IsLow x (Ok (after_term p t fs)) = depth fs ≤ max_text_levels
IsLow x (Ok (after_name m f fs)) = (depth fs ≤ max_text_levels) × IsOther x
IsLow x (Ok (expect_term (arguments f (tree t ts) ▹ fs))) = 1 + depth fs ≤ max_text_levels
IsLow x n = Unit {0}

ended_low : (x : Lexeme) (t : Tree) (fs : Stack) → depth fs ≤ max_text_levels → IsLow x (finish_operand x t fs)
ended_low x t (prefix_frame f o ▹ fs) l = ended_low x (compound_1 f t) fs (omega arith)
ended_low x t (infix_frame o u ▹ fs) l = ended_low x (compound_2 o.name u t) fs (omega arith)
ended_low close_paren t (parens ▹ fs) l = omega arith
ended_low close_curly t (braces ▹ fs) l = omega arith
ended_low close_paren t (arguments f ts ▹ fs) l = omega arith
ended_low comma t (arguments f ts ▹ fs) l = l
ended_low comma t (list_elements ts ▹ fs) l = tt
ended_low head_tail_separator t (list_elements ts ▹ fs) l = tt
ended_low close_list t (list_elements ts ▹ fs) l = omega arith
ended_low close_list t (list_tail ts ▹ fs) l = omega arith
ended_low (end m) t (root cs) l = tt
ended_low x t fs l = tt

placed_low : (x : Lexeme) (k : Bool) (o : Operator) (t : Tree) (fs : Stack) → IsLow x (place_infix k o t fs)
placed_low x true o t fs = tt
placed_low x false o t fs = tt

tried_low : (x : Lexeme) (k : Bool) (o : Operator) (p : ℕ) (t : Tree) (fs : Stack) (low : Next) → IsLow x low → IsLow x (try_infix true k o p t fs low)
tried_low x true o p t fs low h = placed_low x (priority_fits true p o.left) o t fs
tried_low x false o p t fs low h = h

operated_low : (x : Lexeme) (o : Operator) (p : ℕ) (t : Tree) (fs : Stack) → IsLow x (infix_operator true o p t fs)
operated_low x o p t (prefix_frame f o' ▹ fs) =
    tried_low x (priority_fits true o.priority o'.right) o p t (prefix_frame f o' ▹ fs) _ (operated_low x o o'.priority (compound_1 f t) fs)
operated_low x o p t (infix_frame o' u ▹ fs) =
    tried_low x (priority_fits true o.priority o'.right) o p t (infix_frame o' u ▹ fs) _ (operated_low x o o'.priority (compound_2 o'.name u t) fs)
operated_low x o p t (root cs) = tried_low x (priority_fits true o.priority 1200) o p t (root cs) _ tt
operated_low x o p t (f ▹ fs) = tried_low x (priority_fits true o.priority (limit (f ▹ fs))) o p t (f ▹ fs) _ tt

had_low : (x : Lexeme) (m : Option Operator) (p : ℕ) (t : Tree) (fs : Stack) → depth fs ≤ max_text_levels → IsLow x (follow_term_as true m x p t fs)
had_low x (Some o) p t fs l = operated_low x o p t fs
had_low x None p t fs l = ended_low x t fs l

wanted_low : (x : Lexeme) (fs : Stack) → depth fs ≤ max_text_levels → IsLow x (begin_term x fs)
wanted_low (name q f) fs l = (l, tt)
wanted_low (variable_lexeme n) fs l = l
wanted_low (number k n) fs l = l
wanted_low (open_paren k) fs l = tt
wanted_low open_list fs l = tt
wanted_low open_curly fs l = tt
wanted_low x fs l = tt

bracket_low : (k : Bool) (x : Lexeme) (fs : Stack) → 1 + depth fs ≤ max_text_levels → IsLow x (follow_open k x fs)
bracket_low true close_list fs l = (omega arith, tt)
bracket_low false close_curly fs l = (omega arith, tt)
bracket_low true x fs l = wanted_low x (list_elements no_trees ▹ fs) l
bracket_low false x fs l = wanted_low x (braces ▹ fs) l

put_low : (x : Lexeme) (k : Bool) (f : List ℕ) (o : Operator) (fs : Stack) → AreFew (prefix_path true (Some o) fs) → IsLow x (place_prefix k f o x fs)
put_low x true f o fs l = wanted_low x (prefix_frame f o ▹ fs) (omega (arith, l, length_opened fs))
put_low x false f o fs l = tt

prefixed_low : (x : Lexeme) (m : Option Operator) (f : List ℕ) (fs : Stack) → AreFew (prefix_path true m fs) → IsLow x (prefix_operator true m f x fs)
prefixed_low x None f fs l = tt
prefixed_low x (Some o) f fs l = put_low x (priority_fits true o.priority (limit fs)) f o fs l

-- what is no atom is a prefix operator
is_prefix : (j : Bool) (f : List ℕ) (x : Lexeme) → j ≡ false → (not (is_operator f) || closes x) ≡ false → (not j && not (closes x) && is_operator f) ≡ true
is_prefix j f x e h = go j (is_operator f) (closes x) e h
  where
    go : (j k l : Bool) → j ≡ false → (not k || l) ≡ false → (not j && not l && k) ≡ true
    go true k l e h = absurd (true≢false e)
    go false true true e h = absurd (true≢false h)
    go false true false e h = refl
    go false false l e h = absurd (true≢false h)

either_low : (m : Bool) (f : List ℕ) (x : Lexeme) (fs : Stack) → joins m (x ∷ []) ≡ false → (k : Bool) → (not (is_operator f) || closes x) ≡ k
    → depth fs ≤ max_text_levels → AreFew (path_before (after_name m f fs) x) → IsLow x (operand_or_prefix true k f x fs)
either_low m f x fs j true e l p = had_low x (infix_at (commas fs) x) 0 (atom f) fs l
either_low m f x fs j false e l p =
    prefixed_low x (prefix_of f) f fs (subst (λ k. AreFew (prefix_path k (prefix_of f) fs)) (is_prefix (joins m (x ∷ [])) f x j e) p)

word_low : (m : Bool) (f : List ℕ) (x : Lexeme) (fs : Stack) → depth fs ≤ max_text_levels → AreFew (path_before (after_name m f fs) x)
    → IsLow x (follow_name true m f x fs)
word_low m f (open_paren true) fs l p = tt
word_low true f (number true n) fs l p = l
word_low m f x fs l p = either_low m f x fs refl (not (is_operator f) || closes x) refl l p

-- a step leaves a low state, a level that it opens aside
pub step_low : (s : State) (x : Lexeme) → height s ≤ max_text_levels → AreFew (path_before s x) → IsLow x (step true s x)
step_low (expect_term fs) x l p = wanted_low x fs l
step_low (after_open k fs) x l p = bracket_low k x fs l
step_low (after_name m f fs) x l p = word_low m f x fs l p
step_low (after_term q t fs) x l p = had_low x (infix_at (commas fs) x) q t fs l
