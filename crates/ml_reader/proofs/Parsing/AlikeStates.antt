-- Where the parser's states are alike: in front of what follows an operand it doesn't tell reduced operators from waiting
-- ones, nor a name from the atom or the operator that it turns out to be.
use Rattle.std.specs.Prelude.{◌≡◌, ℕ, ◌+◌, Bool, true, false, ◌||◌, ◌&&◌, not, IsTrue, nat_le, if◌then◌else◌, List, [], ◌∷◌, Option, Some, None}
use Rattle.std.proofs.Common.{refl, sym, ap, ◌∙◌, true≢false}
use Rattle.ml_term.specs.Tree.{Tree, atom, compound_1, compound_2, no_trees}
use Rattle.ml_reader.specs.Lexemes.{Lexeme, number, open_paren, open_list, close_list, open_curly, close_curly}
use Rattle.ml_reader.specs.Operators.{Operator, prefix_of, is_operator, infix_at, closes, priority_fits}
use Rattle.ml_reader.specs.Grammar.{AtomBefore, joins}
use Rattle.ml_reader.specs.inside.parser.Parser.{prefix_frame, infix_frame, braces, list_elements, Stack, ◌▹◌, State, expect_term, after_open, after_name}
use Rattle.ml_reader.specs.inside.parser.Parser.{after_term, commas, limit, try_infix, infix_operator, follow_term_as, follow_term, place_prefix}
use Rattle.ml_reader.specs.inside.parser.Parser.{prefix_operator, operand_or_prefix, follow_name}
use Rattle.ml_reader.specs.Levels.{is_opening}
use Rattle.ml_reader.specs.inside.parser.LimitedSteps.{depth, frames_left, bracket_past, operator_past, past_operand, past_prefix, past_name, joins_minus}
use Rattle.ml_reader.specs.inside.parser.LimitedSteps.{is_lone}
use Rattle.ml_term.specs.Limits.{integer_offset}
use Rattle.ml_reader.specs.Limits.{max_text_levels}
use Rattle.ml_reader.proofs.Parsing.OperatorRows.{lawful, infix_lawful, apart}
use Rattle.ml_reader.proofs.Parsing.OpenLevels.{prefix_path, Alike}
use Rattle.ml_reader.proofs.Parsing.TokensAfterOperands.{StopsOperand, by_infix, by_end, yes_op, loose, leb_not}

lone_by : (s r : State) (x : Lexeme) → ((k : Bool) → joins_minus s k ≡ joins_minus r k) → is_lone s x ≡ is_lone r x
lone_by s r (number k n) h = ap (λ j. nat_le integer_offset n && not j) (h k)
lone_by s r x h = refl

after_loose : (m : Bool) (f : List ℕ) (x : Lexeme) (ys : List Lexeme) (fs : Stack) (k : Bool) → joins m (x ∷ ys) ≡ false → (not (is_operator f) || closes x) ≡ k
    → follow_name true m f x fs ≡ operand_or_prefix true k f x fs
after_loose m f (open_paren true) ys fs k n e = absurd (true≢false n)
after_loose true f (number true i) ys fs k n e = absurd (true≢false n)
after_loose m f x ys fs k n e = ap (λ k. operand_or_prefix true k f x fs) e

-- what closes opens no level
closed : (x : Lexeme) (n k : ℕ) → IsTrue (closes x) → bracket_past x n ≡ bracket_past x k
closed x n k h = ap (λ j. j && nat_le max_text_levels n) (no_opening x h) ∙ ap (λ j. j && nat_le max_text_levels k) (sym (no_opening x h))
  where
    no_opening : (x : Lexeme) → IsTrue (closes x) → is_opening x ≡ false
    no_opening (open_paren k) h = absurd (true≢false (sym h))
    no_opening open_list h = absurd (true≢false (sym h))
    no_opening open_curly h = absurd (true≢false (sym h))
    no_opening x h = refl

-- a name is an atom
pub atom_alike : (c m : Bool) (f : List ℕ) (x : Lexeme) (ys : List Lexeme) (fs : Stack) → AtomBefore f (x ∷ ys) → StopsOperand c 0 x
    → Alike (after_name m f fs) (after_term 0 (atom f) fs) x
atom_alike c m f x ys fs a s = record {
  same_step = after_loose m f x ys fs true (loose s m ys) a;
  same_path = ap (λ k. prefix_path k (prefix_of f) fs) (no_prefix (not (joins m (x ∷ []))) (closes x) (is_operator f) a);
  same_past = ap (λ k. past_name k f x fs) (no_prefix (not (joins m (x ∷ []))) (closes x) (is_operator f) a);
  same_lone = lone x (loose s m []);
}
  where
    no_prefix : (j k l : Bool) → IsTrue (not l || k) → (j && not k && l) ≡ false
    no_prefix true true l e = refl
    no_prefix false true l e = refl
    no_prefix j false true e = absurd (true≢false (sym e))
    no_prefix true false false e = refl
    no_prefix false false false e = refl

    lone : (x : Lexeme) → joins m (x ∷ []) ≡ false → is_lone (after_name m f fs) x ≡ is_lone (after_term 0 (atom f) fs) x
    lone (number k n) e = ap (λ j. nat_le integer_offset n && not j) e
    lone x e = refl

-- a name is a prefix operator
pub prefix_alike : (m : Bool) (f : List ℕ) (o : Operator) (x : Lexeme) (ys : List Lexeme) (fs : Stack) → prefix_of f ≡ Some o → closes x ≡ false
    → IsTrue (not (joins m (x ∷ ys))) → IsTrue (priority_fits true o.priority (limit fs))
    → Alike (after_name m f fs) (expect_term (prefix_frame f o ▹ fs)) x
prefix_alike m f o x ys fs e s n h = record {
  same_step = after_loose m f x ys fs false (negated _ n) (neither _ _ (yes_op f o e) s)
      ∙ (ap (λ m. prefix_operator true m f x fs) e ∙ ap (λ k. place_prefix k f o x fs) h);
  same_path =
      ap (λ k. prefix_path k (prefix_of f) fs) (is_prefix _ _ _ (tight x n) s (yes_op f o e)) ∙ ap (λ m. prefix_path true m fs) e;
  same_past = ap (λ k. past_name k f x fs) (is_prefix _ _ _ (tight x n) s (yes_op f o e)) ∙ ap (λ m. past_prefix m x fs) e;
  same_lone = lone x (negated _ n);
}
  where
    negated : (k : Bool) → IsTrue (not k) → k ≡ false
    negated true e = absurd (true≢false (sym e))
    negated false e = refl

    neither : (k l : Bool) → k ≡ true → l ≡ false → (not k || l) ≡ false
    neither true false e e' = refl
    neither true true e e' = e'
    neither false l e e' = absurd (true≢false (sym e))

    tight : (x : Lexeme) → IsTrue (not (joins m (x ∷ ys))) → IsTrue (not (joins m (x ∷ [])))
    tight (open_paren true) n = n
    tight (number k i) n = n
    tight x n = refl

    is_prefix : (j k l : Bool) → IsTrue (not j) → k ≡ false → l ≡ true → (not j && not k && l) ≡ true
    is_prefix true k l n e e' = absurd (true≢false (sym n))
    is_prefix false true l n e e' = absurd (true≢false e)
    is_prefix false false l n e e' = e'

    lone : (x : Lexeme) → joins m (x ∷ ys) ≡ false → is_lone (after_name m f fs) x ≡ is_lone (expect_term (prefix_frame f o ▹ fs)) x
    lone (number k i) e = ap (λ j. nat_le integer_offset i && not j) e
    lone x e = refl

-- an opening bracket or brace before a term
pub bracket_alike : (x : Lexeme) (fs : Stack) → closes x ≡ false → Alike (after_open true fs) (expect_term (list_elements no_trees ▹ fs)) x
bracket_alike close_list fs e = absurd (true≢false e)
bracket_alike x fs e =
    record {
      same_step = refl;
      same_path = refl;
      same_past = refl;
      same_lone = lone_by (after_open true fs) (expect_term (list_elements no_trees ▹ fs)) x (λ k. refl);
    }

pub brace_alike : (x : Lexeme) (fs : Stack) → closes x ≡ false → Alike (after_open false fs) (expect_term (braces ▹ fs)) x
brace_alike close_curly fs e = absurd (true≢false e)
brace_alike x fs e =
    record {
      same_step = refl;
      same_path = refl;
      same_past = refl;
      same_lone = lone_by (after_open false fs) (expect_term (braces ▹ fs)) x (λ k. refl);
    }

-- an operator with its right operand is an operand, for all that may follow
pub before_alike : (c : Bool) (f : List ℕ) (o : Operator) (p : ℕ) (t : Tree) (fs : Stack) (x : Lexeme) → commas fs ≡ c → IsTrue (lawful o)
    → StopsOperand c o.priority x
    → Alike (after_term p t (prefix_frame f o ▹ fs)) (after_term o.priority (compound_1 f t) fs) x
before_alike c f o p t fs x ec law s =
    record {
      same_step = one_step s;
      same_path = refl;
      same_past = one_level s;
      same_lone = lone_by (after_term p t (prefix_frame f o ▹ fs)) (after_term o.priority (compound_1 f t) fs)
          x (λ k. refl);
    }
  where
    as_operator : (m : Option Operator) → infix_at (commas fs) x ≡ m
        → follow_term_as true m x p t (prefix_frame f o ▹ fs) ≡ follow_term_as true m x o.priority (compound_1 f t) fs
        → follow_term true x p t (prefix_frame f o ▹ fs) ≡ follow_term true x o.priority (compound_1 f t) fs
    as_operator m e h =
        ap (λ m. follow_term_as true m x p t (prefix_frame f o ▹ fs)) e ∙ (h ∙ ap (λ m. follow_term_as true m x o.priority (compound_1 f t) fs) (sym e))

    one_step : StopsOperand c o.priority x → follow_term true x p t (prefix_frame f o ▹ fs) ≡ follow_term true x o.priority (compound_1 f t) fs
    one_step (by_infix {o = o'} e l) =
        as_operator (Some o') (ap (λ c. infix_at c x) ec ∙ e)
        (ap (λ k. try_infix true k o' p t (prefix_frame f o ▹ fs) (infix_operator true o' o.priority (compound_1 f t) fs))
        (leb_not o'.priority o.right (apart o o' law (infix_lawful c x o' e) l)))
    one_step (by_end h e) = as_operator None (ap (λ c. infix_at c x) ec ∙ e) refl

    as_level : (m : Option Operator) → infix_at (commas fs) x ≡ m → operator_past m x (prefix_frame f o ▹ fs) ≡ operator_past m x fs
        → past_operand x (prefix_frame f o ▹ fs) ≡ past_operand x fs
    as_level m e h = ap (λ m. operator_past m x (prefix_frame f o ▹ fs)) e ∙ (h ∙ ap (λ m. operator_past m x fs) (sym e))

    one_level : StopsOperand c o.priority x → past_operand x (prefix_frame f o ▹ fs) ≡ past_operand x fs
    one_level (by_infix {o = o'} e l) =
        as_level (Some o') (ap (λ c. infix_at c x) ec ∙ e)
        (ap (λ k. nat_le max_text_levels (depth (if k then prefix_frame f o ▹ fs else frames_left o'.priority fs)))
        (leb_not o'.priority o.right (apart o o' law (infix_lawful c x o' e) l)))
    one_level (by_end h e) = as_level None (ap (λ c. infix_at c x) ec ∙ e) (closed x (1 + depth fs) (depth fs) h)

pub between_alike : (c : Bool) (o : Operator) (u : Tree) (p : ℕ) (t : Tree) (fs : Stack) (x : Lexeme) → commas fs ≡ c → IsTrue (lawful o)
    → StopsOperand c o.priority x
    → Alike (after_term p t (infix_frame o u ▹ fs)) (after_term o.priority (compound_2 o.name u t) fs) x
between_alike c o u p t fs x ec law s =
    record {
      same_step = one_step s;
      same_path = refl;
      same_past = one_level s;
      same_lone = lone_by (after_term p t (infix_frame o u ▹ fs))
          (after_term o.priority (compound_2 o.name u t) fs) x (λ k. refl);
    }
  where
    as_operator : (m : Option Operator) → infix_at (commas fs) x ≡ m
        → follow_term_as true m x p t (infix_frame o u ▹ fs) ≡ follow_term_as true m x o.priority (compound_2 o.name u t) fs
        → follow_term true x p t (infix_frame o u ▹ fs) ≡ follow_term true x o.priority (compound_2 o.name u t) fs
    as_operator m e h =
        ap (λ m. follow_term_as true m x p t (infix_frame o u ▹ fs)) e ∙ (h ∙ ap (λ m. follow_term_as true m x o.priority (compound_2 o.name u t) fs) (sym e))

    one_step : StopsOperand c o.priority x → follow_term true x p t (infix_frame o u ▹ fs) ≡ follow_term true x o.priority (compound_2 o.name u t) fs
    one_step (by_infix {o = o'} e l) =
        as_operator (Some o') (ap (λ c. infix_at c x) ec ∙ e)
        (ap (λ k. try_infix true k o' p t (infix_frame o u ▹ fs) (infix_operator true o' o.priority (compound_2 o.name u t) fs))
        (leb_not o'.priority o.right (apart o o' law (infix_lawful c x o' e) l)))
    one_step (by_end h e) = as_operator None (ap (λ c. infix_at c x) ec ∙ e) refl

    as_level : (m : Option Operator) → infix_at (commas fs) x ≡ m → operator_past m x (infix_frame o u ▹ fs) ≡ operator_past m x fs
        → past_operand x (infix_frame o u ▹ fs) ≡ past_operand x fs
    as_level m e h = ap (λ m. operator_past m x (infix_frame o u ▹ fs)) e ∙ (h ∙ ap (λ m. operator_past m x fs) (sym e))

    one_level : StopsOperand c o.priority x → past_operand x (infix_frame o u ▹ fs) ≡ past_operand x fs
    one_level (by_infix {o = o'} e l) =
        as_level (Some o') (ap (λ c. infix_at c x) ec ∙ e)
        (ap (λ k. nat_le max_text_levels (depth (if k then infix_frame o u ▹ fs else frames_left o'.priority fs)))
        (leb_not o'.priority o.right (apart o o' law (infix_lawful c x o' e) l)))
    one_level (by_end h e) = as_level None (ap (λ c. infix_at c x) ec ∙ e) (closed x (1 + depth fs) (depth fs) h)
