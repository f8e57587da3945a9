-- What may follow an operand, what begins a term, and when an infix operator is placed.
use Rattle.std.specs.Prelude.{◌≡◌, ℕ, ◌<◌, ◌≤◌, Bool, true, false, ◌||◌, IsTrue, nat_le, List, [], ◌∷◌, Some, None, is_some, Ok, Err}
use Rattle.std.proofs.Common.{refl, ap, ◌∙◌, arith}
use Rattle.std.proofs.lemmas.Bool.{le-leb, leb-true}
use Rattle.ml_term.specs.Tree.{Tree, Trees, compound_1, compound_2}
use Rattle.ml_reader.specs.Lexemes.{Lexeme, name, variable_lexeme, number, open_paren, close_paren, open_list, close_list, open_curly, close_curly}
use Rattle.ml_reader.specs.Lexemes.{head_tail_separator, comma, end}
use Rattle.ml_reader.specs.Operators.{Operator, infix_of, prefix_of, is_operator, infix_at, closes, priority_fits}
use Rattle.ml_reader.specs.Grammar.{Word, plain, brackets, curlies, joins, Derives, a_variable, a_number, a_negative, in_braces, an_atom, a_compound, in_parens}
use Rattle.ml_reader.specs.Grammar.{a_list, a_prefix, an_infix, Arguments, last_argument, argument, Elements, last_element, before_bar, element}
use Rattle.ml_reader.specs.inside.parser.Parser.{prefix_frame, infix_frame, parens, braces, arguments, list_elements, list_tail, Stack, root, ◌▹◌, expect_term}
use Rattle.ml_reader.specs.inside.parser.Parser.{clash, limit, place_infix, try_infix, infix_operator}

-- what may stand behind an operand of priority p: an infix operator that takes it, or what closes
pub data StopsOperand (c : Bool) (p : ℕ) (x : Lexeme) : Type 0 where
  by_infix : {o : Operator} → infix_at c x ≡ Some o → p ≤ o.left → StopsOperand c p x
  by_end : IsTrue (closes x) → infix_at c x ≡ None → StopsOperand c p x

abbrev pub Follows : Bool → ℕ → List Lexeme → Type 0
Follows c p [] = ⊥
Follows c p (x ∷ ys) = StopsOperand c p x

pub stops_lower : {c : Bool} {p q : ℕ} {x : Lexeme} → q ≤ p → StopsOperand c p x → StopsOperand c q x
stops_lower l (by_infix e m) = by_infix e (omega arith)
stops_lower l (by_end h e) = by_end h e

pub follows_lower : (c : Bool) (p q : ℕ) (ys : List Lexeme) → q ≤ p → Follows c p ys → Follows c q ys
follows_lower c p q [] l f = f
follows_lower c p q (x ∷ ys) l f = stops_lower l f

-- some token follows
abbrev pub IsMore : List Lexeme → Type 0
IsMore [] = ⊥
IsMore (x ∷ ys) = Unit {0}

pub more : (c : Bool) (p : ℕ) (ys : List Lexeme) → Follows c p ys → IsMore ys
more c p [] f = absurd f
more c p (x ∷ ys) f = tt

-- no term begins with what closes
abbrev pub Begins : List Lexeme → Type 0
Begins [] = ⊥
Begins (x ∷ xs) = closes x ≡ false

pub word_begins : {xs ys : List Lexeme} {m : Bool} {f : List ℕ} → Word xs ys m f → Begins xs
word_begins plain = refl
word_begins brackets = refl
word_begins curlies = refl

pub begins : {b c : Bool} {xs ys : List Lexeme} {p : ℕ} {t : Tree} → Derives b c xs ys p t → Begins xs
begins a_variable = refl
begins a_number = refl
begins (a_negative w) = word_begins w
begins (in_braces d l) = refl
begins (an_atom w a) = word_begins w
begins (a_compound w d) = word_begins w
begins (in_parens d l) = refl
begins (a_list d) = refl
begins (a_prefix w e n d l) = word_begins w
begins (an_infix d e l d' l') = begins d

pub elements_begin : {b : Bool} {xs ys : List Lexeme} {t : Tree} → Elements b xs ys t → Begins xs
elements_begin (last_element d l) = begins d
elements_begin (before_bar d l d' l') = begins d
elements_begin (element d l ds) = begins d

pub arguments_begin : {b : Bool} {xs ys : List Lexeme} {ts : Trees} → Arguments b xs ys ts → Begins xs
arguments_begin (last_argument d l) = begins d
arguments_begin (argument d l ds) = begins d

pub yes_op : (f : List ℕ) (o : Operator) → prefix_of f ≡ Some o → is_operator f ≡ true
yes_op f o e = ap (λ m. is_some (infix_of f) || is_some m) e ∙ or_true (is_some (infix_of f))
  where
    or_true : (k : Bool) → (k || true) ≡ true
    or_true true = refl
    or_true false = refl

-- what may follow an operand joins to no name
pub loose : {c : Bool} {p : ℕ} {x : Lexeme} → StopsOperand c p x → (m : Bool) (ys : List Lexeme) → joins m (x ∷ ys) ≡ false
loose {x = open_paren k} (by_infix e l) m ys = absurd (grind (arith, e))
loose {x = open_paren k} (by_end h e) m ys = absurd (grind (arith, h))
loose {x = name q f} s m ys = refl
loose {x = variable_lexeme n} s m ys = refl
loose {x = number k n} (by_infix e l) m ys = absurd (grind (arith, e))
loose {x = number k n} (by_end h e) m ys = absurd (grind (arith, h))
loose {x = open_curly} s m ys = refl
loose {x = close_curly} s m ys = refl
loose {x = close_paren} s m ys = refl
loose {x = open_list} s m ys = refl
loose {x = close_list} s m ys = refl
loose {x = head_tail_separator} s m ys = refl
loose {x = comma} s m ys = refl
loose {x = end n} s m ys = refl

-- an infix operator whose sides fit is placed
pub place : (o : Operator) (p : ℕ) (t : Tree) (fs : Stack) → IsTrue (priority_fits true p o.left) → IsTrue (priority_fits true o.priority (limit fs))
    → infix_operator true o p t fs ≡ Ok (expect_term (infix_frame o t ▹ fs))
place o p t (prefix_frame f o' ▹ fs) l h = ap (λ k. try_infix true k o p t (prefix_frame f o' ▹ fs) (infix_operator true o o'.priority (compound_1 f t) fs)) h
    ∙ ap (λ k. place_infix k o t (prefix_frame f o' ▹ fs)) l
place o p t (infix_frame o' u ▹ fs) l h = ap (λ k. try_infix true k o p t (infix_frame o' u ▹ fs) (infix_operator true o o'.priority (compound_2 o'.name u t)
    fs)) h ∙ ap (λ k. place_infix k o t (infix_frame o' u ▹ fs)) l
place o p t (root cs) l h = ap (λ k. try_infix true k o p t (root cs) (Err clash)) h ∙ ap (λ k. place_infix k o t (root cs)) l
place o p t (parens ▹ fs) l h = ap (λ k. try_infix true k o p t (parens ▹ fs) (Err clash)) h ∙ ap (λ k. place_infix k o t (parens ▹ fs)) l
place o p t (braces ▹ fs) l h = ap (λ k. try_infix true k o p t (braces ▹ fs) (Err clash)) h ∙ ap (λ k. place_infix k o t (braces ▹ fs)) l
place o p t (arguments f ts ▹ fs) l h =
    ap (λ k. try_infix true k o p t (arguments f ts ▹ fs) (Err clash)) h ∙ ap (λ k. place_infix k o t (arguments f ts ▹ fs)) l
place o p t (list_elements ts ▹ fs) l h =
    ap (λ k. try_infix true k o p t (list_elements ts ▹ fs) (Err clash)) h ∙ ap (λ k. place_infix k o t (list_elements ts ▹ fs)) l
place o p t (list_tail ts ▹ fs) l h = ap (λ k. try_infix true k o p t (list_tail ts ▹ fs) (Err clash)) h ∙ ap (λ k. place_infix k o t (list_tail ts ▹ fs)) l

pub leb_not : (a b : ℕ) → b < a → nat_le a b ≡ false
leb_not a b l = decide (nat_le a b) refl
  where
    decide : (k : Bool) → nat_le a b ≡ k → k ≡ false
    decide true e = absurd (let m = leb-true a b e in omega arith)
    decide false e = refl

-- fitting is an order of numbers
pub fit : (p q : ℕ) → IsTrue (priority_fits true p q) → p ≤ q
fit p q h = leb-true p q h

pub fit_again : (p q : ℕ) → p ≤ q → IsTrue (priority_fits true p q)
fit_again p q h = le-leb p q h
