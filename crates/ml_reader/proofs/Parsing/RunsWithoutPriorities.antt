-- The parser without priorities and without terms, and what it accepts.
use Rattle.std.specs.Prelude.{◌≡◌, ℕ, Bool, true, false, ◌||◌, not, IsTrue, List, [], ◌∷◌, ◌++◌, Option, Some, None, Ok, Err}
use Rattle.std.proofs.Common.{refl, sym, ap, ◌∙◌, subst, arith, true≢false}
use Rattle.ml_term.specs.Tree.{Tree, Trees, atom, compound_1, compound_2, no_trees}
use Rattle.ml_reader.specs.Lexemes.{ReadClause, Lexeme, name, variable_lexeme, number, open_paren, close_paren, open_list, close_list, open_curly, close_curly}
use Rattle.ml_reader.specs.Lexemes.{head_tail_separator, comma, end, brackets_name, braces_name, is_minus}
use Rattle.ml_reader.specs.Operators.{Operator, prefix_of, is_operator, infix_at, closes, priority_fits}
use Rattle.ml_reader.specs.Grammar.{Word, plain, brackets, curlies, AtomBefore, joins, Derives, a_variable, a_number, a_negative, in_braces, an_atom}
use Rattle.ml_reader.specs.Grammar.{a_compound, in_parens, a_list, a_prefix, an_infix, Arguments, last_argument, argument, Elements, last_element, before_bar}
use Rattle.ml_reader.specs.Grammar.{element, IsText, no_clause, a_clause, Viable}
use Rattle.ml_reader.specs.inside.parser.Parser.{prefix_frame, infix_frame, parens, braces, arguments, list_elements, list_tail, Stack, root, ◌▹◌, State}
use Rattle.ml_reader.specs.inside.parser.Parser.{expect_term, after_open, after_name, after_term, clash, unexpected, Next, commas, limit, finish_operand}
use Rattle.ml_reader.specs.inside.parser.Parser.{place_infix, try_infix, infix_operator, follow_term_as, follow_term, begin_term, follow_open, place_prefix}
use Rattle.ml_reader.specs.inside.parser.Parser.{prefix_operator, operand_or_prefix, follow_name, step, run_tokens}
use Rattle.ml_reader.proofs.Parsing.TokensAfterOperands.{Begins, begins, elements_begin, yes_op}
use Rattle.ml_reader.proofs.Parsing.StateCompletions.{viable}

pub data Kind : Type 0 where
  in_group : Kind
  in_curly : Kind
  in_argument_list : Kind
  in_list_elements : Kind
  in_rest : Kind

pub data Place : Type 0 where
  wants : List Kind → Place
  freshly : Bool → List Kind → Place
  names : Bool → List ℕ → List Kind → Place
  has : List Kind → Place

abbrev commas_in : List Kind → Bool
commas_in [] = true
commas_in (in_group ∷ ks) = true
commas_in (in_curly ∷ ks) = true
commas_in (k ∷ ks) = false

abbrev ended_in : Lexeme → List Kind → Option Place
ended_in close_paren (in_group ∷ ks) = Some (has ks)
ended_in close_curly (in_curly ∷ ks) = Some (has ks)
ended_in close_paren (in_argument_list ∷ ks) = Some (has ks)
ended_in comma (in_argument_list ∷ ks) = Some (wants (in_argument_list ∷ ks))
ended_in comma (in_list_elements ∷ ks) = Some (wants (in_list_elements ∷ ks))
ended_in head_tail_separator (in_list_elements ∷ ks) = Some (wants (in_rest ∷ ks))
ended_in close_list (in_list_elements ∷ ks) = Some (has ks)
ended_in close_list (in_rest ∷ ks) = Some (has ks)
ended_in (end m) [] = Some (wants [])
ended_in x ks = None

abbrev had_in : Option Operator → Lexeme → List Kind → Option Place
had_in (Some o) x ks = Some (wants ks)
had_in None x ks = ended_in x ks

abbrev wanted_in : Lexeme → List Kind → Option Place
wanted_in (name q f) ks = Some (names (is_minus q f) f ks)
wanted_in (variable_lexeme n) ks = Some (has ks)
wanted_in (number k n) ks = Some (has ks)
wanted_in (open_paren k) ks = Some (wants (in_group ∷ ks))
wanted_in open_list ks = Some (freshly true ks)
wanted_in open_curly ks = Some (freshly false ks)
wanted_in x ks = None

abbrev bracket_in : Bool → Lexeme → List Kind → Option Place
bracket_in true close_list ks = Some (names false brackets_name ks)
bracket_in false close_curly ks = Some (names false braces_name ks)
bracket_in true x ks = wanted_in x (in_list_elements ∷ ks)
bracket_in false x ks = wanted_in x (in_curly ∷ ks)

abbrev prefixed_in : Option Operator → Lexeme → List Kind → Option Place
prefixed_in None x ks = None
prefixed_in (Some o) x ks = wanted_in x ks

abbrev either_in : Bool → List ℕ → Lexeme → List Kind → Option Place
either_in true f x ks = had_in (infix_at (commas_in ks) x) x ks
either_in false f x ks = prefixed_in (prefix_of f) x ks

abbrev word_in : Bool → List ℕ → Lexeme → List Kind → Option Place
word_in m f (open_paren true) ks = Some (wants (in_argument_list ∷ ks))
word_in true f (number true n) ks = Some (has ks)
word_in m f x ks = either_in (not (is_operator f) || closes x) f x ks

abbrev pub moved : Place → Lexeme → Option Place
moved (wants ks) x = wanted_in x ks
moved (freshly k ks) x = bracket_in k x ks
moved (names m f ks) x = word_in m f x ks
moved (has ks) x = had_in (infix_at (commas_in ks) x) x ks

abbrev pub walk : Option Place → List Lexeme → Option Place
walk m [] = m
walk (Some s) (x ∷ xs) = walk (moved s x) xs
walk None (x ∷ xs) = None

-- the parser's place
abbrev kinds : Stack → List Kind
kinds (root cs) = []
kinds (prefix_frame f o ▹ fs) = kinds fs
kinds (infix_frame o t ▹ fs) = kinds fs
kinds (parens ▹ fs) = in_group ∷ kinds fs
kinds (braces ▹ fs) = in_curly ∷ kinds fs
kinds (arguments f ts ▹ fs) = in_argument_list ∷ kinds fs
kinds (list_elements ts ▹ fs) = in_list_elements ∷ kinds fs
kinds (list_tail ts ▹ fs) = in_rest ∷ kinds fs

abbrev pub place_of : State → Place
place_of (expect_term fs) = wants (kinds fs)
place_of (after_open k fs) = freshly k (kinds fs)
place_of (after_name m f fs) = names m f (kinds fs)
place_of (after_term p t fs) = has (kinds fs)

abbrev pub Agrees : Next → Option Place → Type 0
Agrees (Ok s) m = m ≡ Some (place_of s)
Agrees (Err clash) m = (q : Place) × (m ≡ Some q)
Agrees (Err unexpected) m = m ≡ None

same_commas : (fs : Stack) → commas fs ≡ commas_in (kinds fs)
same_commas (root cs) = refl
same_commas (prefix_frame f o ▹ fs) = same_commas fs
same_commas (infix_frame o t ▹ fs) = same_commas fs
same_commas (parens ▹ fs) = refl
same_commas (braces ▹ fs) = refl
same_commas (arguments f ts ▹ fs) = refl
same_commas (list_elements ts ▹ fs) = refl
same_commas (list_tail ts ▹ fs) = refl

ended_agrees : (x : Lexeme) (t : Tree) (fs : Stack) → Agrees (finish_operand x t fs) (ended_in x (kinds fs))
ended_agrees x t (prefix_frame f o ▹ fs) = ended_agrees x (compound_1 f t) fs
ended_agrees x t (infix_frame o u ▹ fs) = ended_agrees x (compound_2 o.name u t) fs
ended_agrees close_paren t (parens ▹ fs) = refl
ended_agrees close_curly t (braces ▹ fs) = refl
ended_agrees close_paren t (arguments f ts ▹ fs) = refl
ended_agrees comma t (arguments f ts ▹ fs) = refl
ended_agrees comma t (list_elements ts ▹ fs) = refl
ended_agrees head_tail_separator t (list_elements ts ▹ fs) = refl
ended_agrees close_list t (list_elements ts ▹ fs) = refl
ended_agrees close_list t (list_tail ts ▹ fs) = refl
ended_agrees (end n) t (root cs) = refl
ended_agrees x t fs = refl

module _ (b : Bool) where
  placed_agrees : (k : Bool) (o : Operator) (t : Tree) (fs : Stack) → Agrees (place_infix k o t fs) (Some (wants (kinds fs)))
  placed_agrees true o t fs = refl
  placed_agrees false o t fs = (wants (kinds fs), refl)

  tried_agrees : (k : Bool) (o : Operator) (p : ℕ) (t : Tree) (fs : Stack) (low : Next) → Agrees low (Some (wants (kinds fs)))
      → Agrees (try_infix b k o p t fs low) (Some (wants (kinds fs)))
  tried_agrees true o p t fs low h = placed_agrees (priority_fits b p o.left) o t fs
  tried_agrees false o p t fs low h = h

  operated_agrees : (o : Operator) (p : ℕ) (t : Tree) (fs : Stack) → Agrees (infix_operator b o p t fs) (Some (wants (kinds fs)))
  operated_agrees o p t (prefix_frame f o' ▹ fs) = tried_agrees (priority_fits b o.priority o'.right) o p t (prefix_frame f o' ▹ fs)
      (infix_operator b o o'.priority (compound_1 f t) fs) (operated_agrees o o'.priority (compound_1 f t) fs)
  operated_agrees o p t (infix_frame o' u ▹ fs) = tried_agrees (priority_fits b o.priority o'.right) o p t (infix_frame o' u ▹ fs)
      (infix_operator b o o'.priority (compound_2 o'.name u t) fs) (operated_agrees o o'.priority (compound_2 o'.name u t) fs)
  operated_agrees o p t (root cs) = tried_agrees (priority_fits b o.priority 1200) o p t (root cs) (Err clash) (wants [], refl)
  operated_agrees o p t (f ▹ fs) = tried_agrees (priority_fits b o.priority (limit (f ▹ fs))) o p t (f ▹ fs) (Err clash) (wants (kinds (f ▹ fs)), refl)

  had_as_agrees : (m : Option Operator) (x : Lexeme) (p : ℕ) (t : Tree) (fs : Stack) → Agrees (follow_term_as b m x p t fs) (had_in m x (kinds fs))
  had_as_agrees (Some o) x p t fs = operated_agrees o p t fs
  had_as_agrees None x p t fs = ended_agrees x t fs

  had_agrees : (x : Lexeme) (p : ℕ) (t : Tree) (fs : Stack) → Agrees (follow_term b x p t fs) (had_in (infix_at (commas_in (kinds fs)) x) x (kinds fs))
  had_agrees x p t fs =
      subst (λ c. Agrees (follow_term b x p t fs) (had_in (infix_at c x) x (kinds fs))) (same_commas fs) (had_as_agrees (infix_at (commas fs) x) x p t fs)

  wanted_agrees : (x : Lexeme) (fs : Stack) → Agrees (begin_term x fs) (wanted_in x (kinds fs))
  wanted_agrees (name q f) fs = refl
  wanted_agrees (variable_lexeme n) fs = refl
  wanted_agrees (number k n) fs = refl
  wanted_agrees (open_paren k) fs = refl
  wanted_agrees open_list fs = refl
  wanted_agrees open_curly fs = refl
  wanted_agrees x fs = refl

  bracket_agrees : (k : Bool) (x : Lexeme) (fs : Stack) → Agrees (follow_open k x fs) (bracket_in k x (kinds fs))
  bracket_agrees true close_list fs = refl
  bracket_agrees false close_curly fs = refl
  bracket_agrees true x fs = wanted_agrees x (list_elements no_trees ▹ fs)
  bracket_agrees false x fs = wanted_agrees x (braces ▹ fs)

  -- no term begins with what closes; all else can
  begins_in : (x : Lexeme) (ks : List Kind) → closes x ≡ false → (q : Place) × (wanted_in x ks ≡ Some q)
  begins_in (name q f) ks e = (names (is_minus q f) f ks, refl)
  begins_in (variable_lexeme n) ks e = (has ks, refl)
  begins_in (number k n) ks e = (has ks, refl)
  begins_in (open_paren k) ks e = (wants (in_group ∷ ks), refl)
  begins_in open_list ks e = (freshly true ks, refl)
  begins_in open_curly ks e = (freshly false ks, refl)
  begins_in x ks e = absurd (true≢false e)

  put_agrees : (k : Bool) (f : List ℕ) (o : Operator) (x : Lexeme) (fs : Stack) → closes x ≡ false → Agrees (place_prefix k f o x fs) (wanted_in x (kinds fs))
  put_agrees true f o x fs e = wanted_agrees x (prefix_frame f o ▹ fs)
  put_agrees false f o x fs e = begins_in x (kinds fs) e

  prefixed_agrees : (m : Option Operator) (f : List ℕ) (x : Lexeme) (fs : Stack) → closes x ≡ false
      → Agrees (prefix_operator b m f x fs) (prefixed_in m x (kinds fs))
  prefixed_agrees None f x fs e = refl
  prefixed_agrees (Some o) f x fs e = put_agrees (priority_fits b o.priority (limit fs)) f o x fs e

  or_false : (k l : Bool) → (k || l) ≡ false → l ≡ false
  or_false false l e = e
  or_false true l e = absurd (true≢false e)

  either_agrees : (k : Bool) (f : List ℕ) (x : Lexeme) (fs : Stack) → (not (is_operator f) || closes x) ≡ k
      → Agrees (operand_or_prefix b k f x fs) (either_in k f x (kinds fs))
  either_agrees true f x fs e = had_agrees x 0 (atom f) fs
  either_agrees false f x fs e = prefixed_agrees (prefix_of f) f x fs (or_false (not (is_operator f)) (closes x) e)

  word_agrees : (m : Bool) (f : List ℕ) (x : Lexeme) (fs : Stack) → Agrees (follow_name b m f x fs) (word_in m f x (kinds fs))
  word_agrees m f (open_paren true) fs = refl
  word_agrees true f (number true n) fs = refl
  word_agrees m f x fs = either_agrees (not (is_operator f) || closes x) f x fs refl

  pub step_agrees : (s : State) (x : Lexeme) → Agrees (step b s x) (moved (place_of s) x)
  step_agrees (expect_term fs) x = wanted_agrees x fs
  step_agrees (after_open k fs) x = bracket_agrees k x fs
  step_agrees (after_name m f fs) x = word_agrees m f x fs
  step_agrees (after_term p t fs) x = had_agrees x p t fs

  -- what was read without a fault is where the walk is
  walks_on : (n : Next) (m : Option Place) (x : Lexeme) (xs : List Lexeme) (s : State) → Agrees n m
      → ((s' : State) → Agrees (step b s' x) (moved (place_of s') x) → run_tokens b (step b s' x) xs ≡ Ok s → walk (moved (place_of s') x) xs
      ≡ Some (place_of s))
      → run_tokens b n (x ∷ xs) ≡ Ok s → walk m (x ∷ xs) ≡ Some (place_of s)
  walks_on (Ok s') m x xs s a k e = ap (λ m. walk m (x ∷ xs)) a ∙ k s' (step_agrees s' x) e
  walks_on (Err j) m x xs s a k e = absurd (grind (arith, e))

  pub walks : (n : Next) (m : Option Place) (xs : List Lexeme) (s : State) → Agrees n m → run_tokens b n xs ≡ Ok s → walk m xs ≡ Some (place_of s)
  walks n m [] s a e = subst (λ n. Agrees n m) e a
  walks n m (x ∷ xs) s a e = walks_on n m x xs s a (λ s' a' e'. walks (step b s' x) (moved (place_of s') x) xs s a' e') e

-- without priorities the parser has no clash
abbrev Calm : Next → Type 0
Calm (Ok s) = Unit {0}
Calm (Err clash) = ⊥
Calm (Err unexpected) = Unit {0}

ended_calm : (x : Lexeme) (t : Tree) (fs : Stack) → Calm (finish_operand x t fs)
ended_calm x t (prefix_frame f o ▹ fs) = ended_calm x (compound_1 f t) fs
ended_calm x t (infix_frame o u ▹ fs) = ended_calm x (compound_2 o.name u t) fs
ended_calm close_paren t (parens ▹ fs) = tt
ended_calm close_curly t (braces ▹ fs) = tt
ended_calm close_paren t (arguments f ts ▹ fs) = tt
ended_calm comma t (arguments f ts ▹ fs) = tt
ended_calm comma t (list_elements ts ▹ fs) = tt
ended_calm head_tail_separator t (list_elements ts ▹ fs) = tt
ended_calm close_list t (list_elements ts ▹ fs) = tt
ended_calm close_list t (list_tail ts ▹ fs) = tt
ended_calm (end n) t (root cs) = tt
ended_calm x t fs = tt

operated_calm : (o : Operator) (p : ℕ) (t : Tree) (fs : Stack) → Calm (infix_operator false o p t fs)
operated_calm o p t (prefix_frame f o' ▹ fs) = tt
operated_calm o p t (infix_frame o' u ▹ fs) = tt
operated_calm o p t (root cs) = tt
operated_calm o p t (f ▹ fs) = tt

had_calm : (m : Option Operator) (x : Lexeme) (p : ℕ) (t : Tree) (fs : Stack) → Calm (follow_term_as false m x p t fs)
had_calm (Some o) x p t fs = operated_calm o p t fs
had_calm None x p t fs = ended_calm x t fs

wanted_calm : (x : Lexeme) (fs : Stack) → Calm (begin_term x fs)
wanted_calm (name q f) fs = tt
wanted_calm x fs = tt

bracket_calm : (k : Bool) (x : Lexeme) (fs : Stack) → Calm (follow_open k x fs)
bracket_calm true close_list fs = tt
bracket_calm false close_curly fs = tt
bracket_calm true x fs = wanted_calm x (list_elements no_trees ▹ fs)
bracket_calm false x fs = wanted_calm x (braces ▹ fs)

prefixed_calm : (m : Option Operator) (f : List ℕ) (x : Lexeme) (fs : Stack) → Calm (prefix_operator false m f x fs)
prefixed_calm None f x fs = tt
prefixed_calm (Some o) f x fs = wanted_calm x (prefix_frame f o ▹ fs)

either_calm : (k : Bool) (f : List ℕ) (x : Lexeme) (fs : Stack) → Calm (operand_or_prefix false k f x fs)
either_calm true f x fs = had_calm (infix_at (commas fs) x) x 0 (atom f) fs
either_calm false f x fs = prefixed_calm (prefix_of f) f x fs

word_calm : (m : Bool) (f : List ℕ) (x : Lexeme) (fs : Stack) → Calm (follow_name false m f x fs)
word_calm m f (open_paren true) fs = tt
word_calm true f (number true n) fs = tt
word_calm m f x fs = either_calm (not (is_operator f) || closes x) f x fs

step_calm : (s : State) (x : Lexeme) → Calm (step false s x)
step_calm (expect_term fs) x = wanted_calm x fs
step_calm (after_open k fs) x = bracket_calm k x fs
step_calm (after_name m f fs) x = word_calm m f x fs
step_calm (after_term p t fs) x = had_calm (infix_at (commas fs) x) x p t fs

walk_none : (xs : List Lexeme) → walk None xs ≡ None
walk_none [] = refl
walk_none (x ∷ xs) = refl

-- where the walk goes on the parser without priorities does
viable_stays : (n : Next) (m : Option Place) (xs : List Lexeme) (q : Place) → Agrees n m → Calm n → walk m xs ≡ Some q → (s : State)
    × (run_tokens false n xs ≡ Ok s)
viable_stays (Ok s) m [] q a c e = (s, refl)
viable_stays (Ok s) m (x ∷ xs) q a c e =
    viable_stays (step false s x) (moved (place_of s) x) xs q (step_agrees false s x) (step_calm s x) (ap (λ m. walk m (x ∷ xs)) (sym a) ∙ e)
viable_stays (Err clash) m xs q a c e = absurd c
viable_stays (Err unexpected) m xs q a c e = absurd (let h = ap (λ m. walk m xs) (sym a) ∙ e in let h' = walk_none xs in grind (arith, h, h'))

-- what the walk takes is begun by a clause, if no priority counts
pub walk_viable : (xs : List Lexeme) (q : Place) → walk (Some (wants [])) xs ≡ Some q → Viable false xs
walk_viable xs q e = let h = viable_stays (Ok (expect_term (root []))) (Some (wants [])) xs q refl tt e in viable false xs h.0 h.1

-- The walk takes each clause, whatever its priorities.
pub data Halts (c : Bool) (x : Lexeme) : Type 0 where
  at_infix : {o : Operator} → infix_at c x ≡ Some o → Halts c x
  at_clause_end : IsTrue (closes x) → infix_at c x ≡ None → Halts c x

abbrev WalksOn : Bool → List Lexeme → Type 0
WalksOn c [] = ⊥
WalksOn c (x ∷ ys) = Halts c x

word_walk : {xs ys : List Lexeme} {m : Bool} {f : List ℕ} → Word xs ys m f → (ks : List Kind) → walk (Some (wants ks)) xs ≡ walk (Some (names m f ks)) ys
word_walk plain ks = refl
word_walk brackets ks = refl
word_walk curlies ks = refl

atom_or_closed : {c : Bool} {x : Lexeme} → Halts c x → (m : Bool) (ys : List Lexeme) → joins m (x ∷ ys) ≡ false
atom_or_closed {x = open_paren k} (at_infix e) m ys = absurd (grind (arith, e))
atom_or_closed {x = open_paren k} (at_clause_end h e) m ys = absurd (grind (arith, h))
atom_or_closed {x = name q f} s m ys = refl
atom_or_closed {x = variable_lexeme n} s m ys = refl
atom_or_closed {x = number k n} (at_infix e) m ys = absurd (grind (arith, e))
atom_or_closed {x = number k n} (at_clause_end h e) m ys = absurd (grind (arith, h))
atom_or_closed {x = open_curly} s m ys = refl
atom_or_closed {x = close_curly} s m ys = refl
atom_or_closed {x = close_paren} s m ys = refl
atom_or_closed {x = open_list} s m ys = refl
atom_or_closed {x = close_list} s m ys = refl
atom_or_closed {x = head_tail_separator} s m ys = refl
atom_or_closed {x = comma} s m ys = refl
atom_or_closed {x = end n} s m ys = refl

walk_after_loose : (m : Bool) (f : List ℕ) (x : Lexeme) (ys : List Lexeme) (ks : List Kind) (k : Bool) → joins m (x ∷ ys) ≡ false
    → (not (is_operator f) || closes x) ≡ k → word_in m f x ks ≡ either_in k f x ks
walk_after_loose m f (open_paren true) ys ks k n e = absurd (true≢false n)
walk_after_loose true f (number true i) ys ks k n e = absurd (true≢false n)
walk_after_loose m f x ys ks k n e = ap (λ k. either_in k f x ks) e

atom_walk : (m : Bool) (f : List ℕ) (c : Bool) (ys : List Lexeme) (ks : List Kind) → AtomBefore f ys → WalksOn c ys
    → walk (Some (names m f ks)) ys ≡ walk (Some (has ks)) ys
atom_walk m f c [] ks a s = absurd s
atom_walk m f c (x ∷ ys) ks a s = ap (λ n. walk n ys) (walk_after_loose m f x ys ks true (atom_or_closed s m ys) a)

prefix_walk : (m : Bool) (f : List ℕ) (o : Operator) (ys : List Lexeme) (ks : List Kind) → prefix_of f ≡ Some o → Begins ys → IsTrue (not (joins m ys))
    → walk (Some (names m f ks)) ys ≡ walk (Some (wants ks)) ys
prefix_walk m f o [] ks e s n = absurd s
prefix_walk m f o (x ∷ ys) ks e s n =
    ap (λ n. walk n ys) (walk_after_loose m f x ys ks false (negated _ n) (neither _ _ (yes_op f o e) s) ∙ ap (λ m. prefixed_in m x ks) e)
  where
    negated : (k : Bool) → IsTrue (not k) → k ≡ false
    negated true e = absurd (grind (arith, e))
    negated false e = refl

    neither : (k l : Bool) → k ≡ true → l ≡ false → (not k || l) ≡ false
    neither true false e e' = refl
    neither true true e e' = e'
    neither false l e e' = absurd (true≢false (sym e))

brace_walk : (xs : List Lexeme) (ks : List Kind) → Begins xs → walk (Some (freshly false ks)) xs ≡ walk (Some (wants (in_curly ∷ ks))) xs
brace_walk [] ks s = absurd s
brace_walk (close_curly ∷ xs) ks s = absurd (true≢false s)
brace_walk (x ∷ xs) ks s = refl

fresh_walk : (xs : List Lexeme) (ks : List Kind) → Begins xs → walk (Some (freshly true ks)) xs ≡ walk (Some (wants (in_list_elements ∷ ks))) xs
fresh_walk [] ks s = absurd s
fresh_walk (close_list ∷ xs) ks s = absurd (true≢false s)
fresh_walk (x ∷ xs) ks s = refl

module _ (b : Bool) where
  mutual
    walked : {c : Bool} {xs ys : List Lexeme} {p : ℕ} {t : Tree} → Derives b c xs ys p t → (ks : List Kind) → commas_in ks ≡ c → WalksOn c ys
        → walk (Some (wants ks)) xs ≡ walk (Some (has ks)) ys
    walked a_variable ks ec s = refl
    walked a_number ks ec s = refl
    walked (a_negative w) ks ec s = word_walk w ks
    walked (in_braces d l) ks ec s = brace_walk _ ks (begins d) ∙ walked d (in_curly ∷ ks) refl (at_clause_end refl refl)
    walked (an_atom {c = c} {m = m} {f = f} {ys = ys} w a) ks ec s = word_walk w ks ∙ atom_walk m f c ys ks a s
    walked (a_compound {f = f} w d) ks ec s = word_walk w ks ∙ walked_arguments d ks
    walked (in_parens d l) ks ec s = walked d (in_group ∷ ks) refl (at_clause_end refl refl)
    walked (a_list d) ks ec s = fresh_walk _ ks (elements_begin d) ∙ walked_elements d ks
    walked (a_prefix {m = m} {f = f} {ys = ys} {o = o} w e n d l) ks ec s = word_walk w ks ∙ (prefix_walk m f o ys ks e (begins d) n ∙ walked d ks ec s)
    walked (an_infix {x = x} {ys = ys} d e l d' l') ks ec s =
        walked d ks ec (at_infix e) ∙ (ap (λ n. walk n ys) (ap (λ m. had_in m x ks) (ap (λ c. infix_at c x) ec ∙ e)) ∙ walked d' ks ec s)

    walked_arguments : {xs ys : List Lexeme} {us : Trees} → Arguments b xs ys us → (ks : List Kind)
        → walk (Some (wants (in_argument_list ∷ ks))) xs ≡ walk (Some (has ks)) ys
    walked_arguments (last_argument d l) ks = walked d (in_argument_list ∷ ks) refl (at_clause_end refl refl)
    walked_arguments (argument d l ds) ks = walked d (in_argument_list ∷ ks) refl (at_clause_end refl refl) ∙ walked_arguments ds ks

    walked_elements : {xs ys : List Lexeme} {u : Tree} → Elements b xs ys u → (ks : List Kind)
        → walk (Some (wants (in_list_elements ∷ ks))) xs ≡ walk (Some (has ks)) ys
    walked_elements (last_element d l) ks = walked d (in_list_elements ∷ ks) refl (at_clause_end refl refl)
    walked_elements (before_bar d l d' l') ks =
        walked d (in_list_elements ∷ ks) refl (at_clause_end refl refl) ∙ walked d' (in_rest ∷ ks) refl (at_clause_end refl refl)
    walked_elements (element d l ds) ks = walked d (in_list_elements ∷ ks) refl (at_clause_end refl refl) ∙ walked_elements ds ks

  pub text_walked : {xs : List Lexeme} {cs : List ReadClause} → IsText b xs cs → walk (Some (wants [])) xs ≡ Some (wants [])
  text_walked no_clause = refl
  text_walked (a_clause d l i) = walked d [] refl (at_clause_end refl refl) ∙ text_walked i

pub walk_append : (m : Option Place) (xs ys : List Lexeme) → walk m (xs ++ ys) ≡ walk (walk m xs) ys
walk_append m [] ys = refl
walk_append (Some s) (x ∷ xs) ys = walk_append (moved s x) xs ys
walk_append None (x ∷ xs) ys = sym (walk_none ys)

-- where the walk stops no clause goes on
pub walk_stops : (b : Bool) (xs : List Lexeme) → walk (Some (wants [])) xs ≡ None → Viable b xs → ⊥
walk_stops b xs e v =
    let h = text_walked b v.2 in
    let h' : walk (Some (wants [])) (xs ++ v.0) ≡ None = walk_append (Some (wants [])) xs v.0 ∙ (ap (λ m. walk m v.0) e ∙ walk_none v.0) in
    different (sym h ∙ h')
  where
    different : Some (wants []) ≡ None → ⊥
    different e = cc
