-- What the parser accepts is in the grammar.
use Rattle.std.specs.Prelude.{if◌then◌else◌, ◌≡◌, ℕ, ◌+◌, Bool, true, false, ◌||◌, not, IsTrue, List, [], ◌∷◌, ◌++◌, Option, Some, None, Ok, Err}
use Rattle.std.proofs.Common.{refl, sym, ap, ◌∙◌, subst, arith, true≢false, append-nil}
use Rattle.std.proofs.lemmas.Bool.{le-leb}
use Rattle.ml_term.specs.Tree.{Tree, Trees, arity, atom, compound, compound_1, compound_2, no_trees, tree}
use Rattle.ml_reader.specs.Lexemes.{ReadClause, clause_from, Lexeme, name, variable_lexeme, number, open_paren, close_paren, open_list, close_list, open_curly}
use Rattle.ml_reader.specs.Lexemes.{close_curly, head_tail_separator, comma, end, trees_onto, clauses_onto, brackets_name, braces_name, cell, cells}
use Rattle.ml_reader.specs.Operators.{Operator, prefix_of, is_operator, infix_at, closes, priority_fits}
use Rattle.ml_reader.specs.Grammar.{Word, plain, brackets, curlies, joins, Derives, a_variable, a_number, a_negative, in_braces, an_atom, a_compound, in_parens}
use Rattle.ml_reader.specs.Grammar.{a_list, a_prefix, an_infix, Arguments, last_argument, argument, Elements, last_element, before_bar, element, IsText}
use Rattle.ml_reader.specs.Grammar.{no_clause, a_clause}
use Rattle.ml_reader.specs.Levels.{enclosed, in_argument, in_list, in_tail, right_of, Wants, at_first, behind_clause, behind_paren, behind_brace}
use Rattle.ml_reader.specs.Levels.{behind_bracket, behind_functor, behind_argument, behind_element, behind_bar, behind_prefix, behind_infix}
use Rattle.ml_reader.specs.inside.parser.Parser.{prefix_frame, infix_frame, parens, braces, arguments, list_elements, list_tail, Stack, root, ◌▹◌, State}
use Rattle.ml_reader.specs.inside.parser.Parser.{expect_term, after_open, after_name, after_term, clash, Next, commas, limit, finish_operand, place_infix}
use Rattle.ml_reader.specs.inside.parser.Parser.{try_infix, infix_operator, follow_term_as, begin_term, follow_open, place_prefix, prefix_operator}
use Rattle.ml_reader.specs.inside.parser.Parser.{operand_or_prefix, follow_name, step, run_tokens, read_tokens}
use Rattle.ml_reader.proofs.Parsing.OpenLevels.{opened, commas_opened, greatest_opened}

or_false : (k l : Bool) → (k || l) ≡ false → l ≡ false
or_false false l e = e
or_false true l e = absurd (true≢false e)

pub zero_fits : (b : Bool) (q : ℕ) → IsTrue (priority_fits b 0 q)
zero_fits true q = le-leb 0 q (omega arith)
zero_fits false q = refl

module _ (b : Bool) (start : List Lexeme) where
  -- the tokens from the start up to ys open the frames, and a term is wanted: each frame says what is derived when its operand is
  abbrev pub Begun : Stack → List Lexeme → Type 0
  Begun (root cs) ys = Wants b start ys [] × ((ds : List ReadClause) → IsText b ys ds → IsText b start (clauses_onto cs ds))
  Begun (prefix_frame f o ▹ fs) ys = (xs : List Lexeme) × Begun fs xs × IsTrue (priority_fits b o.priority (limit fs))
      × ((zs : List Lexeme) (p : ℕ) (t : Tree) → Derives b (commas fs) ys zs p t → IsTrue (priority_fits b p o.right) → Derives b (commas fs) xs zs o.priority
      (compound_1 f t)) × Wants b start ys (right_of o.right ∷ opened fs)
  Begun (infix_frame o u ▹ fs) ys = (xs : List Lexeme) × Begun fs xs × IsTrue (priority_fits b o.priority (limit fs))
      × ((zs : List Lexeme) (p : ℕ) (t : Tree) → Derives b (commas fs) ys zs p t → IsTrue (priority_fits b p o.right) → Derives b (commas fs) xs zs o.priority
      (compound_2 o.name u t)) × Wants b start ys (right_of o.right ∷ opened fs)
  Begun (parens ▹ fs) ys =
      (xs : List Lexeme) × Begun fs xs × ((zs : List Lexeme) (p : ℕ) (t : Tree) → Derives b true ys (close_paren ∷ zs) p t → IsTrue (priority_fits b p 1200)
      → Derives b (commas fs) xs zs 0 t) × Wants b start ys (enclosed ∷ opened fs)
  Begun (braces ▹ fs) ys =
      (xs : List Lexeme) × Begun fs xs × ((zs : List Lexeme) (p : ℕ) (t : Tree) → Derives b true ys (close_curly ∷ zs) p t → IsTrue (priority_fits b p 1200)
      → Derives b (commas fs) xs zs 0 (compound_1 braces_name t))
      × Wants b start ys (enclosed ∷ opened fs)
  Begun (arguments f ts ▹ fs) ys =
      (xs : List Lexeme) × Begun fs xs
      × ((zs : List Lexeme) (us : Trees) → Arguments b ys zs us → Derives b (commas fs) xs zs 0 (compound f (trees_onto ts us)))
      × Wants b start ys (in_argument (1 + arity ts) ∷ opened fs)
  Begun (list_elements ts ▹ fs) ys = (xs : List Lexeme) × Begun fs xs
      × ((zs : List Lexeme) (u : Tree) → Elements b ys zs u → Derives b (commas fs) xs zs 0 (cells ts u)) × Wants b start ys (in_list ∷ opened fs)
  Begun (list_tail ts ▹ fs) ys =
      (xs : List Lexeme) × Begun fs xs × ((zs : List Lexeme) (p : ℕ) (t : Tree) → Derives b false ys (close_list ∷ zs) p t → IsTrue (priority_fits b p 999)
      → Derives b (commas fs) xs zs 0 (cells ts t)) × Wants b start ys (in_tail ∷ opened fs)

  -- the frames are the levels that are open
  pub placed_in : (fs : Stack) (ys : List Lexeme) → Begun fs ys → Wants b start ys (opened fs)
  placed_in (root cs) ys g = g.0
  placed_in (prefix_frame f o ▹ fs) ys g = g.4
  placed_in (infix_frame o u ▹ fs) ys g = g.4
  placed_in (parens ▹ fs) ys g = g.3
  placed_in (braces ▹ fs) ys g = g.3
  placed_in (arguments f ts ▹ fs) ys g = g.3
  placed_in (list_elements ts ▹ fs) ys g = g.3
  placed_in (list_tail ts ▹ fs) ys g = g.3

  abbrev pub Holds : State → List Lexeme → Type 0
  Holds (expect_term fs) ys = Begun fs ys
  Holds (after_open k fs) ys = (xs : List Lexeme) × Begun fs xs × (xs ≡ (if k then open_list else open_curly) ∷ ys)
  Holds (after_name m f fs) ys = (xs : List Lexeme) × Begun fs xs × Word xs ys m f
  Holds (after_term p t fs) ys =
      (xs : List Lexeme) × Begun fs xs × Derives b (commas fs) xs ys p t × IsTrue (priority_fits b p (limit fs)) × (p ≡ 0)

  abbrev pub HoldsAfter : Next → List Lexeme → Type 0
  HoldsAfter (Ok s) ys = Holds s ys
  HoldsAfter (Err e) ys = Unit {0}

  listed : {c : Bool} {xs ys zs : List Lexeme} {u : Tree} → xs ≡ open_list ∷ ys → Elements b ys zs u → Derives b c xs zs 0 u
  listed {c} {xs} {ys} {zs} {u} e d = subst (λ l. Derives b c l zs 0 u) (sym e) (a_list d)

  ended_holds : (x : Lexeme) (t : Tree) (fs : Stack) (p : ℕ) (xs ys : List Lexeme) → Begun fs xs → Derives b (commas fs) xs (x ∷ ys) p t
      → IsTrue (priority_fits b p (limit fs)) → HoldsAfter (finish_operand x t fs) ys
  ended_holds x t (prefix_frame f o ▹ fs) p xs ys g d h = ended_holds x (compound_1 f t) fs o.priority g.0 ys g.1 (g.3 (x ∷ ys) p t d h) g.2
  ended_holds x t (infix_frame o u ▹ fs) p xs ys g d h = ended_holds x (compound_2 o.name u t) fs o.priority g.0 ys g.1 (g.3 (x ∷ ys) p t d h) g.2
  ended_holds close_paren t (parens ▹ fs) p xs ys g d h = (g.0, g.1, g.2 ys p t d h, zero_fits b (limit fs), refl)
  ended_holds close_curly t (braces ▹ fs) p xs ys g d h = (g.0, g.1, g.2 ys p t d h, zero_fits b (limit fs), refl)
  ended_holds close_paren t (arguments f ts ▹ fs) p xs ys g d h = (g.0, g.1, g.2 ys (tree t no_trees) (last_argument d h), zero_fits b (limit fs), refl)
  ended_holds comma t (arguments f ts ▹ fs) p xs ys g d h = (g.0, g.1, λ zs us us_d. g.2 zs (tree t us) (argument d h us_d), behind_argument g.3 d h)
  ended_holds comma t (list_elements ts ▹ fs) p xs ys g d h = (g.0, g.1, λ zs u es. g.2 zs (cell t u) (element d h es), behind_element g.3 d h)
  ended_holds head_tail_separator t (list_elements ts ▹ fs) p xs ys g d h = (g.0, g.1, λ zs q u e l. g.2 zs (cell t u) (before_bar d h e l), behind_bar g.3 d h)
  ended_holds close_list t (list_elements ts ▹ fs) p xs ys g d h =
      (g.0, g.1, g.2 ys (cell t (atom brackets_name)) (last_element d h), zero_fits b (limit fs), refl)
  ended_holds close_list t (list_tail ts ▹ fs) p xs ys g d h = (g.0, g.1, g.2 ys p t d h, zero_fits b (limit fs), refl)
  ended_holds (end n) t (root cs) p xs ys g d h = (behind_clause g.0 d h, λ us i. g.1 (clause_from n t ∷ us) (a_clause d h i))
  ended_holds x t fs p xs ys g d h = tt

  module _ (o : Operator) (x : Lexeme) (ys : List Lexeme) where
    placed_holds : (p : ℕ) (t : Tree) (fs : Stack) (xs : List Lexeme) → Begun fs xs → infix_at (commas fs) x ≡ Some o → Derives b (commas fs) xs (x ∷ ys) p t
        → IsTrue (priority_fits b o.priority (limit fs))
        → (k : Bool) → priority_fits b p o.left ≡ k → HoldsAfter (place_infix k o t fs) ys
    placed_holds p t fs xs g e d h true l = (
      xs,
      g,
      h,
      λ zs q u d' h'. an_infix d e l d' h',
      behind_infix (placed_in fs xs g) (subst (λ c. Derives b c xs (x ∷ ys) p t) (sym (commas_opened fs)) d) (ap (λ c. infix_at c x) (commas_opened fs) ∙ e) l
          (subst (λ n. IsTrue (priority_fits b o.priority n)) (sym (greatest_opened fs)) h),
    )
    placed_holds p t fs xs g e d h false l = tt

    tried_holds : (p : ℕ) (t : Tree) (fs : Stack) (xs : List Lexeme) (low : Next) → Begun fs xs → infix_at (commas fs) x ≡ Some o
        → Derives b (commas fs) xs (x ∷ ys) p t → HoldsAfter low ys
        → (k : Bool) → priority_fits b o.priority (limit fs) ≡ k → HoldsAfter (try_infix b k o p t fs low) ys
    tried_holds p t fs xs low g e d l true h = placed_holds p t fs xs g e d h (priority_fits b p o.left) refl
    tried_holds p t fs xs low g e d l false h = l

    operated_holds : (p : ℕ) (t : Tree) (fs : Stack) (xs : List Lexeme) → Begun fs xs → infix_at (commas fs) x ≡ Some o → Derives b (commas fs) xs (x ∷ ys) p t
        → IsTrue (priority_fits b p (limit fs))
        → HoldsAfter (infix_operator b o p t fs) ys
    operated_holds p t (prefix_frame f o' ▹ fs) xs g e d h =
        tried_holds p t (prefix_frame f o' ▹ fs) xs (infix_operator b o o'.priority (compound_1 f t) fs) g e d (operated_holds o'.priority (compound_1 f t) fs
        g.0 g.1 e (g.3 (x ∷ ys) p t d h) g.2) (priority_fits b o.priority o'.right) refl
    operated_holds p t (infix_frame o' u ▹ fs) xs g e d h =
        tried_holds p t (infix_frame o' u ▹ fs) xs (infix_operator b o o'.priority (compound_2 o'.name u t) fs) g e d
        (operated_holds o'.priority (compound_2 o'.name u t) fs g.0 g.1 e (g.3 (x ∷ ys) p t d h) g.2) (priority_fits b o.priority o'.right) refl
    operated_holds p t (root cs) xs g e d h = tried_holds p t (root cs) xs (Err clash) g e d tt (priority_fits b o.priority 1200) refl
    operated_holds p t (f ▹ fs) xs g e d h = tried_holds p t (f ▹ fs) xs (Err clash) g e d tt (priority_fits b o.priority (limit (f ▹ fs))) refl

  had_holds : (x : Lexeme) (p : ℕ) (t : Tree) (fs : Stack) (xs ys : List Lexeme) → Begun fs xs → Derives b (commas fs) xs (x ∷ ys) p t
      → IsTrue (priority_fits b p (limit fs))
      → (m : Option Operator) → infix_at (commas fs) x ≡ m → HoldsAfter (follow_term_as b m x p t fs) ys
  had_holds x p t fs xs ys g d h (Some o) e = operated_holds o x ys p t fs xs g e d h
  had_holds x p t fs xs ys g d h None e = ended_holds x t fs p xs ys g d h

  wanted_holds : (x : Lexeme) (fs : Stack) (ys : List Lexeme) → Begun fs (x ∷ ys) → HoldsAfter (begin_term x fs) ys
  wanted_holds (name q f) fs ys g = (name q f ∷ ys, g, plain)
  wanted_holds (variable_lexeme n) fs ys g = (variable_lexeme n ∷ ys, g, a_variable, zero_fits b (limit fs), refl)
  wanted_holds (number k n) fs ys g = (number k n ∷ ys, g, a_number, zero_fits b (limit fs), refl)
  wanted_holds (open_paren k) fs ys g = (open_paren k ∷ ys, g, λ zs p t d h. in_parens d h, behind_paren (placed_in fs (open_paren k ∷ ys) g))
  wanted_holds open_list fs ys g = (open_list ∷ ys, g, refl)
  wanted_holds open_curly fs ys g = (open_curly ∷ ys, g, refl)
  wanted_holds x fs ys g = tt

  listed_in : {c : Bool} {xs ys zs : List Lexeme} {p : ℕ} {t : Tree} → xs ≡ open_curly ∷ ys → Derives b true ys (close_curly ∷ zs) p t
      → IsTrue (priority_fits b p 1200) → Derives b c xs zs 0 (compound_1 braces_name t)
  listed_in {c} {xs} {ys} {zs} {p} {t} e d l = subst (λ l. Derives b c l zs 0 (compound_1 braces_name t)) (sym e) (in_braces d l)

  after_bracket_holds : (k : Bool) (x : Lexeme) (fs : Stack) (xs ys : List Lexeme) → Begun fs xs → xs ≡ (if k then open_list else open_curly) ∷ (x ∷ ys)
      → HoldsAfter (follow_open k x fs) ys
  after_bracket_holds true close_list fs xs ys g e = (xs, g, subst (λ l. Word l ys false brackets_name) (sym e) brackets)
  after_bracket_holds false close_curly fs xs ys g e = (xs, g, subst (λ l. Word l ys false braces_name) (sym e) curlies)
  after_bracket_holds true x fs xs ys g e = wanted_holds x (list_elements no_trees ▹ fs) ys (
    xs,
    g,
    λ zs u es. listed e es,
    behind_bracket (subst (λ l. Wants b start l (opened fs)) e (placed_in fs xs g)),
  )
  after_bracket_holds false x fs xs ys g e =
      wanted_holds x (braces ▹ fs) ys (xs, g, λ zs p t d l. listed_in e d l, behind_brace (subst (λ l. Wants b start l (opened fs)) e (placed_in fs xs g)))

  put_holds : (m : Bool) (f : List ℕ) (o : Operator) (x : Lexeme) (fs : Stack) (xs ys : List Lexeme) → Begun fs xs → Word xs (x ∷ ys) m f → prefix_of f ≡ Some o
      → IsTrue (not (joins m (x ∷ ys))) → closes x ≡ false
      → (k : Bool) → priority_fits b o.priority (limit fs) ≡ k → HoldsAfter (place_prefix k f o x fs) ys
  put_holds m f o x fs xs ys g w e n s true h =
      wanted_holds x (prefix_frame f o ▹ fs) ys (
        xs,
        g,
        h,
        λ zs p t d l. a_prefix w e n d l,
        behind_prefix (placed_in fs xs g) w e n s
            (subst (λ n. IsTrue (priority_fits b o.priority n)) (sym (greatest_opened fs)) h),
      )
  put_holds m f o x fs xs ys g w e n s false h = tt

  prefixed_holds : (m : Bool) (f : List ℕ) (x : Lexeme) (fs : Stack) (xs ys : List Lexeme) → Begun fs xs → Word xs (x ∷ ys) m f
      → IsTrue (not (joins m (x ∷ ys))) → closes x ≡ false
      → (i : Option Operator) → prefix_of f ≡ i → HoldsAfter (prefix_operator b i f x fs) ys
  prefixed_holds m f x fs xs ys g w n s None e = tt
  prefixed_holds m f x fs xs ys g w n s (Some o) e = put_holds m f o x fs xs ys g w e n s (priority_fits b o.priority (limit fs)) refl

  operand_or_prefix_holds : (m : Bool) (f : List ℕ) (x : Lexeme) (fs : Stack) (xs ys : List Lexeme) → Begun fs xs → Word xs (x ∷ ys) m f
      → IsTrue (not (joins m (x ∷ ys)))
      → (k : Bool) → (not (is_operator f) || closes x) ≡ k → HoldsAfter (operand_or_prefix b k f x fs) ys
  operand_or_prefix_holds m f x fs xs ys g w n true a = had_holds x 0 (atom f) fs xs ys g (an_atom w a) (zero_fits b (limit fs)) (infix_at (commas fs) x) refl
  operand_or_prefix_holds m f x fs xs ys g w n false a = prefixed_holds m f x fs xs ys g w n (or_false (not (is_operator f)) (closes x) a) (prefix_of f) refl

  after_word_holds : (m : Bool) (f : List ℕ) (x : Lexeme) (fs : Stack) (xs ys : List Lexeme) → Begun fs xs → Word xs (x ∷ ys) m f
      → HoldsAfter (follow_name b m f x fs) ys
  after_word_holds m f (open_paren true) fs xs ys g w = (xs, g, λ zs us us_d. a_compound w us_d, behind_functor (placed_in fs xs g) w)
  after_word_holds true f (number true n) fs xs ys g w = (xs, g, a_negative w, zero_fits b (limit fs), refl)
  after_word_holds m f x fs xs ys g w = operand_or_prefix_holds m f x fs xs ys g w refl (not (is_operator f) || closes x) refl

  step_holds : (s : State) (x : Lexeme) (ys : List Lexeme) → Holds s (x ∷ ys) → HoldsAfter (step b s x) ys
  step_holds (expect_term fs) x ys g = wanted_holds x fs ys g
  step_holds (after_open k fs) x ys g = after_bracket_holds k x fs g.0 ys g.1 g.2
  step_holds (after_name m f fs) x ys g = after_word_holds m f x fs g.0 ys g.1 g.2
  step_holds (after_term p t fs) x ys g = had_holds x p t fs g.0 ys g.1 g.2 g.3 (infix_at (commas fs) x) refl

  run_holds : (n : Next) (xs ys : List Lexeme) → HoldsAfter n (xs ++ ys) → HoldsAfter (run_tokens b n xs) ys
  run_holds n [] ys g = g
  run_holds (Ok s) (x ∷ xs) ys g = run_holds (step b s x) xs ys (step_holds s x (xs ++ ys) g)
  run_holds (Err e) (x ∷ xs) ys g = tt

-- what the parser has read of some tokens holds of it
pub read_holds : (b : Bool) (xs ys : List Lexeme) (s : State) → read_tokens b xs ≡ Ok s → Holds b (xs ++ ys) s ys
read_holds b xs ys s e = subst (λ n. HoldsAfter b (xs ++ ys) n ys) e (run_holds b (xs ++ ys) (Ok (expect_term (root []))) xs ys (at_first, λ us i. i))

-- what is read are clauses
pub sound : (b : Bool) (xs : List Lexeme) (cs : List ReadClause) → read_tokens b xs ≡ Ok (expect_term (root cs)) → IsText b xs (clauses_onto cs [])
sound b xs cs e = subst (λ l. IsText b l (clauses_onto cs [])) (append-nil xs) ((read_holds b xs [] (expect_term (root cs)) e).1 [] no_clause)
