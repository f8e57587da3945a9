-- A term of the grammar, run through the parser, is the operand, and what stood below it stays: what is carried from a state
-- to the next one, and between states that are alike, is carried over every term.
use Rattle.std.specs.Prelude.{pos, neg_ℤ, ◌≡◌, ℕ, Bool, true, false, not, IsTrue, List, [], ◌∷◌, Some, Ok}
use Rattle.std.proofs.Common.{refl, ap, ◌∙◌, arith}
use Rattle.ml_term.specs.Tree.{Tree, Trees, variable, integer, atom, compound, compound_1, compound_2, no_trees, tree}
use Rattle.ml_reader.specs.Lexemes.{ReadClause, clause_from, Lexeme, name, variable_lexeme, number, open_paren, close_paren, open_list, close_list, open_curly}
use Rattle.ml_reader.specs.Lexemes.{close_curly, head_tail_separator, comma, trees_onto, cell, cells, is_minus, brackets_name, braces_name}
use Rattle.ml_reader.specs.Operators.{Operator, prefix_of, infix_at, priority_fits}
use Rattle.ml_reader.specs.Grammar.{Word, plain, brackets, curlies, AtomBefore, joins, Derives, a_variable, a_number, a_negative, in_braces, an_atom}
use Rattle.ml_reader.specs.Grammar.{a_compound, in_parens, a_list, a_prefix, an_infix, Arguments, last_argument, argument, Elements, last_element, before_bar}
use Rattle.ml_reader.specs.Grammar.{element, IsText, no_clause, a_clause}
use Rattle.ml_reader.specs.inside.parser.Parser.{prefix_frame, infix_frame, parens, braces, arguments, list_elements, list_tail, Stack, root, ◌▹◌, State}
use Rattle.ml_reader.specs.inside.parser.Parser.{expect_term, after_open, after_name, after_term, Next, commas, limit, follow_term_as, step, run_tokens}
use Rattle.ml_reader.specs.inside.parser.Parser.{read_tokens}
use Rattle.ml_reader.proofs.Parsing.OperatorRows.{infix_lawful, prefix_lawful, left_within, right_within}
use Rattle.ml_reader.proofs.Parsing.OpenLevels.{Alike}
use Rattle.ml_reader.proofs.Parsing.TokensAfterOperands.{by_infix, by_end, Follows, follows_lower, IsMore, more, Begins, begins, elements_begin}
use Rattle.ml_reader.proofs.Parsing.TokensAfterOperands.{arguments_begin, place, fit, fit_again}
use Rattle.ml_reader.proofs.Parsing.AlikeStates.{atom_alike, prefix_alike, bracket_alike, brace_alike, before_alike, between_alike}

-- what is carried along a run
module _ (P : State → List Lexeme → Type 0) (forward : (s r : State) (x y : Lexeme) (ys : List Lexeme) → step true s x ≡ Ok r → P s (x ∷ y ∷ ys) → P r (y ∷ ys))
    (alike : (s r : State) (x : Lexeme) (ys : List Lexeme) → Alike s r x → P s (x ∷ ys) → P r (x ∷ ys)) where
  -- a name in its place
  pub carry_word : {xs ys : List Lexeme} {m : Bool} {f : List ℕ} {y : Lexeme} → Word xs (y ∷ ys) m f → (fs : Stack) → P (expect_term fs) xs
      → P (after_name m f fs) (y ∷ ys)
  carry_word {ys = ys} {y = y} (plain {q = q} {f = f}) fs h = forward (expect_term fs) (after_name (is_minus q f) f fs) (name q f) y ys refl h
  carry_word {ys = ys} {y = y} brackets fs h =
      forward (after_open true fs) (after_name false brackets_name fs) close_list y ys refl (forward (expect_term fs) (after_open true fs) open_list close_list
      (y ∷ ys) refl h)
  carry_word {ys = ys} {y = y} curlies fs h =
      forward (after_open false fs) (after_name false braces_name fs) close_curly y ys refl (forward (expect_term fs) (after_open false fs) open_curly
      close_curly (y ∷ ys) refl h)

  pub carry_fresh : (xs : List Lexeme) (fs : Stack) → Begins xs → P (after_open true fs) xs → P (expect_term (list_elements no_trees ▹ fs)) xs
  carry_fresh [] fs s h = absurd s
  carry_fresh (x ∷ xs) fs s h = alike (after_open true fs) (expect_term (list_elements no_trees ▹ fs)) x xs (bracket_alike x fs s) h

  pub carry_brace : (xs : List Lexeme) (fs : Stack) → Begins xs → P (after_open false fs) xs → P (expect_term (braces ▹ fs)) xs
  carry_brace [] fs s h = absurd s
  carry_brace (x ∷ xs) fs s h = alike (after_open false fs) (expect_term (braces ▹ fs)) x xs (brace_alike x fs s) h

  pub carry_on : (s r : State) (x : Lexeme) (ys : List Lexeme) → Begins ys → step true s x ≡ Ok r → P s (x ∷ ys) → P r ys
  carry_on s r x [] b e h = absurd b
  carry_on s r x (y ∷ ys) b e h = forward s r x y ys e h

  pub carry_past : (s r : State) (x : Lexeme) (ys : List Lexeme) → IsMore ys → step true s x ≡ Ok r → P s (x ∷ ys) → P r ys
  carry_past s r x [] f e h = absurd f
  carry_past s r x (y ∷ ys) f e h = forward s r x y ys e h

  carry_atom : (c m : Bool) (f : List ℕ) (xs ys : List Lexeme) (fs : Stack) → Word xs ys m f → AtomBefore f ys → Follows c 0 ys → P (expect_term fs) xs
      → P (after_term 0 (atom f) fs) ys
  carry_atom c m f xs [] fs w a s h = absurd s
  carry_atom c m f xs (y ∷ ys) fs w a s h = alike (after_name m f fs) (after_term 0 (atom f) fs) y ys (atom_alike c m f y ys fs a s) (carry_word w fs h)

  pub carry_prefix : (m : Bool) (f : List ℕ) (o : Operator) (xs ys : List Lexeme) (fs : Stack) → Word xs ys m f → prefix_of f ≡ Some o
      → IsTrue (not (joins m ys)) → Begins ys → IsTrue (priority_fits true o.priority (limit fs))
      → P (expect_term fs) xs → P (expect_term (prefix_frame f o ▹ fs)) ys
  carry_prefix m f o xs [] fs w e n b l h = absurd b
  carry_prefix m f o xs (y ∷ ys) fs w e n b l h =
      alike (after_name m f fs) (expect_term (prefix_frame f o ▹ fs)) y ys (prefix_alike m f o y ys fs e b n l) (carry_word w fs h)

  carry_before : (c : Bool) (f : List ℕ) (o : Operator) (p : ℕ) (t : Tree) (fs : Stack) (ys : List Lexeme) → commas fs ≡ c → prefix_of f ≡ Some o
      → Follows c o.priority ys
      → P (after_term p t (prefix_frame f o ▹ fs)) ys → P (after_term o.priority (compound_1 f t) fs) ys
  carry_before c f o p t fs [] ec e s h = absurd s
  carry_before c f o p t fs (y ∷ ys) ec e s h =
      alike (after_term p t (prefix_frame f o ▹ fs)) (after_term o.priority (compound_1 f t) fs) y ys (before_alike c f o p t fs y ec (prefix_lawful f o e) s) h

  carry_between : (c : Bool) (x : Lexeme) (o : Operator) (u : Tree) (p : ℕ) (t : Tree) (fs : Stack) (ys : List Lexeme) → commas fs ≡ c → infix_at c x ≡ Some o
      → Follows c o.priority ys
      → P (after_term p t (infix_frame o u ▹ fs)) ys → P (after_term o.priority (compound_2 o.name u t) fs) ys
  carry_between c x o u p t fs [] ec e s h = absurd s
  carry_between c x o u p t fs (y ∷ ys) ec e s h =
      alike (after_term p t (infix_frame o u ▹ fs)) (after_term o.priority (compound_2 o.name u t) fs) y ys
      (between_alike c o u p t fs y ec (infix_lawful c x o e) s) h

  mutual
    pub carry : {c : Bool} {xs ys : List Lexeme} {p : ℕ} {t : Tree} → Derives true c xs ys p t → (fs : Stack) → commas fs ≡ c
        → IsTrue (priority_fits true p (limit fs)) → Follows c p ys
        → P (expect_term fs) xs → P (after_term p t fs) ys
    carry (a_variable {c = c} {n = n} {ys = ys}) fs ec l s h =
        carry_past (expect_term fs) (after_term 0 (variable n) fs) (variable_lexeme n) ys (more c 0 ys s) refl h
    carry (a_number {c = c} {k = k} {n = n} {ys = ys}) fs ec l s h =
        carry_past (expect_term fs) (after_term 0 (integer (pos n)) fs) (number k n) ys (more c 0 ys s) refl h
    carry (a_negative {c = c} {f = f} {n = n} {ys = ys} w) fs ec l s h =
        carry_past (after_name true f fs) (after_term 0 (integer (neg_ℤ (pos n))) fs) (number true n) ys (more c 0 ys s) refl (carry_word w fs h)
    carry (in_braces {c = c} {xs = xs} {ys = ys} {p = p} {t = t} d l) fs ec l' s h =
        carry_past (after_term p t (braces ▹ fs)) (after_term 0 (compound_1 braces_name t) fs) close_curly ys (more c 0 ys s) refl
        (carry d (braces ▹ fs) refl l (by_end refl refl) (carry_brace xs fs (begins d) (carry_on (expect_term fs) (after_open false fs) open_curly xs (begins d)
        refl h)))
    carry (an_atom {c = c} {m = m} {f = f} {xs = xs} {ys = ys} w a) fs ec l s h = carry_atom c m f xs ys fs w a s h
    carry (a_compound {c = c} {m = m} {f = f} {ys = ys} {zs = zs} w d) fs ec l s h =
        carry_arguments d f no_trees fs (more c 0 zs s) (carry_on (after_name m f fs) (expect_term (arguments f no_trees ▹ fs)) (open_paren true) ys
        (arguments_begin d) refl (carry_word w fs h))
    carry (in_parens {c = c} {k = k} {xs = xs} {ys = ys} {p = p} {t = t} d l) fs ec l' s h =
        carry_past (after_term p t (parens ▹ fs)) (after_term 0 t fs) close_paren ys (more c 0 ys s) refl
        (carry d (parens ▹ fs) refl l (by_end refl refl) (carry_on (expect_term fs) (expect_term (parens ▹ fs)) (open_paren k) xs (begins d) refl h))
    carry (a_list {c = c} {xs = xs} {ys = ys} d) fs ec l s h =
        carry_elements d no_trees fs (more c 0 ys s) (carry_fresh xs fs (elements_begin d) (carry_on (expect_term fs) (after_open true fs) open_list xs
        (elements_begin d) refl h))
    carry (a_prefix {c = c} {m = m} {f = f} {xs = xs} {ys = ys} {zs = zs} {o = o} {p = p} {t = t} w e n d l) fs ec l' s h =
        carry_before c f o p t fs zs ec e s
        (carry d (prefix_frame f o ▹ fs) ec l (follows_lower c o.priority p zs (let a = fit p o.right l in let r = right_within o (prefix_lawful f o e) in
        omega arith) s)
        (carry_prefix m f o xs ys fs w e n (begins d) l' h))
    carry (an_infix {c = c} {x = x} {ys = ys} {zs = zs} {o = o} {p = p} {q = q} {t = t} {u = u} d e l d' l') fs ec h' s h =
        let law = infix_lawful c x o e in
        carry_between c x o t q u fs zs ec e s
        (carry d' (infix_frame o t ▹ fs) ec l' (follows_lower c o.priority q zs (let a = fit q o.right l' in let r = right_within o law in omega arith) s)
        (carry_on (after_term p t fs) (expect_term (infix_frame o t ▹ fs)) x ys (begins d') (ap (λ m. follow_term_as true m x p t fs) (ap (λ c. infix_at c x) ec
        ∙ e) ∙ place o p t fs l h')
        (carry d fs ec (fit_again p (limit fs) (let a = fit p o.left l in let r = left_within o law in let g = fit o.priority (limit fs) h' in omega arith))
        (by_infix e (fit p o.left l)) h)))

    pub carry_arguments : {xs ys : List Lexeme} {us : Trees} → Arguments true xs ys us → (f : List ℕ) (ts : Trees) (fs : Stack) → IsMore ys
        → P (expect_term (arguments f ts ▹ fs)) xs → P (after_term 0 (compound f (trees_onto ts us)) fs) ys
    carry_arguments (last_argument {ys = ys} {p = p} {t = t} d l) f ts fs s h =
        carry_past (after_term p t (arguments f ts ▹ fs)) (after_term 0 (compound f (trees_onto ts (tree t no_trees))) fs) close_paren ys s refl
        (carry d (arguments f ts ▹ fs) refl l (by_end refl refl) h)
    carry_arguments (argument {ys = ys} {p = p} {t = t} d l ds) f ts fs s h =
        carry_arguments ds f (tree t ts) fs s
        (carry_on (after_term p t (arguments f ts ▹ fs)) (expect_term (arguments f (tree t ts) ▹ fs)) comma ys (arguments_begin ds) refl
        (carry d (arguments f ts ▹ fs) refl l (by_end refl refl) h))

    pub carry_elements : {xs ys : List Lexeme} {u : Tree} → Elements true xs ys u → (ts : Trees) (fs : Stack) → IsMore ys
        → P (expect_term (list_elements ts ▹ fs)) xs → P (after_term 0 (cells ts u) fs) ys
    carry_elements (last_element {ys = ys} {p = p} {t = t} d l) ts fs s h =
        carry_past (after_term p t (list_elements ts ▹ fs)) (after_term 0 (cells ts (cell t (atom brackets_name))) fs) close_list ys s refl
        (carry d (list_elements ts ▹ fs) refl l (by_end refl refl) h)
    carry_elements (before_bar {ys = ys} {zs = zs} {p = p} {q = q} {t = t} {u = u} d l d' l') ts fs s h =
        carry_past (after_term q u (list_tail (tree t ts) ▹ fs)) (after_term 0 (cells (tree t ts) u) fs) close_list zs s refl
        (carry d' (list_tail (tree t ts) ▹ fs) refl l' (by_end refl refl)
        (carry_on (after_term p t (list_elements ts ▹ fs)) (expect_term (list_tail (tree t ts) ▹ fs)) head_tail_separator ys (begins d') refl
        (carry d (list_elements ts ▹ fs) refl l (by_end refl refl) h)))
    carry_elements (element {ys = ys} {p = p} {t = t} d l ds) ts fs s h =
        carry_elements ds (tree t ts) fs s
        (carry_on (after_term p t (list_elements ts ▹ fs)) (expect_term (list_elements (tree t ts) ▹ fs)) comma ys (elements_begin ds) refl
        (carry d (list_elements ts ▹ fs) refl l (by_end refl refl) h))

-- the last first
abbrev pub text_back : List ReadClause → List ReadClause → List ReadClause
text_back [] ds = ds
text_back (c ∷ cs) ds = text_back cs (c ∷ ds)

abbrev go : State → List Lexeme → Next
go s xs = run_tokens true (Ok s) xs

-- a term is read as the operand that it is, whatever follows
pub run_complete : {c : Bool} {xs ys : List Lexeme} {p : ℕ} {t : Tree} → Derives true c xs ys p t → (fs : Stack) → commas fs ≡ c
    → IsTrue (priority_fits true p (limit fs)) → Follows c p ys
    → go (expect_term fs) xs ≡ go (after_term p t fs) ys
run_complete {xs = xs} d fs ec l s =
    carry (λ r zs. go (expect_term fs) xs ≡ go r zs) (λ r r' x y ys e h. h ∙ ap (λ n. run_tokens true n (y ∷ ys)) e) (λ r r' x ys a h. h
    ∙ ap (λ n. run_tokens true n ys) a.same_step) d fs ec l s refl

-- a text is read as its clauses
pub reads_from : {xs : List Lexeme} {ds : List ReadClause} → IsText true xs ds → (cs : List ReadClause)
    → go (expect_term (root cs)) xs ≡ Ok (expect_term (root (text_back ds cs)))
reads_from no_clause cs = refl
reads_from (a_clause {m = m} {t = t} d l i) cs = run_complete d (root cs) refl l (by_end refl refl) ∙ reads_from i (clause_from m t ∷ cs)

pub reads : (xs : List Lexeme) (ds : List ReadClause) → IsText true xs ds → read_tokens true xs ≡ Ok (expect_term (root (text_back ds [])))
reads xs ds i = reads_from i []
