-- The parser keeps within the limits on a text that does.
use Rattle.std.specs.Prelude.{pos, ◌≡◌, ℕ, ◌+◌, ◌≤◌, Bool, true, false, ◌&&◌, not, IsTrue, nat_le, List, [], ◌∷◌, Some, codes, Ok}
use Rattle.std.specs.List.{list_all}
use Rattle.std.proofs.Common.{refl, sym, ap, ◌∙◌, subst, arith, true≢false}
use Rattle.std.proofs.lemmas.Bool.{le-leb, leb-true, ltb-true, and_right}
use Rattle.ml_term.specs.Tree.{Tree, Trees, atom, compound, compound_1, compound_2, no_trees, tree, arity, nodes}
use Rattle.ml_term.specs.Names.{is_name}
use Rattle.ml_term.specs.Valid.{is_valid, are_valid, is_in_range}
use Rattle.ml_reader.specs.Lexemes.{ReadClause, clause_from, Lexeme, name, variable_lexeme, number, open_paren, open_list, open_curly, cells, trees_onto}
use Rattle.ml_reader.specs.Lexemes.{brackets_name, braces_name}
use Rattle.ml_reader.specs.Operators.{Operator, prefix_of, infix_at, priority_fits}
use Rattle.ml_reader.specs.Grammar.{Word, plain, brackets, curlies, AtomBefore, joins, Derives, a_variable, a_number, a_negative, in_braces, an_atom}
use Rattle.ml_reader.specs.Grammar.{a_compound, in_parens, a_list, a_prefix, an_infix, Arguments, last_argument, argument, Elements, last_element, before_bar}
use Rattle.ml_reader.specs.Grammar.{element, IsText, no_clause, a_clause}
use Rattle.ml_reader.specs.inside.parser.Parser.{prefix_frame, infix_frame, parens, braces, arguments, list_elements, list_tail, Stack, root, ◌▹◌, expect_term}
use Rattle.ml_reader.specs.inside.parser.Parser.{after_open, after_name, after_term, commas, limit, follow_term_as, step}
use Rattle.ml_reader.specs.Levels.{levels_of_name, most_levels, most_levels_of_arguments, most_levels_of_elements, most_levels_of_text}
use Rattle.ml_reader.specs.inside.parser.LimitedSteps.{depth, is_lone}
use Rattle.ml_term.specs.Limits.{max_term_nodes, integer_offset}
use Rattle.ml_reader.specs.Limits.{max_text_levels}
use Rattle.ml_reader.proofs.Parsing.OperatorRows.{infix_lawful, prefix_lawful, left_within, right_within}
use Rattle.ml_reader.proofs.Parsing.OpenLevels.{length_opened}
use Rattle.ml_reader.proofs.Parsing.TokensAfterOperands.{by_infix, by_end, Follows, follows_lower, Begins, begins, elements_begin, place, fit, fit_again}
use Rattle.ml_reader.proofs.Parsing.TokensAfterOperands.{leb_not}
use Rattle.ml_reader.proofs.Parsing.AlikeStates.{atom_alike, prefix_alike, bracket_alike, brace_alike, before_alike, between_alike}
use Rattle.ml_reader.proofs.Parsing.RunsWithinLimits.{is_moderate, Fine, Kept, done, kept, kept_alike, alike_sym}

-- the parts of a valid compound
first_of : (a b : Bool) → IsTrue (a && b) → IsTrue a
first_of true b e = refl
first_of false b e = absurd (true≢false (sym e))

second_of : (a b : Bool) → IsTrue (a && b) → IsTrue b
second_of true b e = e
second_of false b e = absurd (true≢false (sym e))

few_arguments : (f : List ℕ) (ts : Trees) → IsTrue (is_valid (compound f ts)) → arity ts ≤ 255
few_arguments f ts v = leb-true (arity ts) 255 (second_of (is_name f && nat_le 1 (arity ts)) (nat_le (arity ts) 255) (first_of _ (are_valid ts) v))

valid_arguments : (f : List ℕ) (ts : Trees) → IsTrue (is_valid (compound f ts)) → IsTrue (are_valid ts)
valid_arguments f ts v = second_of (is_name f && nat_le 1 (arity ts) && nat_le (arity ts) 255) (are_valid ts) v

only_valid : (f : List ℕ) (t : Tree) → IsTrue (is_valid (compound_1 f t)) → IsTrue (is_valid t)
only_valid f t v = first_of (is_valid t) true (valid_arguments f (tree t no_trees) v)

left_valid : (f : List ℕ) (t u : Tree) → IsTrue (is_valid (compound_2 f t u)) → IsTrue (is_valid t)
left_valid f t u v = first_of (is_valid t) _ (valid_arguments f (tree t (tree u no_trees)) v)

right_valid : (f : List ℕ) (t u : Tree) → IsTrue (is_valid (compound_2 f t u)) → IsTrue (is_valid u)
right_valid f t u v = first_of (is_valid u) true (second_of (is_valid t) _ (valid_arguments f (tree t (tree u no_trees)) v))

some_arguments : {xs ys : List Lexeme} {us : Trees} → Arguments true xs ys us → 1 ≤ arity us
some_arguments (last_argument d l) = omega arith
some_arguments (argument d l ds) = omega arith

-- tokens within the limits
fine_want : (fs : Stack) (x : Lexeme) → depth fs ≤ max_text_levels → IsTrue (is_moderate (step true (expect_term fs) x)) → is_lone (expect_term fs) x ≡ false
    → Fine (expect_term fs) x
fine_want fs x l m a = record { levels = omega (arith, l, length_opened fs); moderate = m; alone = a }

small_alone : (n : ℕ) → IsTrue (is_in_range (pos n)) → (nat_le integer_offset n && true) ≡ false
small_alone n v = ap (λ k. k && true) (leb_not integer_offset n (ltb-true n integer_offset v))

operator_alone : (c : Bool) (x : Lexeme) (o : Operator) (p : ℕ) (t : Tree) (fs : Stack) → infix_at c x ≡ Some o → is_lone (after_term p t fs) x ≡ false
operator_alone c (number k n) o p t fs e = absurd cc
operator_alone c x o p t fs e = refl

no_level : {xs ys : List Lexeme} {m : Bool} {f : List ℕ} → (w : Word xs ys m f) → m ≡ true → levels_of_name w ≡ 0
no_level plain e = refl
no_level brackets e = absurd (true≢false (sym e))
no_level curlies e = absurd (true≢false (sym e))

one_level : {xs ys : List Lexeme} {m : Bool} {f : List ℕ} → (w : Word xs ys m f) → levels_of_name w ≤ 1
one_level plain = omega arith
one_level brackets = omega arith
one_level curlies = omega arith

back_word : {xs ys : List Lexeme} {m : Bool} {f : List ℕ} → (w : Word xs ys m f) → (fs : Stack) → levels_of_name w + depth fs ≤ max_text_levels
    → Kept (after_name m f fs) ys → Kept (expect_term fs) xs
back_word (plain {q = q} {f = f}) fs l k = kept (fine_want fs (name q f) (omega arith) refl refl) refl k
back_word brackets fs l k = kept (fine_want fs open_list (omega arith) refl refl) refl
    (kept (record { levels = omega (arith, length_opened fs); moderate = refl; alone = refl }) refl k)
back_word curlies fs l k = kept (fine_want fs open_curly (omega arith) refl refl) refl
    (kept (record { levels = omega (arith, length_opened fs); moderate = refl; alone = refl }) refl k)

back_atom : (c m : Bool) (f : List ℕ) (ys : List Lexeme) (fs : Stack) → AtomBefore f ys → Follows c 0 ys → Kept (after_term 0 (atom f) fs) ys
    → Kept (after_name m f fs) ys
back_atom c m f [] fs a s k = absurd s
back_atom c m f (y ∷ ys) fs a s k = kept_alike (alike_sym (atom_alike c m f y ys fs a s)) k

back_prefix : (m : Bool) (f : List ℕ) (o : Operator) (ys : List Lexeme) (fs : Stack) → prefix_of f ≡ Some o → IsTrue (not (joins m ys)) → Begins ys
    → IsTrue (priority_fits true o.priority (limit fs)) → Kept (expect_term (prefix_frame f o ▹ fs)) ys → Kept (after_name m f fs) ys
back_prefix m f o [] fs e n b l k = absurd b
back_prefix m f o (y ∷ ys) fs e n b l k = kept_alike (alike_sym (prefix_alike m f o y ys fs e b n l)) k

back_fresh : (xs : List Lexeme) (fs : Stack) → Begins xs → Kept (expect_term (list_elements no_trees ▹ fs)) xs → Kept (after_open true fs) xs
back_fresh [] fs b k = absurd b
back_fresh (x ∷ xs) fs b k = kept_alike (alike_sym (bracket_alike x fs b)) k

back_brace : (xs : List Lexeme) (fs : Stack) → Begins xs → Kept (expect_term (braces ▹ fs)) xs → Kept (after_open false fs) xs
back_brace [] fs b k = absurd b
back_brace (x ∷ xs) fs b k = kept_alike (alike_sym (brace_alike x fs b)) k

back_before : (c : Bool) (f : List ℕ) (o : Operator) (p : ℕ) (t : Tree) (fs : Stack) (ys : List Lexeme) → commas fs ≡ c → prefix_of f ≡ Some o
    → Follows c o.priority ys → Kept (after_term o.priority (compound_1 f t) fs) ys → Kept (after_term p t (prefix_frame f o ▹ fs)) ys
back_before c f o p t fs [] ec e s k = absurd s
back_before c f o p t fs (y ∷ ys) ec e s k = kept_alike (alike_sym (before_alike c f o p t fs y ec (prefix_lawful f o e) s)) k

back_between : (c : Bool) (x : Lexeme) (o : Operator) (u : Tree) (p : ℕ) (t : Tree) (fs : Stack) (ys : List Lexeme) → commas fs ≡ c → infix_at c x ≡ Some o
    → Follows c o.priority ys → Kept (after_term o.priority (compound_2 o.name u t) fs) ys → Kept (after_term p t (infix_frame o u ▹ fs)) ys
back_between c x o u p t fs [] ec e s k = absurd s
back_between c x o u p t fs (y ∷ ys) ec e s k = kept_alike (alike_sym (between_alike c o u p t fs y ec (infix_lawful c x o e) s)) k

mutual
  stays : {c : Bool} {xs ys : List Lexeme} {p : ℕ} {t : Tree} → (d : Derives true c xs ys p t) → (fs : Stack) → commas fs ≡ c
      → IsTrue (priority_fits true p (limit fs)) → Follows c p ys → most_levels d + depth fs ≤ max_text_levels
      → IsTrue (is_valid t) → Kept (after_term p t fs) ys → Kept (expect_term fs) xs
  stays (a_variable {n = n}) fs ec l s m v k = kept (fine_want fs (variable_lexeme n) (omega arith) refl refl) refl k
  stays (a_number {k = j} {n = n}) fs ec l s m v k = kept (fine_want fs (number j n) (omega arith) refl (small_alone n v)) refl k
  stays (a_negative {f = f} {n = n} w) fs ec l s m v k =
      back_word w fs (let e = no_level w refl in omega arith)
      (kept (record { levels = tt; moderate = refl; alone = and_right (nat_le integer_offset n) false refl }) refl k)
  stays (in_braces {xs = xs} {p = p} {t = t} d l) fs ec l' s m v k =
      kept (fine_want fs open_curly (omega arith) refl refl) refl (back_brace xs fs (begins d)
      (stays d (braces ▹ fs) refl l (by_end refl refl) (omega arith) (only_valid braces_name t v) (kept (record { levels = tt; moderate = refl; alone = refl })
      refl k)))
  stays (an_atom {c = c} {m = m} {f = f} {ys = ys} w a) fs ec l s n v k = back_word w fs (omega arith) (back_atom c m f ys fs a s k)
  stays (a_compound {m = m} {f = f} {ts = ts} w ds) fs ec l s n v k =
      back_word w fs (let o = one_level w in omega arith) (kept (record { levels = tt; moderate = refl; alone = refl }) refl
      (arguments_stay ds f no_trees fs (omega arith) (let a = few_arguments f ts v in omega arith) (valid_arguments f ts v) k))
  stays (in_parens {k = j} {p = p} {t = t} d l) fs ec l' s m v k =
      kept (fine_want fs (open_paren j) (omega arith) refl refl) refl (stays d (parens ▹ fs) refl l (by_end refl refl) (omega arith) v
      (kept (record { levels = tt; moderate = refl; alone = refl }) refl k))
  stays (a_list {xs = xs} ds) fs ec l s m v k =
      kept (fine_want fs open_list (omega arith) refl refl) refl (back_fresh xs fs (elements_begin ds) (elements_stay ds no_trees fs (omega arith) v k))
  stays (a_prefix {c = c} {m = m} {f = f} {ys = ys} {zs = zs} {o = o} {p = p} {t = t} w e n d l) fs ec l' s i v k =
      back_word w fs (let j = one_level w in omega arith) (back_prefix m f o ys fs e n (begins d) l'
      (stays d (prefix_frame f o ▹ fs) ec l (follows_lower c o.priority p zs (let a = fit p o.right l in let r = right_within o (prefix_lawful f o e) in
      omega arith) s) (omega arith) (only_valid f t v)
      (back_before c f o p t fs zs ec e s k)))
  stays (an_infix {c = c} {x = x} {ys = ys} {zs = zs} {o = o} {p = p} {q = q} {t = t} {u = u} d e l d' l') fs ec h' s m v k =
      let law = infix_lawful c x o e in
      let p_fits : IsTrue (priority_fits true p (limit fs)) = fit_again p (limit fs) (let a = fit p o.left l in let r = left_within o law in
      let g = fit o.priority (limit fs) h' in omega arith) in
      let one : step true (after_term p t fs) x ≡ Ok (expect_term (infix_frame o t ▹ fs)) = ap (λ m. follow_term_as true m x p t fs) (ap (λ c. infix_at c x) ec
      ∙ e) ∙ place o p t fs l h' in
      let k' = stays d' (infix_frame o t ▹ fs) ec l' (follows_lower c o.priority q zs (let a = fit q o.right l' in let r = right_within o law in omega arith) s)
      (omega arith) (right_valid o.name t u v) (back_between c x o t q u fs zs ec e s k) in
      stays d fs ec p_fits (by_infix e (fit p o.left l)) (omega arith) (left_valid o.name t u v)
      (kept (record { levels = tt; moderate = subst (λ n. IsTrue (is_moderate n)) (sym one) refl; alone = operator_alone c x o p t fs e }) one k')

  arguments_stay : {xs ys : List Lexeme} {us : Trees} → (ds : Arguments true xs ys us) → (f : List ℕ) (ts : Trees) (fs : Stack)
      → most_levels_of_arguments ds + (1 + depth fs) ≤ max_text_levels → arity ts + arity us ≤ 255
      → IsTrue (are_valid us) → Kept (after_term 0 (compound f (trees_onto ts us)) fs) ys → Kept (expect_term (arguments f ts ▹ fs)) xs
  arguments_stay (last_argument {t = t} d l) f ts fs m n v k =
      stays d (arguments f ts ▹ fs) refl l (by_end refl refl) (omega arith) (first_of (is_valid t) true v)
      (kept (record { levels = tt; moderate = refl; alone = refl }) refl k)
  arguments_stay (argument {t = t} d l ds) f ts fs m n v k =
      let some = some_arguments ds in
      let k' = arguments_stay ds f (tree t ts) fs (omega arith) (omega arith) (second_of (is_valid t) _ v) k in
      stays d (arguments f ts ▹ fs) refl l (by_end refl refl) (omega arith) (first_of (is_valid t) _ v)
      (kept (record { levels = tt; moderate = le-leb (arity (tree t ts)) 254 (omega arith); alone = refl }) refl k')

  elements_stay : {xs ys : List Lexeme} {u : Tree} → (ds : Elements true xs ys u) → (ts : Trees) (fs : Stack)
      → most_levels_of_elements ds + (1 + depth fs) ≤ max_text_levels → IsTrue (is_valid u)
      → Kept (after_term 0 (cells ts u) fs) ys → Kept (expect_term (list_elements ts ▹ fs)) xs
  elements_stay (last_element {t = t} d l) ts fs m v k =
      stays d (list_elements ts ▹ fs) refl l (by_end refl refl) (omega arith) (left_valid (codes ".") t (atom brackets_name) v)
      (kept (record { levels = tt; moderate = refl; alone = refl }) refl k)
  elements_stay (before_bar {q = q} {t = t} {u = u} d l d' l') ts fs m v k =
      let k' = stays d' (list_tail (tree t ts) ▹ fs) refl l' (by_end refl refl) (omega arith) (right_valid (codes ".") t u v)
      (kept (record { levels = tt; moderate = refl; alone = refl }) refl k) in
      stays d (list_elements ts ▹ fs) refl l (by_end refl refl) (omega arith) (left_valid (codes ".") t u v)
      (kept (record { levels = tt; moderate = refl; alone = refl }) refl k')
  elements_stay (element {t = t} {u = u} d l ds) ts fs m v k =
      let k' = elements_stay ds (tree t ts) fs (omega arith) (right_valid (codes ".") t u v) k in
      stays d (list_elements ts ▹ fs) refl l (by_end refl refl) (omega arith) (left_valid (codes ".") t u v)
      (kept (record { levels = tt; moderate = refl; alone = refl }) refl k')

-- the parser keeps within the limits on a text that does
pub text_stays : {xs : List Lexeme} {cs : List ReadClause} → (i : IsText true xs cs) → (ws : List ReadClause) → most_levels_of_text i ≤ max_text_levels
    → IsTrue (list_all (λ w. is_valid w.term) cs)
    → IsTrue (list_all (λ w. nat_le (nodes w.term) max_term_nodes) cs) → Kept (expect_term (root ws)) xs
text_stays no_clause ws l v n = done
text_stays (a_clause {m = m} {t = t} d l i) ws e v n =
    let k = text_stays i (clause_from m t ∷ ws) (omega arith) (second_of (is_valid t) _ v) (second_of (nat_le (nodes t) max_term_nodes) _ n) in
    stays d (root ws) refl l (by_end refl refl) (omega arith) (first_of (is_valid t) _ v)
    (kept (record { levels = tt; moderate = first_of (nat_le (nodes t) max_term_nodes) _ n; alone = refl }) refl k)
