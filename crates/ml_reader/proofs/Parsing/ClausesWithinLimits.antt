-- Where a run keeps within the limits, the clauses that are read do, and their terms are terms of the language.
use Rattle.std.specs.Prelude.{pos, neg_ℤ, ◌≡◌, ℕ, suc, zero, ◌+◌, ◌≤◌, ◌<◌, ◌^◌, Bool, true, false, ◌&&◌, if◌then◌else◌, IsTrue, nat_le, List, [], ◌∷◌, Some}
use Rattle.std.specs.Prelude.{codes, Ok}
use Rattle.std.specs.List.{list_all}
use Rattle.std.proofs.Common.{refl, sym, ap, ◌∙◌, subst, arith, true≢false}
use Rattle.std.proofs.lemmas.Bool.{le-leb, leb-true, leb-false, lt-ltb}
use Rattle.ml_term.specs.Tree.{Tree, Trees, atom, compound, compound_1, compound_2, no_trees, tree, arity, nodes}
use Rattle.ml_term.specs.Names.{is_name}
use Rattle.ml_term.specs.Valid.{is_valid, are_valid, is_in_range}
use Rattle.ml_reader.specs.Lexemes.{ReadClause, clause_from, Lexeme, name, variable_lexeme, number, open_paren, open_list, open_curly, head_tail_separator}
use Rattle.ml_reader.specs.Lexemes.{comma, brackets_name, braces_name}
use Rattle.ml_reader.specs.Operators.{Operator, Row, operator, find_operator, infixes, infix_of, infix_at, is_among, priority_fits}
use Rattle.ml_reader.specs.Grammar.{Word, plain, brackets, curlies, Derives, a_variable, a_number, a_negative, in_braces, an_atom, a_compound, in_parens}
use Rattle.ml_reader.specs.Grammar.{a_list, a_prefix, an_infix, Arguments, last_argument, argument, Elements, last_element, before_bar, element, IsText}
use Rattle.ml_reader.specs.Grammar.{no_clause, a_clause}
use Rattle.ml_reader.specs.inside.parser.Parser.{prefix_frame, infix_frame, parens, braces, arguments, list_elements, list_tail, Stack, root, ◌▹◌, State}
use Rattle.ml_reader.specs.inside.parser.Parser.{expect_term, after_open, after_name, after_term, commas, limit, follow_term_as, step}
use Rattle.ml_reader.specs.Levels.{levels_of_name, most_levels, most_levels_of_arguments, most_levels_of_elements, most_levels_of_text}
use Rattle.ml_reader.specs.inside.parser.LimitedSteps.{depth}
use Rattle.ml_term.specs.Limits.{max_term_nodes, integer_offset}
use Rattle.ml_reader.specs.Limits.{max_text_levels}
use Rattle.ml_reader.proofs.Parsing.OperatorRows.{infix_lawful, prefix_lawful, left_within, right_within}
use Rattle.ml_reader.proofs.Parsing.OpenLevels.{length_opened, Alike}
use Rattle.ml_reader.proofs.Parsing.TokensAfterOperands.{by_infix, by_end, Follows, follows_lower, IsMore, Begins, begins, elements_begin, arguments_begin}
use Rattle.ml_reader.proofs.Parsing.TokensAfterOperands.{place, fit, fit_again}
use Rattle.ml_reader.proofs.Parsing.TermsRunThrough as C
use Rattle.ml_reader.proofs.Parsing.RunsWithinLimits.{Kept, kept, kept_tail, kept_head, kept_alike, IsGood, AreGood}

-- a run within the limits over tokens whose values are in range
abbrev KeepsWithin : State → List Lexeme → Type 0
KeepsWithin s xs = Kept s xs × AreGood xs

keeps_forward : (s r : State) (x y : Lexeme) (ys : List Lexeme) → step true s x ≡ Ok r → KeepsWithin s (x ∷ y ∷ ys) → KeepsWithin r (y ∷ ys)
keeps_forward s r x y ys e h = (kept_tail e h.0, h.1.1)

keeps_alike : (s r : State) (x : Lexeme) (ys : List Lexeme) → Alike s r x → KeepsWithin s (x ∷ ys) → KeepsWithin r (x ∷ ys)
keeps_alike s r x ys a h = (kept_alike a h.0, h.1)

-- what a term comes to within the limits
record Good (deep : ℕ) (t : Tree) : Type 0 where
  levels : deep ≤ max_text_levels
  valid : IsTrue (is_valid t)

-- what arguments come to within the limits, so many others standing before them
record Few (deep prefix_frame : ℕ) (ts : Trees) : Type 0 where
  levels : deep ≤ max_text_levels
  some : 1 ≤ arity ts
  few : prefix_frame + arity ts ≤ 255
  valid : IsTrue (are_valid ts)

wanted_depth : (fs : Stack) (xs : List Lexeme) → IsMore xs → KeepsWithin (expect_term fs) xs → depth fs ≤ max_text_levels
wanted_depth fs [] m h = absurd m
wanted_depth fs (x ∷ xs) m h = let l = (kept_head h.0).levels in omega (arith, l, length_opened fs)

more_at : (xs : List Lexeme) → Begins xs → IsMore xs
more_at [] b = absurd b
more_at (x ∷ xs) b = tt

-- names
word_name : {xs ys : List Lexeme} {m : Bool} {f : List ℕ} → Word xs ys m f → AreGood xs → IsTrue (is_name f)
word_name plain g = g.0
word_name brackets g = refl
word_name curlies g = refl

named_name : (rs : List Row) (f : List ℕ) (o : Operator) → find_operator rs f ≡ Some o → o.name ≡ f
named_name [] f o e = absurd cc
named_name (r ∷ rs) f o e = go (is_among r.names f) (λ e. named_name rs f o e) e
  where
    some_inj : {a b : Operator} → Some a ≡ Some b → a ≡ b
    some_inj e = cc

    go : (k : Bool) → (find_operator rs f ≡ Some o → o.name ≡ f) → (if k then Some (operator f r.priority r.left r.right) else find_operator rs f) ≡ Some o
        → o.name ≡ f
    go true h e = sym (ap (λ o. o.name) (some_inj e))
    go false h e = h e

pub operator_name : (c : Bool) (x : Lexeme) (o : Operator) → infix_at c x ≡ Some o → IsGood x → IsTrue (is_name o.name)
unfolding infix_of
operator_name c (name q f) o e g = subst (λ f. IsTrue (is_name f)) (sym (named_name infixes f o e)) g
operator_name true comma o e g = subst (λ o. IsTrue (is_name o.name)) (some_inj e) refl
  where
    some_inj : {a b : Operator} → Some a ≡ Some b → a ≡ b
    some_inj e = cc
operator_name c x o e g = absurd cc

-- compounds
both : (a b : Bool) → IsTrue a → IsTrue b → IsTrue (a && b)
both true b e e' = e'
both false b e e' = absurd (true≢false (sym e))

all_four : (a b c d : Bool) → IsTrue a → IsTrue b → IsTrue c → IsTrue d → IsTrue (a && b && c && d)
all_four a b c d e f g h = both (a && b && c) d (both (a && b) c (both a b e f) g) h

pub many_valid : (f : List ℕ) (ts : Trees) → IsTrue (is_name f) → 1 ≤ arity ts → arity ts ≤ 255 → IsTrue (are_valid ts) → IsTrue (is_valid (compound f ts))
many_valid f ts n l m v =
    all_four (is_name f) (nat_le 1 (arity ts)) (nat_le (arity ts) 255) (are_valid ts) n (le-leb 1 (arity ts) l) (le-leb (arity ts) 255 m) v

one_valid : (f : List ℕ) (t : Tree) → IsTrue (is_name f) → IsTrue (is_valid t) → IsTrue (is_valid (compound_1 f t))
one_valid f t n v = many_valid f (tree t no_trees) n (omega arith) (omega arith) (both (is_valid t) true v refl)

two_valid : (f : List ℕ) (t u : Tree) → IsTrue (is_name f) → IsTrue (is_valid t) → IsTrue (is_valid u) → IsTrue (is_valid (compound_2 f t u))
two_valid f t u n v w = many_valid f (tree t (tree u no_trees)) n (omega arith) (omega arith) (both (is_valid t) _ v (both (is_valid u) true w refl))

-- numbers
alone_small : (n : ℕ) → (nat_le integer_offset n && true) ≡ false → IsTrue (is_in_range (pos n))
alone_small n e = lt-ltb n integer_offset (not_above (nat_le integer_offset n) refl e)
  where
    not_above : (k : Bool) → nat_le integer_offset n ≡ k → (k && true) ≡ false → n < integer_offset
    not_above true i e = absurd (true≢false e)
    not_above false i e = leb-false integer_offset n i

negative_small : (n : ℕ) → n ≤ integer_offset → IsTrue (is_in_range (neg_ℤ (pos n)))
negative_small zero l = refl
negative_small (suc n) l = lt-ltb n integer_offset (omega arith)

opened_within : {xs ys : List Lexeme} {m : Bool} {f : List ℕ} → (w : Word xs ys m f) → (fs : Stack) → Kept (expect_term fs) xs
    → levels_of_name w + depth fs ≤ max_text_levels
opened_within plain fs (kept f e k) = let l = f.levels in omega (arith, l, length_opened fs)
opened_within brackets fs k = let l = (kept_head (kept_tail refl k)).levels in omega (arith, l, length_opened fs)
opened_within curlies fs k = let l = (kept_head (kept_tail refl k)).levels in omega (arith, l, length_opened fs)

mutual
  within : {c : Bool} {xs ys : List Lexeme} {p : ℕ} {t : Tree} → (d : Derives true c xs ys p t) → (fs : Stack) → commas fs ≡ c
      → IsTrue (priority_fits true p (limit fs)) → Follows c p ys → KeepsWithin (expect_term fs) xs
      → Good (most_levels d + depth fs) t
  within (a_variable {n = n} {ys = ys}) fs ec l s h =
      record { levels = let m = wanted_depth fs (variable_lexeme n ∷ ys) tt h in omega arith; valid = lt-ltb n (2 ^ 32) h.1.0 }
  within (a_number {k = k} {n = n} {ys = ys}) fs ec l s h =
      record { levels = let m = wanted_depth fs (number k n ∷ ys) tt h in omega arith; valid = alone_small n (kept_head h.0).alone }
  within (a_negative {f = f} {n = n} {xs = xs} {ys = ys} w) fs ec l s h =
      record {
        levels = let m = opened_within w fs h.0 in omega arith;
        valid = negative_small n (C.carry_word KeepsWithin keeps_forward keeps_alike w fs
            h).1.0;
      }
  within (in_braces {xs = xs} {t = t} d l) fs ec l' s h =
      let g = within d (braces ▹ fs) refl l (by_end refl refl) (C.carry_brace KeepsWithin keeps_forward keeps_alike xs fs (begins d)
      (C.carry_on KeepsWithin keeps_forward keeps_alike (expect_term fs) (after_open false fs) open_curly xs (begins d) refl h)) in
      record { levels = let m = g.levels in omega arith; valid = one_valid braces_name t refl g.valid }
  within (an_atom {f = f} w a) fs ec l s h = record { levels = opened_within w fs h.0; valid = word_name w h.1 }
  within (a_compound {m = m} {f = f} {ys = ys} w ds) fs ec l s h =
      let g = arguments_within ds f no_trees fs (omega arith) (C.carry_on KeepsWithin keeps_forward keeps_alike (after_name m f fs)
      (expect_term (arguments f no_trees ▹ fs)) (open_paren true) ys (arguments_begin ds) refl (C.carry_word KeepsWithin keeps_forward keeps_alike w
      fs h)) in
      record { levels = let k = g.levels in omega arith; valid = many_valid f _ (word_name w h.1) g.some (let k = g.few in omega arith) g.valid }
  within (in_parens {k = k} {xs = xs} d l) fs ec l' s h =
      let g = within d (parens ▹ fs) refl l (by_end refl refl) (C.carry_on KeepsWithin keeps_forward keeps_alike (expect_term fs) (expect_term (parens ▹ fs))
      (open_paren k) xs (begins d) refl h) in
      record { levels = let m = g.levels in omega arith; valid = g.valid }
  within (a_list {xs = xs} ds) fs ec l s h =
      let g = elements_within ds no_trees fs (C.carry_fresh KeepsWithin keeps_forward keeps_alike xs fs (elements_begin ds)
      (C.carry_on KeepsWithin keeps_forward keeps_alike (expect_term fs) (after_open true fs) open_list xs (elements_begin ds) refl h)) in
      record { levels = let m = g.levels in omega arith; valid = g.valid }
  within (a_prefix {c = c} {m = m} {f = f} {xs = xs} {ys = ys} {zs = zs} {o = o} {p = p} {t = t} w e n d l) fs ec l' s h =
      let g = within d (prefix_frame f o ▹ fs) ec l (follows_lower c o.priority p zs (let a = fit p o.right l in let r = right_within o (prefix_lawful f o e) in
      omega arith) s)
      (C.carry_prefix KeepsWithin keeps_forward keeps_alike m f o xs ys fs w e n (begins d) l' h) in
      record { levels = let k = g.levels in omega arith; valid = one_valid f t (word_name w h.1) g.valid }
  within (an_infix {c = c} {x = x} {ys = ys} {zs = zs} {o = o} {p = p} {q = q} {t = t} {u = u} d e l d' l') fs ec h' s h =
      let law = infix_lawful c x o e in
      let p_fits : IsTrue (priority_fits true p (limit fs)) = fit_again p (limit fs) (let a = fit p o.left l in let r = left_within o law in
      let g = fit o.priority (limit fs) h' in omega arith) in
      let takes : Follows c p (x ∷ ys) = by_infix e (fit p o.left l) in
      let g = within d fs ec p_fits takes h in
      let k = C.carry KeepsWithin keeps_forward keeps_alike d fs ec p_fits takes h in
      let g' = within d' (infix_frame o t ▹ fs) ec l' (follows_lower c o.priority q zs (let a = fit q o.right l' in let r = right_within o law in
      omega arith) s)
      (C.carry_on KeepsWithin keeps_forward keeps_alike (after_term p t fs) (expect_term (infix_frame o t ▹ fs)) x ys (begins d')
      (ap (λ m. follow_term_as true m x p t fs) (ap (λ c. infix_at c x) ec ∙ e) ∙ place o p t fs l h') k) in
      record { levels = let a = g.levels in let b = g'.levels in omega arith; valid = two_valid o.name t u (operator_name c x o e k.1.0) g.valid g'.valid }

  arguments_within : {xs ys : List Lexeme} {us : Trees} → (ds : Arguments true xs ys us) → (f : List ℕ) (ts : Trees) (fs : Stack) → arity ts ≤ 254
      → KeepsWithin (expect_term (arguments f ts ▹ fs)) xs
      → Few (most_levels_of_arguments ds + (1 + depth fs)) (arity ts) us
  arguments_within (last_argument {t = t} d l) f ts fs n h =
      let g = within d (arguments f ts ▹ fs) refl l (by_end refl refl) h in
      record { levels = g.levels; some = omega arith; few = omega arith; valid = both (is_valid t) true g.valid refl }
  arguments_within (argument {ys = ys} {p = p} {t = t} d l ds) f ts fs n h =
      let g = within d (arguments f ts ▹ fs) refl l (by_end refl refl) h in
      let k = C.carry KeepsWithin keeps_forward keeps_alike d (arguments f ts ▹ fs) refl l (by_end refl refl) h in
      let m : arity (tree t ts) ≤ 254 = leb-true (arity (tree t ts)) 254 (kept_head k.0).moderate in
      let g' = arguments_within ds f (tree t ts) fs m (C.carry_on KeepsWithin keeps_forward keeps_alike (after_term p t (arguments f ts ▹ fs))
      (expect_term (arguments f (tree t ts) ▹ fs)) comma ys (arguments_begin ds) refl k) in
      record {
        levels = let a = g.levels in let b = g'.levels in omega arith;
        some = omega arith;
        few = let a = g'.few in omega arith;
        valid =
            both (is_valid t) _ g.valid g'.valid;
      }

  elements_within : {xs ys : List Lexeme} {u : Tree} → (ds : Elements true xs ys u) → (ts : Trees) (fs : Stack)
      → KeepsWithin (expect_term (list_elements ts ▹ fs)) xs → Good (most_levels_of_elements ds + (1 + depth fs)) u
  elements_within (last_element {t = t} d l) ts fs h =
      let g = within d (list_elements ts ▹ fs) refl l (by_end refl refl) h in
      record { levels = g.levels; valid = two_valid (codes ".") t (atom brackets_name) refl g.valid refl }
  elements_within (before_bar {ys = ys} {p = p} {t = t} {u = u} d l d' l') ts fs h =
      let g = within d (list_elements ts ▹ fs) refl l (by_end refl refl) h in
      let k = C.carry KeepsWithin keeps_forward keeps_alike d (list_elements ts ▹ fs) refl l (by_end refl refl) h in
      let g' = within d' (list_tail (tree t ts) ▹ fs) refl l' (by_end refl refl) (C.carry_on KeepsWithin keeps_forward keeps_alike
      (after_term p t (list_elements ts ▹ fs)) (expect_term (list_tail (tree t ts) ▹ fs)) head_tail_separator ys (begins d') refl k) in
      record { levels = let a = g.levels in let b = g'.levels in omega arith; valid = two_valid (codes ".") t u refl g.valid g'.valid }
  elements_within (element {ys = ys} {p = p} {t = t} {u = u} d l ds) ts fs h =
      let g = within d (list_elements ts ▹ fs) refl l (by_end refl refl) h in
      let k = C.carry KeepsWithin keeps_forward keeps_alike d (list_elements ts ▹ fs) refl l (by_end refl refl) h in
      let g' = elements_within ds (tree t ts) fs (C.carry_on KeepsWithin keeps_forward keeps_alike (after_term p t (list_elements ts ▹ fs))
      (expect_term (list_elements (tree t ts) ▹ fs)) comma ys (elements_begin ds) refl k) in
      record { levels = let a = g.levels in let b = g'.levels in omega arith; valid = two_valid (codes ".") t u refl g.valid g'.valid }

-- what a text comes to within the limits
pub record AllGood (deep : ℕ) (cs : List ReadClause) : Type 0 where
  pub levels : deep ≤ max_text_levels
  pub valid : IsTrue (list_all (λ w. is_valid w.term) cs)
  pub small : IsTrue (list_all (λ w. nat_le (nodes w.term) max_term_nodes) cs)

pub text_within : {xs : List Lexeme} {cs : List ReadClause} → (i : IsText true xs cs) → (ws : List ReadClause) → Kept (expect_term (root ws)) xs → AreGood xs
    → AllGood (most_levels_of_text i) cs
text_within no_clause ws k g = record { levels = omega arith; valid = refl; small = refl }
text_within (a_clause {m = m} {p = p} {t = t} d l i) ws k g =
    let a = within d (root ws) refl l (by_end refl refl) (k, g) in
    let b = C.carry KeepsWithin keeps_forward keeps_alike d (root ws) refl l (by_end refl refl) (k, g) in
    let r = text_within i (clause_from m t ∷ ws) (kept_tail refl b.0) b.1.1 in
    record {
      levels = let x = a.levels in let y = r.levels in omega arith;
      valid = both (is_valid t) _ a.valid r.valid;
      small = both (nat_le (nodes t) max_term_nodes) _ (kept_head b.0).moderate r.small;
    }
