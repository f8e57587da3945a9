-- The part of the grammar that canonical text uses: the tokens xs begin with what is written of a term, and ys are left. No operator is one there. The
-- tokens of a term are such, with as many levels as its text has.
use Rattle.std.specs.Prelude.{pos, neg_ℤ, ◌≡◌, ℕ, ◌+◌, max, ◌≤◌, Bool, true, false, ◌&&◌, ◌||◌, ◌==◌, not, nat_le, ℤ, negsuc, List, ◌∷◌, cond, codes}
use Rattle.std.specs.Str.{bytes_eq}
use Rattle.std.proofs.Common.{refl, sym, subst, arith}
use Rattle.ml_term.specs.Tree.{Tree, Trees, variable, integer, atom, compound, no_trees, tree, arity, substitute, substitute_in}
use Rattle.ml_term.specs.Names.{is_name}
use Rattle.ml_term.specs.Valid.{is_valid, are_valid}
use Rattle.ml_term.specs.Text.{is_bare, is_cell, dot}
use Rattle.ml_reader.specs.Lexemes.{Lexeme, name, variable_lexeme, number, open_paren, close_paren, open_list, close_list, open_curly, close_curly}
use Rattle.ml_reader.specs.Lexemes.{head_tail_separator, comma, brackets_name, braces_name, cell}
use Rattle.ml_round_trip.specs.CanonicalTokens.{name_tokens, integer_tokens, tokens, argument_tokens, more_tokens, cell_tokens, rest_tokens}
use Rattle.ml_round_trip.specs.TextLevels.{name_levels, text_levels, argument_levels, cell_levels, rest_levels}
use Rattle.ml_round_trip.proofs.BooleanTests.{both, same_bytes, le_holds, cell_tells, not_two}

-- a name with its levels
pub data NameShown : List Lexeme → List Lexeme → List ℕ → ℕ → Type 0 where
  one_token : {q : Bool} {f : List ℕ} {ys : List Lexeme} → NameShown (name q f ∷ ys) ys f 0
  two_brackets : {ys : List Lexeme} → NameShown (open_list ∷ close_list ∷ ys) ys brackets_name 1
  two_braces : {ys : List Lexeme} → NameShown (open_curly ∷ close_curly ∷ ys) ys braces_name 1

mutual
  -- a term with its levels
  pub data Shown : List Lexeme → List Lexeme → Tree → ℕ → Type 0 where
    a_variable : {n : ℕ} {ys : List Lexeme} → Shown (variable_lexeme n ∷ ys) ys (variable n) 0
    a_number : {n : ℕ} {ys : List Lexeme} → Shown (number true n ∷ ys) ys (integer (pos n)) 0
    a_negative : {n : ℕ} {ys : List Lexeme} → Shown (name false (codes "-") ∷ number true n ∷ ys) ys (integer (neg_ℤ (pos n))) 0
    a_name : {f : List ℕ} {xs ys : List Lexeme} {n : ℕ} → NameShown xs ys f n → Shown xs ys (atom f) n
    a_call : {f : List ℕ} {xs ys zs : List Lexeme} {ts : Trees} {m n : ℕ} → NameShown xs (open_paren true ∷ ys) f m → ArgumentsShown ys zs ts n
        → Shown xs zs (compound f ts) (1 + n)
    list_in_brackets : {xs ys : List Lexeme} {t : Tree} {n : ℕ} → ElementsShown xs ys t n → Shown (open_list ∷ xs) ys t (1 + n)

  -- arguments up to the closing parenthesis
  pub data ArgumentsShown : List Lexeme → List Lexeme → Trees → ℕ → Type 0 where
    the_last : {xs ys : List Lexeme} {t : Tree} {n : ℕ} → Shown xs (close_paren ∷ ys) t n → ArgumentsShown xs ys (tree t no_trees) (max n 0)
    one_more : {xs ys zs : List Lexeme} {t : Tree} {ts : Trees} {m n : ℕ} → Shown xs (comma ∷ ys) t m → ArgumentsShown ys zs ts n
        → ArgumentsShown xs zs (tree t ts) (max m n)

  -- elements up to the closing bracket
  pub data ElementsShown : List Lexeme → List Lexeme → Tree → ℕ → Type 0 where
    no_more : {xs ys : List Lexeme} {t : Tree} {n : ℕ} → Shown xs (close_list ∷ ys) t n → ElementsShown xs ys (cell t (atom brackets_name)) (max n 0)
    a_tail : {xs ys zs : List Lexeme} {t u : Tree} {m n : ℕ} → Shown xs (head_tail_separator ∷ ys) t m → Shown ys (close_list ∷ zs) u n
        → ElementsShown xs zs (cell t u) (max m n)
    one_element : {xs ys zs : List Lexeme} {t u : Tree} {m n : ℕ} → Shown xs (comma ∷ ys) t m → ElementsShown ys zs u n
        → ElementsShown xs zs (cell t u) (max m n)

-- what holds of either side of two choices
choices : (P : List Lexeme → ℕ → Type 0) (b : Bool) (xs ys : List Lexeme) (m n : ℕ) → (b ≡ true → P xs m) → (b ≡ false → P ys n) → P (cond b xs ys) (cond b m n)
choices P true xs ys m n f g = f refl
choices P false xs ys m n f g = g refl

name_shown : (f : List ℕ) (ys : List Lexeme) → NameShown (name_tokens f ys) ys f (name_levels f)
name_shown f ys = by_test (bytes_eq f brackets_name) (bytes_eq f braces_name) refl refl
  where
    by_test : (b c : Bool) → bytes_eq f brackets_name ≡ b → bytes_eq f braces_name ≡ c
        → NameShown (cond b (open_list ∷ close_list ∷ ys) (cond c (open_curly ∷ close_curly ∷ ys) (name (not (is_bare f)) f ∷ ys))) ys f (cond (b || c) 1 0)
    by_test true c e d = subst (λ g. NameShown (open_list ∷ close_list ∷ ys) ys g 1) (sym (same_bytes f brackets_name e)) two_brackets
    by_test false true e d = subst (λ g. NameShown (open_curly ∷ close_curly ∷ ys) ys g 1) (sym (same_bytes f braces_name d)) two_braces
    by_test false false e d = one_token

integer_shown : (z : ℤ) (ys : List Lexeme) → Shown (integer_tokens z ys) ys (integer z) 0
integer_shown (pos n) ys = a_number
integer_shown (negsuc n) ys = a_negative

-- the name and the arguments of a valid compound
pub valid_compound : (f : List ℕ) (ts : Trees) → is_valid (compound f ts) ≡ true → (is_name f ≡ true) × (1 ≤ arity ts) × (are_valid ts ≡ true)
valid_compound f ts v =
    let l = both (is_name f && nat_le 1 (arity ts) && nat_le (arity ts) 255) (are_valid ts) v in
    let m = both (is_name f && nat_le 1 (arity ts)) (nat_le (arity ts) 255) l.0 in
    let n = both (is_name f) (nat_le 1 (arity ts)) m.0 in
    (n.0, le_holds 1 (arity ts) n.1, l.1)

list_shown : {f : List ℕ} {xs ys : List Lexeme} {ts : Trees} {n : ℕ} → f ≡ dot → ElementsShown xs ys (compound dot ts) n
    → Shown (open_list ∷ xs) ys (compound f ts) (1 + n)
list_shown {f} {xs} {ys} {ts} {n} e d = subst (λ g. Shown (open_list ∷ xs) ys (compound g ts) (1 + n)) (sym e) (list_in_brackets d)

end_shown : {f : List ℕ} {xs ys : List Lexeme} {t : Tree} {n : ℕ} → f ≡ brackets_name → Shown xs (close_list ∷ ys) t n
    → ElementsShown xs ys (cell t (atom f)) (max n 0)
end_shown {f} {xs} {ys} {t} {n} e d = subst (λ g. ElementsShown xs ys (cell t (atom g)) (max n 0)) (sym e) (no_more d)

element_shown : {f : List ℕ} {xs ys zs : List Lexeme} {t : Tree} {ts : Trees} {m n : ℕ} → f ≡ dot → Shown xs (comma ∷ ys) t m
    → ElementsShown ys zs (compound dot ts) n
    → ElementsShown xs zs (cell t (compound f ts)) (max m n)
element_shown {f} {xs} {ys} {zs} {t} {ts} {m} {n} e d ds = subst (λ g. ElementsShown xs zs (cell t (compound g ts)) (max m n)) (sym e) (one_element d ds)

module _ (place : ℕ → ℕ) where
  abbrev numbered : Tree → Tree
  numbered t = substitute (λ n. variable (place n)) t

  abbrev all_numbered : Trees → Trees
  all_numbered ts = substitute_in (λ n. variable (place n)) ts

  mutual
    pub shown : (t : Tree) (ys : List Lexeme) → is_valid t ≡ true → Shown (tokens place t ys) ys (numbered t) (text_levels t)
    shown (variable n) ys v = a_variable
    shown (integer z) ys v = integer_shown z ys
    shown (atom f) ys v = a_name (name_shown f ys)
    shown (compound f ts) ys v =
        choices (λ xs n. Shown xs ys (compound f (all_numbered ts)) (1 + n)) (is_cell f ts) _ _ _ _
        (λ e. list_shown (cell_tells f ts e).0 (cell_shown ts ys (cell_tells f ts e).1 (valid_compound f ts v).2))
        (λ e. a_call (name_shown f (open_paren true ∷ argument_tokens place ts (close_paren ∷ ys)))
        (arguments_shown ts ys (valid_compound f ts v).1 (valid_compound f ts v).2))

    arguments_shown : (ts : Trees) (ys : List Lexeme) → 1 ≤ arity ts → are_valid ts ≡ true
        → ArgumentsShown (argument_tokens place ts (close_paren ∷ ys)) ys (all_numbered ts) (argument_levels ts)
    arguments_shown no_trees ys l v = absurd (omega arith)
    arguments_shown (tree t ts) ys l v =
        let w = both (is_valid t) (are_valid ts) v in
        more_shown ts ys (shown t (more_tokens place ts (close_paren ∷ ys)) w.0) w.1

    -- behind an argument
    more_shown : {xs : List Lexeme} {u : Tree} {n : ℕ} (ts : Trees) (ys : List Lexeme) → Shown xs (more_tokens place ts (close_paren ∷ ys)) u n
        → are_valid ts ≡ true
        → ArgumentsShown xs ys (tree u (all_numbered ts)) (max n (argument_levels ts))
    more_shown no_trees ys d v = the_last d
    more_shown (tree t ts) ys d v =
        let w = both (is_valid t) (are_valid ts) v in
        one_more d (more_shown ts ys (shown t (more_tokens place ts (close_paren ∷ ys)) w.0) w.1)

    cell_shown : (ts : Trees) (ys : List Lexeme) → (arity ts == 2) ≡ true → are_valid ts ≡ true
        → ElementsShown (cell_tokens place ts (close_list ∷ ys)) ys (compound dot (all_numbered ts)) (cell_levels ts)
    cell_shown no_trees ys e v = absurd (cc)
    cell_shown (tree h no_trees) ys e v = absurd (cc)
    cell_shown (tree h (tree t no_trees)) ys e v =
        let w = both (is_valid h) (are_valid (tree t no_trees)) v in
        rest_shown t ys (shown h (rest_tokens place t (close_list ∷ ys)) w.0) (both (is_valid t) true w.1).0
    cell_shown (tree h (tree t (tree u ts))) ys e v = absurd (not_two (arity ts) e)

    -- behind the head of a cell
    rest_shown : {xs : List Lexeme} {u : Tree} {n : ℕ} (t : Tree) (ys : List Lexeme) → Shown xs (rest_tokens place t (close_list ∷ ys)) u n → is_valid t ≡ true
        → ElementsShown xs ys (cell u (numbered t)) (max n (rest_levels t))
    rest_shown (variable n) ys d v = a_tail d a_variable
    rest_shown (integer z) ys d v = a_tail d (integer_shown z (close_list ∷ ys))
    rest_shown {xs} {u} {n} (atom f) ys d v =
        choices (λ zs k. Shown xs zs u n → ElementsShown xs ys (cell u (atom f)) (max n k)) (bytes_eq f brackets_name) _ _ _ _
        (λ e d. end_shown (same_bytes f brackets_name e) d) (λ e d. a_tail d (a_name (name_shown f (close_list ∷ ys)))) d
    rest_shown {xs} {u} {n} (compound f ts) ys d v =
        choices (λ zs k. Shown xs zs u n → ElementsShown xs ys (cell u (compound f (all_numbered ts))) (max n k)) (is_cell f ts) _ _ _ _
        (λ e d. element_shown (cell_tells f ts e).0 d (cell_shown ts ys (cell_tells f ts e).1 (valid_compound f ts v).2))
        (λ e d. a_tail d (a_call (name_shown f (open_paren true ∷ argument_tokens place ts (close_paren ∷ close_list ∷ ys)))
        (arguments_shown ts (close_list ∷ ys) (valid_compound f ts v).1 (valid_compound f ts v).2))) d
