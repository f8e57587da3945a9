-- The text of a term has fewer than four tokens for each node.
use Rattle.std.specs.Prelude.{◌≡◌, ℕ, suc, ◌+◌, ◌-◌, ◌*◌, ◌<◌, ◌≤◌, Bool, true, false, ◌&&◌, ◌==◌, not, nat_lt, ℤ, pos, negsuc, List, [], ◌∷◌, codes}
use Rattle.std.specs.Str.{bytes_eq}
use Rattle.std.proofs.Common.{refl, ◌∙◌, arith}
use Rattle.std.proofs.lemmas.Bool.{lt-ltb}
use Rattle.ml_term.specs.Tree.{Tree, Trees, variable, integer, atom, compound, no_trees, tree, arity, nodes, nodes_of}
use Rattle.ml_term.specs.Valid.{is_valid, are_valid}
use Rattle.ml_term.specs.Text.{is_bare, is_cell}
use Rattle.ml_term.proofs.TermSizes.{nodes_above_zero}
use Rattle.ml_reader.specs.Lexemes.{ClauseEnd, Lexeme, name, variable_lexeme, number, open_paren, close_paren, open_list, close_list, open_curly, close_curly}
use Rattle.ml_reader.specs.Lexemes.{head_tail_separator, comma, end, brackets_name, braces_name}
use Rattle.ml_reader.specs.Limits.{max_clause_tokens}
use Rattle.ml_reader.specs.Texts.{are_short}
use Rattle.ml_round_trip.specs.CanonicalTokens.{name_tokens, integer_tokens, tokens, argument_tokens, more_tokens, cell_tokens, rest_tokens}
use Rattle.ml_round_trip.proofs.BooleanTests.{cond_cases, both, both_hold, cell_tells, not_two}
use Rattle.ml_round_trip.proofs.ShownTrees.{valid_compound}

-- behind at most k tokens of the clause these are not too many
pub record AreFew (k : ℕ) (xs : List Lexeme) : Type 0 where
  pub short : (j : ℕ) → j ≤ k → are_short j xs ≡ true

fewer : (m k : ℕ) (xs : List Lexeme) → m ≤ k → AreFew k xs → AreFew m xs
fewer m k xs l h = record { short = λ j i. h.short j (omega arith) }

abbrev is_end : Lexeme → Bool
is_end (end m) = true
is_end x = false

one_short : (j : ℕ) (x : Lexeme) (xs : List Lexeme) → is_end x ≡ false → are_short j (x ∷ xs) ≡ (nat_lt j max_clause_tokens && are_short (1 + j) xs)
one_short j (end m) xs e = absurd (cc)
one_short j x xs e = refl

-- one token more, which ends no clause
one_token_more : (m k : ℕ) (x : Lexeme) (xs : List Lexeme) → is_end x ≡ false → m + 1 ≤ k → k ≤ max_clause_tokens → AreFew k xs → AreFew m (x ∷ xs)
one_token_more m k x xs e l b h =
    record {
      short = λ j i. one_short j x xs e ∙ both_hold (nat_lt j max_clause_tokens) (are_short (1 + j) xs) (lt-ltb j max_clause_tokens (omega arith))
          (h.short (1 + j) (omega arith));
    }

pub last_few : (k : ℕ) (m : ClauseEnd) → k < max_clause_tokens → AreFew k (end m ∷ [])
last_few k m l = record { short = λ j i. both_hold (nat_lt j max_clause_tokens) true (lt-ltb j max_clause_tokens (omega arith)) refl }

name_few : (m k : ℕ) (f : List ℕ) (ys : List Lexeme) → m + 2 ≤ k → k ≤ max_clause_tokens → AreFew k ys → AreFew m (name_tokens f ys)
name_few m k f ys l b h =
    cond_cases (AreFew m) (bytes_eq f brackets_name) _ _
    (λ e. one_token_more m (m + 1) open_list (close_list ∷ ys) refl (omega arith) (omega arith) (one_token_more (m + 1) k close_list ys refl (omega arith) b h))
    (λ e. cond_cases (AreFew m) (bytes_eq f braces_name) _ _
    (λ e. one_token_more m (m + 1) open_curly (close_curly ∷ ys) refl (omega arith) (omega arith) (one_token_more (m + 1) k close_curly ys refl
    (omega arith) b h))
    (λ e. one_token_more m k (name (not (is_bare f)) f) ys refl (omega arith) b h))

integer_few : (m k : ℕ) (z : ℤ) (ys : List Lexeme) → m + 2 ≤ k → k ≤ max_clause_tokens → AreFew k ys → AreFew m (integer_tokens z ys)
integer_few m k (pos n) ys l b h = one_token_more m k (number true n) ys refl (omega arith) b h
integer_few m k (negsuc n) ys l b h =
    one_token_more m (m + 1) (name false (codes "-")) (number true (suc n) ∷ ys) refl (omega arith) (omega arith)
    (one_token_more (m + 1) k (number true (suc n)) ys refl (omega arith) b h)

module _ (place : ℕ → ℕ) where
  -- a name and its arguments
  call_few : (m k : ℕ) (f : List ℕ) (ts : Trees) (ys : List Lexeme) → m + 3 ≤ k → k ≤ max_clause_tokens → AreFew k (argument_tokens place ts (close_paren ∷ ys))
      → AreFew m (name_tokens f (open_paren true ∷ argument_tokens place ts (close_paren ∷ ys)))
  call_few m k f ts ys l b h =
      name_few m (m + 2) f (open_paren true ∷ argument_tokens place ts (close_paren ∷ ys)) (omega arith) (omega arith)
      (one_token_more (m + 2) k (open_paren true) _ refl (omega arith) b h)

  mutual
    pub tree_few : (t : Tree) (m k : ℕ) (ys : List Lexeme) → is_valid t ≡ true → m + 4 * nodes t ≤ k + 1 → k ≤ max_clause_tokens → AreFew k ys
        → AreFew m (tokens place t ys)
    tree_few (variable n) m k ys v l b h = one_token_more m k (variable_lexeme (place n)) ys refl (omega arith) b h
    tree_few (integer z) m k ys v l b h = integer_few m k z ys (omega arith) b h
    tree_few (atom f) m k ys v l b h = name_few m k f ys (omega arith) b h
    tree_few (compound f ts) m k ys v l b h =
        let w = valid_compound f ts v in
        cond_cases (AreFew m) (is_cell f ts) _ _
        (λ e. one_token_more m (m + 1) open_list _ refl (omega arith) (omega arith)
        (cell_few ts (m + 1) (k - 1) (close_list ∷ ys) (cell_tells f ts e).1 w.2 (omega arith) (omega arith)
        (one_token_more (k - 1) k close_list ys refl (omega arith) b h)))
        (λ e. call_few m (m + 3) f ts ys (omega arith) (omega arith)
        (arguments_few ts (m + 3) (k - 1) (close_paren ∷ ys) w.1 w.2 (omega arith) (omega arith) (one_token_more (k - 1) k close_paren ys refl
        (omega arith) b h)))

    arguments_few : (ts : Trees) (m k : ℕ) (ys : List Lexeme) → 1 ≤ arity ts → are_valid ts ≡ true → m + 4 * nodes_of ts ≤ k + 1 → k ≤ max_clause_tokens
        → AreFew k ys
        → AreFew m (argument_tokens place ts ys)
    arguments_few no_trees m k ys a v l b h = absurd (omega arith)
    arguments_few (tree t ts) m k ys a v l b h =
        let w = both (is_valid t) (are_valid ts) v in
        tree_few t m (k - 4 * nodes_of ts) (more_tokens place ts ys) w.0 (omega (arith, nodes_above_zero t)) (omega arith)
        (more_few ts (k - 4 * nodes_of ts) k ys w.1 (omega (arith, nodes_above_zero t)) b h)

    more_few : (ts : Trees) (m k : ℕ) (ys : List Lexeme) → are_valid ts ≡ true → m + 4 * nodes_of ts ≤ k → k ≤ max_clause_tokens → AreFew k ys
        → AreFew m (more_tokens place ts ys)
    more_few no_trees m k ys v l b h = fewer m k ys (omega arith) h
    more_few (tree t ts) m k ys v l b h =
        let w = both (is_valid t) (are_valid ts) v in
        one_token_more m (m + 1) comma _ refl (omega arith) (omega (arith, nodes_above_zero t))
        (tree_few t (m + 1) (k - 4 * nodes_of ts) (more_tokens place ts ys) w.0 (omega (arith, nodes_above_zero t)) (omega arith)
        (more_few ts (k - 4 * nodes_of ts) k ys w.1 (omega arith) b h))

    cell_few : (ts : Trees) (m k : ℕ) (ys : List Lexeme) → (arity ts == 2) ≡ true → are_valid ts ≡ true → m + 4 * nodes_of ts ≤ k + 1 → k ≤ max_clause_tokens
        → AreFew k ys
        → AreFew m (cell_tokens place ts ys)
    cell_few no_trees m k ys e v l b h = absurd (cc)
    cell_few (tree t no_trees) m k ys e v l b h = absurd (cc)
    cell_few (tree t (tree u no_trees)) m k ys e v l b h =
        let w = both (is_valid t) (are_valid (tree u no_trees)) v in
        tree_few t m (k - 4 * nodes u) (rest_tokens place u ys) w.0 (omega (arith, nodes_above_zero t)) (omega arith)
        (rest_few u (k - 4 * nodes u) k ys (both (is_valid u) true w.1).0 (omega (arith, nodes_above_zero t)) b h)
    cell_few (tree t (tree u (tree x ts))) m k ys e v l b h = absurd (not_two (arity ts) e)

    rest_few : (t : Tree) (m k : ℕ) (ys : List Lexeme) → is_valid t ≡ true → m + 4 * nodes t ≤ k → k ≤ max_clause_tokens → AreFew k ys
        → AreFew m (rest_tokens place t ys)
    rest_few (variable n) m k ys v l b h =
        one_token_more m (m + 1) head_tail_separator _ refl (omega arith) (omega arith) (one_token_more (m + 1) k (variable_lexeme (place n)) ys refl
        (omega arith) b h)
    rest_few (integer z) m k ys v l b h =
        one_token_more m (m + 1) head_tail_separator _ refl (omega arith) (omega arith) (integer_few (m + 1) k z ys (omega arith) b h)
    rest_few (atom f) m k ys v l b h =
        cond_cases (AreFew m) (bytes_eq f brackets_name) _ _ (λ e. fewer m k ys (omega arith) h)
        (λ e. one_token_more m (m + 1) head_tail_separator _ refl (omega arith) (omega arith) (name_few (m + 1) k f ys (omega arith) b h))
    rest_few (compound f ts) m k ys v l b h =
        let w = valid_compound f ts v in
        cond_cases (AreFew m) (is_cell f ts) _ _
        (λ e. one_token_more m (m + 1) comma _ refl (omega arith) (omega arith) (cell_few ts (m + 1) k ys (cell_tells f ts e).1 w.2 (omega arith) b h))
        (λ e. one_token_more m (m + 1) head_tail_separator _ refl (omega arith) (omega arith)
        (call_few (m + 1) (m + 4) f ts ys (omega arith) (omega arith)
        (arguments_few ts (m + 4) (k - 1) (close_paren ∷ ys) w.1 w.2 (omega arith) (omega arith) (one_token_more (k - 1) k close_paren ys refl (omega arith)
        b h))))
