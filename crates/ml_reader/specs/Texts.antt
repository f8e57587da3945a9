-- Which clauses a text is, within all limits. Nothing here knows how a text is read.
use Rattle.std.specs.Prelude.{ℕ, ◌+◌, ◌≤◌, Bool, true, ◌&&◌, not, IsTrue, nat_le, nat_lt, List, []}
use Rattle.std.specs.Prelude.{◌∷◌, is_none}
use Rattle.std.specs.List.{list_all}
use Rattle.ml_term.specs.Tree.{nodes, variables, has, is_numbered}
use Rattle.ml_term.specs.Valid.{is_valid}
use Rattle.ml_term.specs.Names.{is_name}
use Rattle.ml_reader.specs.Lexemes.{Lexeme, ReadClause, end}
use Rattle.ml_reader.specs.Tokens.{find_name, is_anonymous, text_start, Ends}
use Rattle.ml_reader.specs.Grammar.{IsText}
use Rattle.ml_reader.specs.Levels.{most_levels_of_text}
use Rattle.ml_term.specs.Limits.{max_term_nodes}
use Rattle.ml_reader.specs.Limits.{max_text_levels, max_clause_tokens}

-- no clause has more than 16,384 tokens, its end among them; k: so many of the first one's
-- stand before these
abbrev pub are_short : ℕ → List Lexeme → Bool
are_short k [] = true
are_short k (end m ∷ xs) = nat_lt k max_clause_tokens && are_short 0 xs
are_short k (x ∷ xs) = nat_lt k max_clause_tokens && are_short (1 + k) xs

-- The bytes are a text of these clauses: the grammar derives them from the tokens, with no more
-- than 1,000 levels open at once, 16,384 tokens and 4,096 nodes in a clause, and
-- each term is one of the language, so that its integers are in range and its compounds have at
-- most 255 arguments. The code reads from the left with a stack.
pub record IsRead (bytes : List ℕ) (cs : List ReadClause) : Type 0 where
  pub tokens : List Lexeme
  pub whole : Ends bytes text_start tokens
  pub text : IsText true tokens cs
  pub levels : most_levels_of_text text ≤ max_text_levels
  pub short : IsTrue (are_short 0 tokens)
  pub valid : IsTrue (list_all (λ w. is_valid w.term) cs)
  pub small : IsTrue (list_all (λ w. nat_le (nodes w.term) max_term_nodes) cs)

-- no name stands there twice
abbrev pub are_different : List (List ℕ × ℕ) → Bool
are_different [] = true
are_different (n ∷ ns) = is_none (find_name ns n.0) && are_different ns

-- numbers that rise, from this one on
abbrev pub rise_from : ℕ → List (List ℕ × ℕ) → Bool
rise_from k [] = true
rise_from k (n ∷ ns) = nat_le k n.1 && rise_from (1 + n.1) ns

-- What holds of each clause that is read. Its term is one of the language, not too large, and its
-- variables are numbered from 0 by first place. Its names are those of its variables but `_`, each
-- once, in the order of their numbers.
pub record IsWellRead (w : ReadClause) : Type 0 where
  pub valid : IsTrue (is_valid w.term)
  pub small : nodes w.term ≤ max_term_nodes
  pub numbered : IsTrue (is_numbered w.term)
  pub of_term : IsTrue (list_all (λ n. has n.1 (variables w.term)) w.names)
  pub rising : IsTrue (rise_from 0 w.names)
  pub different : IsTrue (are_different w.names)
  pub spelled : IsTrue (list_all (λ n. is_name n.0 && not (is_anonymous n.0)) w.names)
