-- Which clauses a text is, the limits aside. Nothing here knows how a text is read: the tokens are
-- those of the bytes, and the clauses those that the grammar derives from them.
use Rattle.std.specs.Prelude.{ℕ, true, List}
use Rattle.ml_reader.specs.Lexemes.{Lexeme, ReadClause}
use Rattle.ml_reader.specs.Tokens.{text_start, Ends}
use Rattle.ml_reader.specs.Grammar.{IsText}

-- the bytes are a text of these clauses
pub record Reads (bytes : List ℕ) (cs : List ReadClause) : Type 0 where
  pub tokens : List Lexeme
  pub whole : Ends bytes text_start tokens
  pub text : IsText true tokens cs
