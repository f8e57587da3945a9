-- What a worked row says.
use Rattle.std.specs.Prelude.{◌≡◌, ℕ, List, []}
use Rattle.ml_term.specs.Tree.{Tree}
use Rattle.ml_term.specs.Text.{text_of}
use Rattle.ml_reader.specs.Lexemes.{Lexeme}
use Rattle.ml_round_trip.specs.CanonicalTokens.{tokens_of}
use Rattle.ml_round_trip.specs.TextLevels.{text_levels}

-- the term has this text, whose tokens are these, and which opens so many levels
abbrev pub IsWritten : Tree → List ℕ → List Lexeme → ℕ → Type 0
IsWritten t text xs n = (text_of t [] ≡ text) × (tokens_of t [] ≡ xs) × (text_levels t ≡ n)
