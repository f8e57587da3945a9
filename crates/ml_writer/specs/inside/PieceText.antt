-- What one call writes. No public clause cites this module.
use Rattle.std.specs.Prelude.{ℕ, List, []}
use Rattle.ml_term.specs.Seen.{seen}
use Rattle.ml_term.specs.Text.{text_of}
use Rattle.ml_search.specs.Session.{goal_line, count_line, error_line}
use Rattle.ml_writer.specs.AnswerText.{line_of_answer, bindings_seen}
use Rattle.ml_writer.specs.declared.piece.Piece.{Piece}
use Rattle.ml_writer.specs.declared.piece.Piece.TheVariants as P

-- the text of a term, or a line
abbrev pub piece_text : Piece → List ℕ
piece_text (P.Term t) = text_of (seen t.now) []
piece_text (P.Goal j) = goal_line j
piece_text (P.Count n) = count_line n
piece_text (P.Error t) = error_line (seen t.now)
piece_text (P.Answer bs) = line_of_answer (bindings_seen bs.now)
