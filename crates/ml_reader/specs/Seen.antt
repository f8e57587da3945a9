-- What the program's values stand for.
use Rattle.std.specs.Prelude.{ℕ, List, [], ◌∷◌}
use Rattle.ml_term.specs.Tree.{Tree, Trees, tree}
use Rattle.ml_term.specs.Seen.{seen}
use Rattle.ml_reader.specs.Lexemes as L
use Rattle.ml_reader.specs.Operators.{Operator, operator}
use Rattle.ml_reader.specs.declared.parser.lexeme.ClauseEnd.{ClauseEnd}
use Rattle.ml_reader.specs.declared.parser.lexeme.Read.{Read}
use Rattle.ml_reader.specs.declared.parser.lexeme.Lexeme.{Lexeme}
use Rattle.ml_reader.specs.declared.parser.lexeme.Lexeme.TheVariants as V
use Rattle.ml_reader.specs.declared.parser.operators.OperatorPriorities.{OperatorPriorities}

-- the operator of a name
abbrev pub operator_seen : List ℕ → OperatorPriorities → Operator
operator_seen f s = operator f s.priority s.left s.right

-- a mark
abbrev pub clause_end_seen : ClauseEnd → L.ClauseEnd
clause_end_seen m = record { names = m.names; place = m.place }

-- a clause
abbrev pub read_seen : Read → L.ReadClause
read_seen r = record { term = seen r.term; names = r.names; place = r.place }

-- a token with its value
abbrev pub lexeme_seen : Lexeme → L.Lexeme
lexeme_seen (V.Name q f) = L.name q f
lexeme_seen (V.Variable n) = L.variable_lexeme n
lexeme_seen (V.Number k n) = L.number k n.value
lexeme_seen (V.OpenParen k) = L.open_paren k
lexeme_seen V.CloseParen = L.close_paren
lexeme_seen V.OpenList = L.open_list
lexeme_seen V.CloseList = L.close_list
lexeme_seen V.OpenCurly = L.open_curly
lexeme_seen V.CloseCurly = L.close_curly
lexeme_seen V.HeadTailSeparator = L.head_tail_separator
lexeme_seen V.Comma = L.comma
lexeme_seen (V.End m) = L.end (clause_end_seen m)

-- the trees of terms, the last first, in front of others
abbrev pub reversed_trees : List Tree → Trees → Trees
reversed_trees [] us = us
reversed_trees (t ∷ ts) us = reversed_trees ts (tree t us)
