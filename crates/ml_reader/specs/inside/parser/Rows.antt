-- Worked rows of the grammar: what texts are read as, and where others go wrong first. Only the
-- clauses of `tokens_with_their_readings` cite this module.
use Rattle.std.specs.Prelude.{false, List, [], codes}
use Rattle.ml_term.specs.Tree.{Tree, atom}
use Rattle.ml_reader.specs.Lexemes.{Lexeme, ReadClause, clause_from, nameless_end, name}
use Rattle.ml_reader.specs.Lexemes.{end}
use Rattle.ml_reader.specs.inside.parser.Parser.{expect_term, root}
use Rattle.ml_reader.specs.inside.parser.Exact.{Answer, answer}

-- what the parser answers
abbrev pub reading : List Lexeme → Answer
reading xs = answer 0 (expect_term (root [])) xs

-- a clause without names
abbrev pub one : Tree → ReadClause
one t = clause_from nameless_end t

-- the name `a`
abbrev pub a : Lexeme
a = name false (codes "a")

-- the name `=`
abbrev pub eq : Lexeme
eq = name false (codes "=")

-- the name `-`
abbrev pub minus : Lexeme
minus = name false (codes "-")

-- the name `:-`
abbrev pub neck : Lexeme
neck = name false (codes ":-")

-- the end of a clause without names
abbrev pub stop : Lexeme
stop = end nameless_end

-- the atom `a`
abbrev pub v : Tree
v = atom (codes "a")
