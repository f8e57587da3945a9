-- The clause as which the text of a term is read.
use Rattle.std.specs.Prelude.{ℕ, zero, suc, ◌+◌, List, [], ◌∷◌, ◌++◌, codes}
use Rattle.ml_term.specs.Tree.{Tree, rename, width}
use Rattle.ml_term.specs.Decimal.{decimal_text}
use Rattle.ml_reader.specs.Lexemes.{ClauseEnd, ReadClause, clause_from}

-- the name of a variable by its number from 0: `_1`, `_2` and so on
abbrev pub variable_name : ℕ → List ℕ
variable_name n = codes "_" ++ decimal_text (1 + n)

-- the names of the first variables, each with its number
abbrev pub variable_names : ℕ → List (List ℕ × ℕ)
variable_names zero = []
variable_names (suc n) = variable_names n ++ (variable_name n, n) ∷ []

-- what the tokens of the text tell of the clause at its end: the names of the term's variables, and
-- that it stands first
abbrev pub clause_end_of : Tree → ClauseEnd
clause_end_of t = record { names = variable_names (width t); place = 0 }

-- the clause: the term, its variables numbered from 0 by first place
abbrev pub read_back : Tree → ReadClause
read_back t = clause_from (clause_end_of t) (rename 0 t)
