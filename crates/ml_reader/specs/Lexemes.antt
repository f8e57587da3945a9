-- What the grammar is written with: the tokens of a text with their values, and the clauses that
-- are read.
use Rattle.std.specs.Prelude.{ℕ, Bool, ◌&&◌, not, List, [], ◌∷◌, codes}
use Rattle.std.specs.Str.{bytes_eq}
use Rattle.ml_term.specs.Tree.{Tree, Trees, no_trees, tree, compound_2}

-- what the tokens of a clause tell of it: the names of its variables but `_`, each with the
-- variable's number, and the place of its first token
pub record ClauseEnd : Type 0 where
  pub names : List (List ℕ × ℕ)
  pub place : ℕ

-- a clause as it is read
pub record ReadClause : Type 0 where
  pub term : Tree
  pub names : List (List ℕ × ℕ)
  pub place : ℕ

-- a token with its value. A name tells whether it stands in quotes. A variable has its number, by
-- first place in its clause. A number and an opening parenthesis tell whether they directly follow
-- the token before. An end has what the tokens of its clause tell of it
pub data Lexeme : Type 0 where
  name : Bool → List ℕ → Lexeme
  variable_lexeme : ℕ → Lexeme
  number : Bool → ℕ → Lexeme
  open_paren : Bool → Lexeme
  close_paren : Lexeme
  open_list : Lexeme
  close_list : Lexeme
  open_curly : Lexeme
  close_curly : Lexeme
  head_tail_separator : Lexeme
  comma : Lexeme
  end : ClauseEnd → Lexeme

-- the mark of a clause without variables at the place 0
abbrev pub nameless_end : ClauseEnd
nameless_end = record { names = []; place = 0 }

-- the clause of a term and a mark
abbrev pub clause_from : ClauseEnd → Tree → ReadClause
clause_from m t = record { term = t; names = m.names; place = m.place }

-- the first arguments, their last one first, in front of the second
abbrev pub trees_onto : Trees → Trees → Trees
trees_onto no_trees us = us
trees_onto (tree t ts) us = trees_onto ts (tree t us)

-- the first list, its last clause first, in front of the second
abbrev pub clauses_onto : List ReadClause → List ReadClause → List ReadClause
clauses_onto [] ds = ds
clauses_onto (c ∷ cs) ds = clauses_onto cs (c ∷ ds)

-- the name that two brackets spell
abbrev pub brackets_name : List ℕ
brackets_name = codes "[]"

-- the name that two braces spell
abbrev pub braces_name : List ℕ
braces_name = codes "{}"

-- the bare name `-`
abbrev pub is_minus : Bool → List ℕ → Bool
is_minus quoted f = not quoted && bytes_eq (codes "-") f

-- a cell of a list
abbrev pub cell : Tree → Tree → Tree
cell t u = compound_2 (codes ".") t u

-- the cells of the elements, the last one first, before an end
abbrev pub cells : Trees → Tree → Tree
cells no_trees u = u
cells (tree t ts) u = cells ts (cell t u)
