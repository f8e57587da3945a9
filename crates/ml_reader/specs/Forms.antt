-- The forms of the clauses of rules and of scripts.
use Rattle.std.specs.Prelude.{◌≡◌, List, ◌∷◌, ◌++◌, Option, Some, None, if◌then◌else◌, codes}
use Rattle.std.specs.List.{filter_map}
use Rattle.std.specs.Str.{bytes_eq}
use Rattle.ml_term.specs.Tree.{Tree, compound, no_trees, tree, compound_1, compound_2}
use Rattle.ml_reader.specs.Lexemes.{ReadClause}

-- `:- T`, `?- T`, `HEAD :- BODY`, and every other term `HEAD`
pub data Form : Type 0 where
  directive : Tree → Form
  query : Tree → Form
  rule : Tree → Tree → Form
  fact : Tree → Form

-- the form of a term
abbrev pub form : Tree → Form
form (compound f (tree t no_trees)) =
    if bytes_eq (codes ":-") f then directive t
    else (if bytes_eq (codes "?-") f then query t else fact (compound_1 f t))
form (compound f (tree t (tree u no_trees))) =
    if bytes_eq (codes ":-") f then rule t u else fact (compound_2 f t u)
form t = fact t

-- the T of `:- T`
abbrev pub directive_of : Form → Option Tree
directive_of (directive t) = Some t
directive_of (query t) = None
directive_of (rule h b) = None
directive_of (fact h) = None

-- the terms T of the clauses `:- T`
abbrev pub directives : List ReadClause → List Tree
directives cs = filter_map (λ c. directive_of (form c.term)) cs

-- behind the clauses `before`, the clause c comes next
pub record ComesNext (cs before : List ReadClause) (c : ReadClause) : Type 0 where
  pub after : List ReadClause
  pub whole : cs ≡ before ++ c ∷ after
