-- The line of an answer, by its names and their terms. The code goes over them once.
use Rattle.std.specs.Prelude.{ℕ, List, [], ◌++◌, map, codes}
use Rattle.ml_term.specs.Tree.{Tree}
use Rattle.ml_term.specs.Seen.{seen}
use Rattle.ml_term.specs.declared.term.Term.{Term}
use Rattle.ml_search.specs.Session.{line, bindings_text}

-- names with the terms that stand for them
abbrev pub Bindings : Type 0
Bindings = List (List ℕ × Tree)

-- the names as a goal has them; its numbers aren't written
abbrev pub names_of : Bindings → List (List ℕ × ℕ)
names_of bs = map (λ b. (b.0, 0)) bs

-- the terms of bindings
abbrev pub terms_of : Bindings → List Tree
terms_of bs = map (λ b. b.1) bs

-- two spaces, and `NAME = TERM` with `, ` between, or `true`
abbrev pub line_of_answer : Bindings → List ℕ
line_of_answer bs = line (codes "  " ++ bindings_text (names_of bs) (terms_of bs) [])

-- the bindings that names and terms of the code are
abbrev pub bindings_seen : List (List ℕ × Term) → Bindings
bindings_seen = map (λ b. (b.0, seen b.1))
