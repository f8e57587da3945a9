-- Short words for worked rows: terms, declarations, scripts, and what is printed. No public clause
-- cites this module.
use Rattle.std.specs.Prelude.{◌≡◌, ℕ, ◌+◌, ◌-◌, false, List, [], ◌∷◌, length, map, codes, pos}
use Rattle.std.specs.Prelude.{negsuc, IsTrue, ◌&&◌}
use Rattle.std.specs.List.{flat_map, list_all}
use Rattle.ml_term.specs.Tree.{Tree, variable, integer, atom, compound_1, compound_2, compound_3}
use Rattle.ml_term.specs.Keys.{are_keys, numbers_from}
use Rattle.ml_term.specs.declared.declaration.Decl.{Decl}
use Rattle.ml_term.specs.declared.declaration.Kind.TheVariants.{Relation, Clauses}
use Rattle.ml_search.specs.Program.{Clause, Program, Goal, commit, Script, true_body}
use Rattle.ml_search.specs.Limits.{default_inferences}
use Rattle.ml_search.specs.Db.{is_db}
use Rattle.ml_search.specs.Loading.{first_db}
use Rattle.ml_search.specs.WellFormed.{is_program, is_script}
use Rattle.ml_search.specs.Session.{line}
use Rattle.ml_search.specs.History.{history}
use Rattle.ml_search.specs.Printed.{print_of}

-- terms of a name and no, one, two or three arguments
abbrev pub a : List ℕ → Tree
a = atom

abbrev pub a1 : List ℕ → Tree → Tree
a1 = compound_1

abbrev pub a2 : List ℕ → Tree → Tree → Tree
a2 = compound_2

abbrev pub a3 : List ℕ → Tree → Tree → Tree → Tree
a3 = compound_3

-- an integer that isn't negative, and one that is
abbrev pub i : ℕ → Tree
i n = integer (pos n)

abbrev pub minus : ℕ → Tree
minus n = integer (negsuc (n - 1))

-- the first four variables
abbrev pub v0 : Tree
v0 = variable 0

abbrev pub v1 : Tree
v1 = variable 1

abbrev pub v2 : Tree
v2 = variable 2

abbrev pub v3 : Tree
v3 = variable 3

-- `A, B`, `A ; B`, `A -> B` and `A = B`
abbrev pub and : Tree → Tree → Tree
and = a2 (codes ",")

abbrev pub or : Tree → Tree → Tree
or = a2 (codes ";")

abbrev pub then : Tree → Tree → Tree
then = a2 (codes "->")

abbrev pub equals : Tree → Tree → Tree
equals = a2 (codes "=")

abbrev pub always : Tree
always = a (codes "true")

-- declarations of a relation and of stored clauses, by their keys
abbrev pub relation : List ℕ → (n : ℕ) (keys : List ℕ) → IsTrue (are_keys n keys) → Decl
relation f n keys fact =
    record { pred = record { name = f; arity = n }; kind = Relation; keys = keys; keyed = fact }

abbrev pub clauses : List ℕ → (n : ℕ) (keys : List ℕ) → IsTrue (are_keys n keys) → Decl
clauses f n keys fact =
    record { pred = record { name = f; arity = n }; kind = Clauses; keys = keys; keyed = fact }

-- clauses of a program: a fact, and a rule
abbrev pub fact : Tree → Clause
fact t = record { head = t; body = true_body }

abbrev pub rule : Tree → Tree → Clause
rule h b = record { head = h; body = b }

-- names for the variables from a number on
abbrev pub names_from : ℕ → List (List ℕ) → List (List ℕ × ℕ)
names_from n [] = []
names_from n (f ∷ fs) = (f, n) ∷ names_from (1 + n) fs

-- a goal with names for its variables
abbrev pub goal : Tree → List (List ℕ) → Goal
goal t names = record { term = t; names = names_from 0 names }

-- a script of goals that names no budget and no end
abbrev pub script : List Goal → Script
script gs = record { budget = default_inferences; goals = gs; last = commit }

-- rules: a program with its initial items, each with its declaration's number, in the order of the
-- text
pub record Rules : Type 0 where
  pub program : Program
  pub items : List (ℕ × Tree)

-- rules without declarations
abbrev pub plain : List Clause → Rules
plain cs = record { program = record { decls = []; clauses = cs }; items = [] }

-- a rule among the items of a declaration
abbrev pub stored : Tree → Tree → Tree
stored h b = a2 (codes ":-") h b

-- what the sessions of some scripts print, one after another
abbrev pub prints : Rules → List Script → List ℕ
prints r scripts =
    print_of
    (history r.program (first_db r.program.decls r.items) scripts
    (map (λ k. (k, false)) (numbers_from 1 (length scripts)))).0

-- lines, each with its line feed
abbrev pub lines : List (List ℕ) → List ℕ
lines = flat_map line

-- a program and scripts that may be, and what they print: these lines
abbrev pub Print : Rules → List Script → List (List ℕ) → Type 0
Print r scripts ls =
    IsTrue
    (is_program r.program && list_all is_script scripts
    && is_db r.program.decls (first_db r.program.decls r.items)) × (prints r scripts ≡ lines ls)

-- one goal, whose variables have these names, prints these lines, and its session commits
abbrev pub Answers : Rules → Tree → List (List ℕ) → List (List ℕ) → Type 0
Answers r t names ls =
    Print r (script (goal t names ∷ []) ∷ []) (codes "session 1 committed" ∷ codes "goal 1" ∷ ls)

-- one goal prints these lines, and its session failed there
abbrev pub Fails : Rules → Tree → List (List ℕ) → List (List ℕ) → Type 0
Fails r t names ls =
    Print r (script (goal t names ∷ []) ∷ [])
    (codes "session 1 failed at goal 1" ∷ codes "goal 1" ∷ ls)
