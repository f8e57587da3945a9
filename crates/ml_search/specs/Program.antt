-- What is run: a program, and the goals and scripts of sessions. The code keeps tables of compiled
-- clauses; here a program is two lists.
use Rattle.std.specs.Prelude.{ℕ, suc, ◌==◌, Bool, true, false, ◌&&◌, not, List, [], ◌∷◌, find}
use Rattle.std.specs.Prelude.{Option, Some, None, option_map, codes, if◌then◌else◌}
use Rattle.std.specs.List.{filter}
use Rattle.std.specs.Str.{bytes_eq}
use Rattle.ml_term.specs.Tree.{Tree, variable, integer, atom, compound, compound_2, arity}
use Rattle.ml_term.specs.declared.declaration.Decl.{Decl}
use Rattle.ml_term.specs.declared.declaration.Kind.{Kind}
use Rattle.ml_term.specs.declared.declaration.Kind.TheVariants.{Relation, Clauses}

-- a clause; a fact has the body `true`
pub record Clause : Type 0 where
  pub head : Tree
  pub body : Tree

-- the declarations in their order, and the clauses of all predicates that aren't declared, in the
-- order of the text
pub record Program : Type 0 where
  pub decls : List Decl
  pub clauses : List Clause

-- a goal, with the names of its variables by first place
pub record Goal : Type 0 where
  pub term : Tree
  pub names : List (List ℕ × ℕ)

-- how a script ends: it commits, it aborts, or it commits unless a goal has an answer
pub data Last : Type 0 where
  commit : Last
  abort : Last
  unless : Goal → Last

-- a session's budget of inferences, its goals and its end
pub record Script : Type 0 where
  pub budget : ℕ
  pub goals : List Goal
  pub last : Last

-- the name of an atom or a compound
abbrev pub name_of : Tree → List ℕ
name_of (variable n) = []
name_of (integer z) = []
name_of (atom f) = f
name_of (compound f ts) = f

-- how many arguments a term has
abbrev pub arity_of : Tree → ℕ
arity_of (compound f ts) = arity ts
arity_of t = 0

-- whether a term is an atom or a compound of this name and arity
abbrev pub is_of : List ℕ → ℕ → Tree → Bool
is_of f n (variable m) = false
is_of f n (integer z) = false
is_of f n t = bytes_eq (name_of t) f && (arity_of t == n)

-- a fact's body
abbrev pub true_body : Tree
true_body = atom (codes "true")

-- a clause as one term
abbrev pub clause_term : Tree → Tree → Tree
clause_term = compound_2 (codes ":-")

-- whether a declaration is of this name and arity
abbrev pub has_predicate : List ℕ → ℕ → Decl → Bool
has_predicate f n d = bytes_eq d.pred.name f && (d.pred.arity == n)

-- the place of a predicate's declaration, from 0
abbrev pub place_of : List Decl → List ℕ → ℕ → Option ℕ
place_of [] f n = None
place_of (d ∷ ds) f n = if has_predicate f n d then Some 0 else option_map suc (place_of ds f n)

-- the declaration of a predicate
abbrev pub declaration_of : List Decl → List ℕ → ℕ → Option Decl
declaration_of ds f n = find (has_predicate f n) ds

-- whether a test holds of a declaration, if there is one
abbrev pub holds_of : (Decl → Bool) → Option Decl → Bool
holds_of p None = false
holds_of p (Some d) = p d

-- whether a declaration is of a relation
abbrev pub is_relation : Decl → Bool
is_relation d = by d.kind
  where
    by : Kind → Bool
    by Relation = true
    by Clauses = false

-- whether a declaration is of stored clauses
abbrev pub is_clause_list : Decl → Bool
is_clause_list d = not (is_relation d)

-- the clauses of a predicate, in their order
abbrev pub clauses_of : List Clause → List ℕ → ℕ → List Clause
clauses_of cs f n = filter (λ c. is_of f n c.head) cs
