-- How a predicate stands in a program, by its name and arity alone. The search decides it at each
-- call, together with what the checks say of the arguments; the code links each call of a clause to
-- its predicate when a program is loaded.
use Rattle.std.specs.Prelude.{◌≡◌, ℕ, Bool, true, false, List, [], ◌∷◌, Option, Some, None}
use Rattle.std.specs.Prelude.{unwrap_or}
use Rattle.ml_term.specs.Tree.{Tree}
use Rattle.ml_term.specs.declared.declaration.Decl.{Decl}
use Rattle.ml_term.specs.declared.declaration.Kind.{Kind}
use Rattle.ml_search.specs.Program.{Program, place_of, declaration_of}
use Rattle.ml_search.specs.Builtins.{BuiltinResult, builtin, is_plain}
use Rattle.ml_search.specs.Actions.{Procedure, plain_builtin}
use Rattle.ml_search.specs.Procedures.{has_name, store_names, store_procedure, is_defined}
use Rattle.ml_search.specs.Procedures.{procedure_of}

-- A plain built-in; a built-in that changes lists; a declared predicate, with its kind and the
-- number of its list; a predicate with clauses in the program; or nothing.
pub data Standing : Type 0 where
  of_plain : Standing
  of_store : Standing
  of_declared : Kind → ℕ → Standing
  of_program : Standing
  of_nothing : Standing

-- the standing of a predicate: by whether it is a plain built-in, whether it changes lists, its
-- declaration with its place, and whether it has clauses
abbrev pub standing_by : Bool → Bool → Option Decl → ℕ → Bool → Standing
standing_by true is_store decl place has_clauses = of_plain
standing_by false true decl place has_clauses = of_store
standing_by false false (Some decl) place has_clauses = of_declared decl.kind place
standing_by false false None place true = of_program
standing_by false false None place false = of_nothing

-- how a predicate stands in a program
unfoldable pub standing : Program → List ℕ → ℕ → Standing
standing program f n =
    standing_by (is_plain f n) (has_name store_names f n)
    (declaration_of program.decls f n) (unwrap_or (place_of program.decls f n) 0)
    (is_defined program f n)

-- whether a predicate stands for nothing
abbrev pub is_nothing : Standing → Bool
is_nothing of_nothing = true
is_nothing s = false

-- a goal of a plain built-in, and what the built-in does
pub record IsPlainGoal (program : Program) (f : List ℕ) (ts : List Tree) : Type 0 where
  pub does : ℕ → BuiltinResult
  pub by_name : builtin f ts ≡ Some does
  pub is : procedure_of program f ts ≡ plain_builtin does

-- a goal of a built-in that changes lists: its one argument, and what the checks leave of it
pub record IsStoreGoal (program : Program) (f : List ℕ) (ts : List Tree) : Type 0 where
  pub argument : Tree
  pub procedure : Procedure
  pub arguments : ts ≡ argument ∷ []
  pub by_name : store_procedure program f (argument ∷ []) ≡ Some procedure
  pub is : procedure_of program f ts ≡ procedure
