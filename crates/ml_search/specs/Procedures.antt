-- What a goal is that is no control construct, by a program's declarations and clauses. The code
-- looks names up in tables.
use Rattle.std.specs.Prelude.{ℕ, nat_lt, nat_le, Bool, ◌&&◌, ◌||◌, ◌==◌, not, List, [], ◌∷◌, length}
use Rattle.std.specs.Prelude.{Option, Some, None, is_some, unwrap_or, codes, option_map}
use Rattle.std.specs.Prelude.{if◌then◌else◌}
use Rattle.std.specs.List.{list_any}
use Rattle.std.specs.Str.{bytes_eq}
use Rattle.ml_term.specs.Tree.{Tree, compound, no_trees, tree, is_ground, rename}
use Rattle.ml_term.specs.CanonicalBytes.{bytes_of}
use Rattle.ml_term.specs.declared.declaration.Decl.{Decl}
use Rattle.ml_term.specs.declared.declaration.Kind.{Kind}
use Rattle.ml_term.specs.declared.declaration.Kind.TheVariants.{Relation, Clauses}
use Rattle.ml_search.specs.Limits.{max_item_bytes}
use Rattle.ml_search.specs.Names.{look_up}
use Rattle.ml_search.specs.Program.{Clause, Program, name_of, arity_of, true_body, clause_term}
use Rattle.ml_search.specs.Program.{place_of, declaration_of, holds_of, is_relation, is_clause_list}
use Rattle.ml_search.specs.Program.{clauses_of}
use Rattle.ml_search.specs.TypeTests.{is_variable, is_integer}
use Rattle.ml_search.specs.Errors.{instantiation_error, type_error, existence_error}
use Rattle.ml_search.specs.Errors.{permission_error, resource_error, is_too_large, first_fault}
use Rattle.ml_search.specs.Bodies.{is_callable}
use Rattle.ml_search.specs.Builtins.{builtin, is_plain, with, or_else}
use Rattle.ml_search.specs.Changes.{list_for}
use Rattle.ml_search.specs.Actions.{as_tuple, as_clause, Procedure, plain_builtin}
use Rattle.ml_search.specs.Actions.{declared_predicate, retract_clause, program_predicate}
use Rattle.ml_search.specs.Actions.{raise_error, insert_tuple, delete_tuple, assert_first}
use Rattle.ml_search.specs.Actions.{assert_last, unknown_procedure, Usage}

-- the control constructs and control built-ins
abbrev pub control_names : List (List ℕ × ℕ)
control_names =
    (codes "true", 0) ∷ (codes "fail", 0) ∷ (codes "!", 0) ∷ (codes ",", 2) ∷ (codes ";", 2)
    ∷ (codes "->", 2) ∷ (codes "call", 1) ∷ (codes "\\+", 1) ∷ (codes "once", 1)
    ∷ (codes "findall", 3) ∷ (codes "catch", 3) ∷ (codes "throw", 1) ∷ []

-- the built-ins that change lists
abbrev pub store_names : List (List ℕ × ℕ)
store_names =
    (codes "insert_tuple", 1) ∷ (codes "delete_tuple", 1) ∷ (codes "assertz", 1)
    ∷ (codes "asserta", 1) ∷ (codes "retract", 1) ∷ []

-- whether a table has a name with this number of arguments
abbrev pub has_name : List (List ℕ × ℕ) → List ℕ → ℕ → Bool
has_name es f n = list_any (λ e. bytes_eq e.0 f && (e.1 == n)) es

-- whether a predicate is a control construct or a built-in, which no declaration and no clause may
-- define
abbrev pub is_reserved : List ℕ → ℕ → Bool
is_reserved f n = has_name control_names f n || has_name store_names f n || is_plain f n

-- what may stand in `assertz(C)` for C: the head of a clause, and its body
abbrev pub given_head : Tree → Tree
given_head (compound f (tree h (tree b no_trees))) =
    if bytes_eq f (codes ":-") then h
    else compound f (tree h (tree b no_trees))
given_head c = c

-- the body of a clause that is given, or `true`
abbrev pub given_body : Tree → Tree
given_body (compound f (tree h (tree b no_trees))) =
    if bytes_eq f (codes ":-") then b
    else true_body
given_body c = true_body

-- whether the canonical bytes of a term are more than an item may have
abbrev pub is_over_bytes : Tree → Bool
is_over_bytes t = nat_lt max_item_bytes (length (bytes_of t))

module _ (program : Program) where
  -- the declaration of a predicate
  abbrev pub predicate_declaration : List ℕ → ℕ → Option Decl
  predicate_declaration f n = declaration_of program.decls f n

  -- whether a predicate has clauses in the program
  abbrev pub is_defined : List ℕ → ℕ → Bool
  is_defined f n = nat_le 1 (length (clauses_of program.clauses f n))

  -- whether a predicate is no control construct and no built-in, isn't declared and has no clauses
  -- in the program
  abbrev pub is_unknown : List ℕ → ℕ → Bool
  is_unknown f n = not (is_reserved f n || is_some (predicate_declaration f n) || is_defined f n)

  -- the checks of `insert_tuple(T)` and `delete_tuple(T)`
  abbrev pub tuple_fault : Tree → Option Tree
  tuple_fault t =
      first_fault
      ((is_variable t, instantiation_error)
      ∷ (is_integer t, type_error (codes "callable") t)
      ∷ (is_unknown (name_of t) (arity_of t), existence_error (name_of t) (arity_of t))
      ∷ (
        not
            (holds_of is_relation (predicate_declaration (name_of t) (arity_of t))),
        permission_error
            (name_of t) (arity_of t),
      )
      ∷ (is_too_large t, resource_error (codes "term"))
      ∷ (not (is_ground t), instantiation_error)
      ∷ (is_over_bytes t, resource_error (codes "item"))
      ∷ [])

  -- the checks of `retract(C)` for a clause of this head and body
  abbrev pub retract_fault : Tree → Tree → Option Tree
  retract_fault h b =
      first_fault
      ((is_variable h, instantiation_error)
      ∷ (is_integer h, type_error (codes "callable") h)
      ∷ (is_unknown (name_of h) (arity_of h), existence_error (name_of h) (arity_of h))
      ∷ (
        not
            (holds_of is_clause_list (predicate_declaration (name_of h) (arity_of h))),
        permission_error (name_of h) (arity_of h),
      )
      ∷ (is_too_large (clause_term h b), resource_error (codes "term"))
      ∷ [])

  -- the checks of `assertz(C)` and `asserta(C)`: those of `retract(C)`, and then two more
  abbrev pub assert_fault : Tree → Tree → Option Tree
  assert_fault h b =
      or_else (retract_fault h b)
      (first_fault
      ((not (is_callable b), type_error (codes "callable") b)
      ∷ (is_over_bytes (clause_term h b), resource_error (codes "item")) ∷ []))

  -- what a store built-in is where no check applies
  abbrev pub procedure_unless : Option Tree → Procedure → Procedure
  procedure_unless None k = k
  procedure_unless (Some t) k = raise_error t

  -- the store built-ins; a clause that is put has its variables numbered anew, from 0 by first
  -- place
  abbrev pub store_builtins : List (List ℕ × (Tree → Procedure))
  store_builtins =
      (codes "insert_tuple", λ t. procedure_unless (tuple_fault t) (insert_tuple t))
      ∷ (codes "delete_tuple", λ t. procedure_unless (tuple_fault t) (delete_tuple t))
      ∷ (
        codes "asserta",
        λ c. procedure_unless (assert_fault (given_head c) (given_body c))
            (assert_first (rename 0 (clause_term (given_head c) (given_body c)))),
      )
      ∷ (
        codes "assertz",
        λ c. procedure_unless (assert_fault (given_head c) (given_body c))
            (assert_last (rename 0 (clause_term (given_head c) (given_body c)))),
      )
      ∷ (
        codes "retract",
        λ c. procedure_unless (retract_fault (given_head c) (given_body c))
            (retract_clause (list_for program.decls (given_head c)) (given_head c) (given_body c)),
      )
      ∷ []

  -- a store built-in by its name and its one argument
  abbrev pub store_procedure : List ℕ → List Tree → Option Procedure
  store_procedure f (t ∷ []) = with (λ k. k t) (look_up store_builtins f)
  store_procedure f ts = None

  -- how the items of a declaration are called
  abbrev pub usage_of : Kind → Usage
  usage_of Relation = as_tuple
  usage_of Clauses = as_clause

  -- a declared predicate, with the number of its list
  abbrev pub declared_procedure : List ℕ → ℕ → Option Procedure
  declared_procedure f n =
      option_map
      (λ d. declared_predicate (usage_of d.kind) (unwrap_or (place_of program.decls f n) 0))
      (predicate_declaration f n)

  -- a predicate with clauses in the program
  abbrev pub program_procedure : List Clause → Option Procedure
  program_procedure [] = None
  program_procedure (c ∷ cs) = Some (program_predicate (c ∷ cs))

  -- a plain built-in, a store built-in, a declared predicate or a program predicate, in this order,
  -- or nothing
  abbrev pub procedure_of : List ℕ → List Tree → Procedure
  procedure_of f ts =
      unwrap_or
      (or_else (with plain_builtin (builtin f ts))
      (or_else (store_procedure f ts)
      (or_else (declared_procedure f (length ts))
      (program_procedure (clauses_of program.clauses f (length ts))))))
      unknown_procedure
