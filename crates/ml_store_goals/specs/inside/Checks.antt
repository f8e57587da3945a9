-- The checks of the built-ins that change lists, cut into parts: the list of a fault's checks is
-- that of a part and of the parts behind it. No public clause cites this module.
use Rattle.std.specs.Prelude.{◌≡◌, ℕ, Bool, true, false, not, List, [], ◌∷◌, length, Option, Some}
use Rattle.std.specs.Prelude.{None, codes, unwrap_or, IsTrue}
use Rattle.ml_term.specs.Seen.{seen}
use Rattle.ml_term.specs.Tree.{Tree, is_ground}
use Rattle.ml_term.specs.Valid.{is_valid}
use Rattle.ml_term.specs.declared.declaration.Decl.{Decl}
use Rattle.ml_term.specs.declared.declaration.Kind.{Kind}
use Rattle.ml_term.specs.declared.declaration.Kind.TheVariants.{Relation, Clauses}
use Rattle.ml_term.specs.declared.term.Term.{Term}
use Rattle.ml_search.specs.Bodies.{is_callable}
use Rattle.ml_search.specs.Builtins.{or_else}
use Rattle.ml_search.specs.Errors.{instantiation_error, type_error, existence_error}
use Rattle.ml_search.specs.Errors.{permission_error, resource_error, is_too_large, kept_small}
use Rattle.ml_search.specs.Errors.{first_fault}
use Rattle.ml_search.specs.Procedures.{is_over_bytes, is_unknown, predicate_declaration}
use Rattle.ml_search.specs.Program.{Program, name_of, arity_of, clause_term, declaration_of}
use Rattle.ml_search.specs.Program.{place_of, holds_of, is_relation, is_clause_list}
use Rattle.ml_search.specs.TypeTests.{is_variable, is_integer}
use Rattle.ml_program.specs.DeclaredLists.{IsDeclaredAs}
use Rattle.ml_store_goals.specs.declared.checked.Checked.{Checked}
use Rattle.ml_store_goals.specs.declared.checked.Checked.TheVariants.{Passes, Raises}
use Rattle.ml_store_goals.specs.declared.checked.Listed.{Listed}
use Rattle.ml_store_goals.specs.declared.checked.Listed.TheVariants as listed
use Rattle.ml_store_goals.specs.declared.predicate.Status.{Status}
use Rattle.ml_store_goals.specs.declared.predicate.Status.TheVariants.{Declared, Static, Unknown}

-- whether a declaration is of this kind
abbrev pub is_of_kind : Kind → Decl → Bool
is_of_kind Relation = is_relation
is_of_kind Clauses = is_clause_list

module _ (program : Program) where
  -- what is known of a predicate
  abbrev pub HasStatus : List ℕ → ℕ → Status → Type 0
  HasStatus f n (Declared kind list) = IsDeclaredAs program.decls f n kind list
  HasStatus f n Static =
      (declaration_of program.decls f n ≡ None) × (is_unknown program f n ≡ false)
  HasStatus f n Unknown =
      (declaration_of program.decls f n ≡ None) × (is_unknown program f n ≡ true)

  -- the checks of a predicate that is to have a list of this kind
  abbrev pub list_fault : Kind → List ℕ → ℕ → Option Tree
  list_fault kind f n =
      first_fault
      ((is_unknown program f n, existence_error f n)
      ∷ (not (holds_of (is_of_kind kind) (predicate_declaration program f n)), permission_error f n)
      ∷ [])

  -- the number of its list; where there is none, that of no list
  abbrev pub list_named : List ℕ → ℕ → ℕ
  list_named f n = unwrap_or (place_of program.decls f n) (length program.decls)

  -- the checks of a tuple or of a clause's head, up to those of its predicate
  abbrev pub head_checks : Kind → Tree → List (Bool × Tree)
  head_checks kind t =
      (is_variable t, instantiation_error)
      ∷ (is_integer t, type_error (codes "callable") t)
      ∷ (is_unknown program (name_of t) (arity_of t), existence_error (name_of t) (arity_of t))
      ∷ (
        not (holds_of (is_of_kind kind) (predicate_declaration program (name_of t) (arity_of t))),
        permission_error (name_of t) (arity_of t),
      )
      ∷ []

  -- what these find
  abbrev pub head_fault : Kind → Tree → Option Tree
  head_fault kind t = first_fault (head_checks kind t)

-- the last checks of a tuple
abbrev pub ground_checks : Tree → List (Bool × Tree)
ground_checks t =
    (not (is_ground t), instantiation_error) ∷ (is_over_bytes t, resource_error (codes "item")) ∷ []

-- what these find
abbrev pub ground_fault : Tree → Option Tree
ground_fault t = first_fault (ground_checks t)

-- the check of a tuple's size, and those behind it
abbrev pub relation_checks : Tree → List (Bool × Tree)
relation_checks t = (is_too_large t, resource_error (codes "term")) ∷ ground_checks t

-- what these find
abbrev pub relation_fault : Tree → Option Tree
relation_fault t = first_fault (relation_checks t)

-- the check of a clause's size
abbrev pub size_checks : Tree → Tree → List (Bool × Tree)
size_checks h b = (is_too_large (clause_term h b), resource_error (codes "term")) ∷ []

-- what it finds
abbrev pub size_fault : Tree → Tree → Option Tree
size_fault h b = first_fault (size_checks h b)

-- what the check of a clause's bytes finds
abbrev pub bytes_fault : Tree → Option Tree
bytes_fault c = first_fault ((is_over_bytes c, resource_error (codes "item")) ∷ [])

-- what the last checks of a clause that is put find
abbrev pub body_fault : Tree → Tree → Option Tree
body_fault h b =
    first_fault
    ((not (is_callable b), type_error (codes "callable") b)
    ∷ (is_over_bytes (clause_term h b), resource_error (codes "item")) ∷ [])

-- what the check of its size and those behind it find
abbrev pub clause_fault : Tree → Tree → Option Tree
clause_fault h b = or_else (size_fault h b) (body_fault h b)

-- checks found a fault, which raises the given term once both are kept small
pub record IsFound (fault : Option Tree) (error : Term) : Type 0 where
  pub term : Tree
  pub is : fault ≡ Some term
  pub same : kept_small term ≡ kept_small (seen error)
  pub valid : IsTrue (is_valid (seen error))

-- what the checks of a term come to, where the term that is put or taken out is this one
abbrev pub IsChecked : Option Tree → Tree → Checked → Type 0
IsChecked fault t (Passes u) = (fault ≡ None) × (seen u ≡ t) × IsTrue (is_valid (seen u))
IsChecked fault t (Raises error) = IsFound fault error

-- what the checks of a predicate come to, where this is its list
abbrev pub IsListed : Option Tree → ℕ → Listed → Type 0
IsListed fault list (listed.List d) = (fault ≡ None) × (list ≡ d)
IsListed fault list (listed.Raises error) = IsFound fault error
