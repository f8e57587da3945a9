-- Rules, one clause after another. No public clause cites this module.
use Rattle.std.specs.Prelude.{◌≡◌, ℕ, IsTrue, List, [], ◌∷◌, ◌++◌, Option, Some, None, IsSome}
use Rattle.std.specs.List.{list_all, filter_map, cons_option}
use Rattle.ml_term.specs.Tree.{Tree}
use Rattle.ml_term.specs.declared.declaration.Decl.{Decl}
use Rattle.ml_search.specs.Program.{Clause, place_of}
use Rattle.ml_reader.specs.Lexemes.{ReadClause}
use Rattle.ml_reader.specs.Declarations.{Declares}
use Rattle.ml_reader.specs.Faults.{fault}
use Rattle.ml_reader.specs.Forms.{directive, form, directive_of}
use Rattle.ml_reader.specs.Rules.{Part, wrong_part, is_right, clause_part, item_part, part}
use Rattle.ml_reader.specs.declared.fault.ReadFault.{ReadFault}
use Rattle.ml_reader.specs.declared.fault.ReadKind.{ReadKind}
use Rattle.ml_reader.specs.declared.fault.ReadKind.TheVariants.{BadDeclaration, TwiceDeclared}

-- with this clause the declarations become these
pub data Becomes (c : ReadClause) (ds : List Decl) : List Decl → Type 0 where
  no_directive : directive_of (form c.term) ≡ None → Becomes c ds ds
  adds_one : (t : Tree) (d : Decl) → form c.term ≡ directive t → Declares t d
      → place_of ds d.pred.name d.pred.arity ≡ None → Becomes c ds (ds ++ d ∷ [])

-- behind these declarations the clause is wrong
pub data IsWrong (c : ReadClause) (ds : List Decl) : ReadFault → Type 0 where
  declares_nothing : (t : Tree) → form c.term ≡ directive t → ((d : Decl) → Declares t d → ⊥)
      → IsWrong c ds (fault BadDeclaration c.place)
  declares_again : (t : Tree) (d : Decl) → form c.term ≡ directive t → Declares t d
      → IsSome (place_of ds d.pred.name d.pred.arity) → IsWrong c ds (fault TwiceDeclared c.place)

-- The part goes where it belongs: the clauses become these, and the items.
pub record GoesIn (p : Option Part) (clauses more : List Clause)
    (items further : List (ℕ × Tree)) : Type 0 where
  pub right : IsTrue (list_all is_right (cons_option p []))
  pub in_program : more ≡ clauses ++ filter_map clause_part (cons_option p [])
  pub in_lists : further ≡ items ++ filter_map item_part (cons_option p [])

-- under these declarations the clause is wrong
pub record IsWrongUnder (ds : List Decl) (c : ReadClause) (f : ReadFault) : Type 0 where
  pub kind : ReadKind
  pub is : part ds (form c.term) ≡ Some (wrong_part kind)
  pub at : f ≡ fault kind c.place
