-- How a predicate is declared. The code finds it in a table.
use Rattle.std.specs.Prelude.{◌≡◌, ℕ, List, Some}
use Rattle.ml_term.specs.declared.declaration.Decl.{Decl}
use Rattle.ml_term.specs.declared.declaration.Kind.{Kind}
use Rattle.ml_search.specs.Program.{declaration_of, place_of}

-- a predicate is declared, as one of this kind, whose list has this number
pub record IsDeclaredAs (decls : List Decl) (f : List ℕ) (n : ℕ) (kind : Kind) (place : ℕ) :
    Type 0 where
  pub decl : Decl
  pub found : declaration_of decls f n ≡ Some decl
  pub kind_is : decl.kind ≡ kind
  pub place_is : place_of decls f n ≡ Some place
