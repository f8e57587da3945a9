-- The terms of a relation of two or three arguments.
use Rattle.std.specs.Prelude.{ℕ, ◌≡◌, List}
use Rattle.ml_term.specs.Tree.{Tree, compound_2, compound_3}
use Rattle.ml_term.specs.declared.declaration.Decl.{Decl}
use Rattle.ml_term.specs.declared.declaration.Kind.TheVariants.{Relation}
use Rattle.ml_bench.specs.declared.tuples.Width.{Width}
use Rattle.ml_bench.specs.declared.tuples.Width.TheVariants.{Two, Three}

-- how many arguments a width has
abbrev pub arity_of : Width → ℕ
arity_of Two = 2
arity_of Three = 3

-- a term of a width, of three arguments of which the last is left out where it has two
abbrev pub term_of : Width → List ℕ → Tree → Tree → Tree → Tree
term_of Two name first second third = compound_2 name first second
term_of Three name first second third = compound_3 name first second third

-- a declaration of a relation of a width
pub record IsOfWidth (width : Width) (decl : Decl) : Type 0 where
  pub kind : decl.kind ≡ Relation
  pub arity : decl.pred.arity ≡ arity_of width
