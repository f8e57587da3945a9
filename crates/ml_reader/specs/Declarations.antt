-- How rules declare predicates. The code takes a term apart; here the term is put together from
-- what it declares.
use Rattle.std.specs.Prelude.{◌≡◌, ℕ, ◌≤◌, ◌⊎◌, pos, not, IsTrue, List, map, codes}
use Rattle.ml_term.specs.Limits.{max_arguments}
use Rattle.ml_term.specs.Tree.{Tree, integer, compound_1, compound_2}
use Rattle.ml_term.specs.Keys.{default_keys}
use Rattle.ml_term.specs.declared.declaration.Decl.{Decl}
use Rattle.ml_term.specs.declared.declaration.Kind.{Kind}
use Rattle.ml_term.specs.declared.declaration.Kind.TheVariants.{Relation, Clauses}
use Rattle.ml_search.specs.Errors.{indicator}
use Rattle.ml_search.specs.Procedures.{is_reserved}
use Rattle.ml_search.specs.ListTerms.{list_term}

-- the name by which a kind is declared
abbrev pub kind_name : Kind → List ℕ
kind_name Relation = codes "relation"
kind_name Clauses = codes "clauses"

-- the list of some keys
abbrev pub keys_term : List ℕ → Tree
keys_term keys = list_term (map (λ k. integer (pos k)) keys)

-- `relation(NAME/ARITY)`, or `clauses(NAME/ARITY)`
abbrev pub plain_term : Decl → Tree
plain_term d = compound_1 (kind_name d.kind) (indicator d.pred.name d.pred.arity)

-- the same with the list of the keys as a second argument
abbrev pub keyed_term : Decl → Tree
keyed_term d = compound_2 (kind_name d.kind) (indicator d.pred.name d.pred.arity) (keys_term d.keys)

-- The term declares this. Where it names no keys, they are the default ones. A declaration's keys
-- are 1 to 8 different numbers from 1 to the arity, so it has an argument; it has `max_arguments`
-- at most, and its predicate is no control construct and no built-in.
pub record Declares (t : Tree) (d : Decl) : Type 0 where
  pub written : ((t ≡ plain_term d) × (d.keys ≡ default_keys d.pred.arity)) ⊎ (t ≡ keyed_term d)
  pub small : d.pred.arity ≤ max_arguments
  pub free : IsTrue (not (is_reserved d.pred.name d.pred.arity))
