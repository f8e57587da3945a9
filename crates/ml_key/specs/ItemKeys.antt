-- The key of an item, by the kind of its declaration. The code takes all memory first, and then
-- writes the bits in turn.
use Rattle.std.specs.Prelude.{ℕ, Bool, List}
use Rattle.ml_term.specs.declared.declaration.Kind.{Kind}
use Rattle.ml_term.specs.declared.declaration.Kind.TheVariants.{Relation, Clauses}
use Rattle.ml_term.specs.Tree.{Tree}
use Rattle.ml_term.specs.CanonicalBytes.{bytes_of}
use Rattle.ml_term.specs.Codes.{bits, byte_bits}
use Rattle.ml_term.specs.Keys.{argument, arguments, key_head, tuple_key, clause_key}

-- the term of the declared predicate in an item: a tuple is one itself, and a clause is a term
-- ':-'(Head, Body)
abbrev pub item_head : Kind → Tree → Tree
item_head Relation t = t
item_head Clauses t = argument 1 (arguments t)

-- the bits of the keyed arguments' codes, with which a key begins
unfoldable pub head_bits : List ℕ → Tree → List Bool
head_bits keys head = key_head keys head

-- the end of an item's key: the canonical bytes of a tuple, and the storage number of a clause
abbrev pub item_tail : Kind → Tree → ℕ → List Bool
item_tail Relation t number = byte_bits (bytes_of t)
item_tail Clauses t number = bits 64 number

-- the key of an item
abbrev pub item_key : Kind → List ℕ → Tree → ℕ → List Bool
item_key Relation keys t number = tuple_key keys t
item_key Clauses keys t number = clause_key keys (argument 1 (arguments t)) number
