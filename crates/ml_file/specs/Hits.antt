-- The items that a pattern meets. The code looks at the regions alone that may hold a fitting key,
-- and keeps references to the items.
use Rattle.std.specs.Prelude.{Bool, List, is_some, map}
use Rattle.std.specs.Borrow.{Bor}
use Rattle.std.specs.List.{filter}
use Rattle.ml_region.specs.declared.item.Item.{Item}
use Rattle.ml_search.specs.Db.{head_of}
use Rattle.ml_search.specs.Replay.{rename_apart}
use Rattle.ml_term.specs.Seen.{seen}
use Rattle.ml_term.specs.Tree.{Tree}
use Rattle.ml_term.specs.Unify.{unifier}
use Rattle.ml_term.specs.declared.declaration.Kind.{Kind}
use Rattle.ml_term.specs.declared.declaration.Kind.TheVariants.{Relation, Clauses}

-- the head of a stored term: a tuple itself, or a clause's head
abbrev pub stored_head : Kind → Tree → Tree
stored_head Relation t = t
stored_head Clauses t = head_of t

-- whether a pattern unifies with a stored term's head, whose variables are renamed apart from the
-- pattern's
abbrev pub is_hit : Kind → Tree → Tree → Bool
is_hit kind pattern t = is_some (unifier pattern (rename_apart pattern (stored_head kind t)))

-- the items that a pattern meets
abbrev pub hits_in : Kind → Tree → List Item → List Item
hits_in kind pattern items = filter (λ (x : Item). is_hit kind pattern (seen x.term)) items

-- the items behind some references
abbrev pub borrowed_items : List (Bor Item) → List Item
borrowed_items refs = map (λ r. r.now) refs
