-- The lists with which a history begins, from items with the numbers of their declarations, in the
-- order in which they are given. The code puts the items into files; here tuples are put in order
-- one after another.
use Rattle.std.specs.Prelude.{ℕ, ◌+◌, ◌==◌, Bool, List, [], ◌∷◌, Option, Some, None, slice_get}
use Rattle.std.specs.Prelude.{if◌then◌else◌}
use Rattle.std.specs.List.{filter_map, list_all}
use Rattle.std.specs.declared.cmp.Ordering.{Ordering}
use Rattle.std.specs.declared.cmp.Ordering.TheVariants.{Less, Equal, Greater}
use Rattle.ml_term.specs.Tree.{Tree}
use Rattle.ml_term.specs.Keys.{tuple_cmp}
use Rattle.ml_term.specs.declared.declaration.Decl.{Decl}
use Rattle.ml_term.specs.declared.declaration.Kind.{Kind}
use Rattle.ml_term.specs.declared.declaration.Kind.TheVariants.{Relation, Clauses}
use Rattle.ml_search.specs.Db.{Db, is_allowed, load_lists}
use Rattle.ml_search.specs.Program.{holds_of}

-- whether each item is one that the list of its declaration may have
abbrev pub are_items : List Decl → List (ℕ × Tree) → Bool
are_items ds es = list_all (λ e. holds_of (λ d. is_allowed d e.1) (slice_get ds e.0)) es

-- a tuple at its key's place, unless it is there
abbrev pub with_tuple : List ℕ → Tree → List Tree → List Tree
with_tuple keys t [] = t ∷ []
with_tuple keys t (u ∷ us) = by (tuple_cmp keys t u) t u us (with_tuple keys t us)
  where
    by : Ordering → Tree → Tree → List Tree → List Tree → List Tree
    by Less t u us further = t ∷ u ∷ us
    by Equal t u us further = u ∷ us
    by Greater t u us further = u ∷ further

-- tuples in the order of their keys, each once
abbrev pub in_key_order : List ℕ → List Tree → List Tree
in_key_order keys [] = []
in_key_order keys (t ∷ ts) = with_tuple keys t (in_key_order keys ts)

-- the terms of a declaration, by its number
abbrev pub terms_for : ℕ → List (ℕ × Tree) → List Tree
terms_for d items = filter_map term_for items
  where
    term_for : ℕ × Tree → Option Tree
    term_for e = if e.0 == d then Some e.1 else None

-- a relation's list is in key order, and a list of clauses as it is given
abbrev pub first_list : Kind → List ℕ → List Tree → List Tree
first_list Relation keys ts = in_key_order keys ts
first_list Clauses keys ts = ts

-- the lists of the declarations from a number on
abbrev pub first_lists_from : ℕ → List Decl → List (ℕ × Tree) → List (List Tree)
first_lists_from d [] items = []
first_lists_from d (q ∷ qs) items =
    first_list q.kind q.keys (terms_for d items) ∷ first_lists_from (1 + d) qs items

-- the first list of each declaration
abbrev pub first_lists : List Decl → List (ℕ × Tree) → List (List Tree)
first_lists decls items = first_lists_from 0 decls items

-- the lists with which a history begins
abbrev pub first_db : List Decl → List (ℕ × Tree) → Db
first_db decls items = load_lists (first_lists decls items)
