-- Changes of the lists. The code notes them beside the items, so that they can be taken back; here
-- each gives new lists.
use Rattle.std.specs.Prelude.{ℕ, nat_lt, Bool, true, not, List, [], ◌∷◌, ◌++◌, length, unwrap_or}
use Rattle.std.specs.Prelude.{is_some, slice_get, if◌then◌else◌}
use Rattle.std.specs.Option.{option_map_or}
use Rattle.std.specs.List.{filter, list_any}
use Rattle.ml_term.specs.Tree.{Tree}
use Rattle.ml_term.specs.Keys.{tuple_cmp}
use Rattle.ml_term.specs.declared.declaration.Decl.{Decl}
use Rattle.ml_search.specs.declared.change.What.{What}
use Rattle.ml_search.specs.declared.change.What.TheVariants.{Put, Taken, First, Last, Dropped}
use Rattle.ml_search.specs.Limits.{max_changes}
use Rattle.ml_search.specs.Program.{name_of, arity_of, place_of, true_body}
use Rattle.ml_search.specs.Db.{mine, Id, Item, Db, is_less, is_same, is_same_id, items, with_items}
use Rattle.ml_search.specs.Db.{head_of, with_id}

-- a change as it is counted: what it does, and the tuple or clause
pub record Change : Type 0 where
  pub what : What
  pub term : Tree

-- the lists with the changes made, in order
pub record Lists : Type 0 where
  pub db : Db
  pub made : List Change

-- an item by the number of its list and its id
pub record ItemName : Type 0 where
  pub list : ℕ
  pub id : Id

-- What is to be changed: a tuple put in or taken out, a clause put first or last, or a clause taken
-- out, which T names.
pub data Alter (T : Type 0) : Type 0 where
  puts : Tree → Alter T
  takes : Tree → Alter T
  puts_first : Tree → Alter T
  puts_last : Tree → Alter T
  drops : T → Alter T

-- what came of it: a list changed, or none did, or the most changes had been made before
pub data Effect : Type 0 where
  change_made : Effect
  no_change : Effect
  change_limit : Effect

-- a tuple at its key's place
abbrev pub insert_by_key : List ℕ → Item → List Item → List Item
insert_by_key keys i [] = i ∷ []
insert_by_key keys i (j ∷ js) =
    if is_less (tuple_cmp keys i.term j.term) then i ∷ j ∷ js
    else j ∷ insert_by_key keys i js

-- whether a list has a term
abbrev pub has_term : Tree → List Item → Bool
has_term t is = list_any (λ i. is_same i.term t) is

-- a list without a term
abbrev pub without_term : Tree → List Item → List Item
without_term t is = filter (λ i. not (is_same i.term t)) is

-- a list without the item that has an id
abbrev pub without_id : Id → List Item → List Item
without_id a is = filter (λ i. not (is_same_id i.id a)) is

module _ (decls : List Decl) where
  -- the number of the list that is to hold a tuple; where there is none, that of no list
  abbrev pub list_for : Tree → ℕ
  list_for t = unwrap_or (place_of decls (name_of t) (arity_of t)) (length decls)

  -- the keys of a list
  abbrev pub keys_of : ℕ → List ℕ
  keys_of d = option_map_or (λ q. q.keys) (slice_get decls d) []

  -- one list by a function
  abbrev pub at_list : ℕ → (List Item → List Item) → Db → Db
  at_list d f db = with_items db d (f (items db d))

  -- The lists after a change; what is put has the given id, and a clause comes with its variables
  -- numbered from 0. All other lists and items stay.
  abbrev pub db_after_change : Id → Alter ItemName → Db → Db
  db_after_change a (puts t) db =
      at_list (list_for t) (insert_by_key (keys_of (list_for t)) (record { id = a; term = t })) db
  db_after_change a (takes t) db = at_list (list_for t) (without_term t) db
  db_after_change a (puts_first c) db =
      at_list (list_for (head_of c)) (λ is. record { id = a; term = c } ∷ is) db
  db_after_change a (puts_last c) db =
      at_list (list_for (head_of c)) (λ is. is ++ record { id = a; term = c } ∷ []) db
  db_after_change a (drops x) db = at_list x.list (without_id x.id) db

  -- whether it changes a list: a tuple is put where it isn't there and taken where it is, and a
  -- clause is taken where it is still there
  abbrev pub would_change : Alter ItemName → Db → Bool
  would_change (puts t) db = not (has_term t (items db (list_for t)))
  would_change (takes t) db = has_term t (items db (list_for t))
  would_change (puts_first c) db = true
  would_change (puts_last c) db = true
  would_change (drops x) db = is_some (with_id x.id (items db x.list))

  -- the change as it is counted
  abbrev pub change_of : Alter ItemName → Db → Change
  change_of (puts t) db = record { what = Put; term = t }
  change_of (takes t) db = record { what = Taken; term = t }
  change_of (puts_first c) db = record { what = First; term = c }
  change_of (puts_last c) db = record { what = Last; term = c }
  change_of (drops x) db =
      record {
        what = Dropped;
        term = option_map_or (λ i. i.term) (with_id x.id (items db x.list)) true_body;
      }

  -- A change by a session that has made some. What it puts is its own, with the number of the
  -- changes before as its number.
  abbrev pub alter : Alter ItemName → Lists → Effect × Lists
  alter c s =
      if nat_lt (length s.made) max_changes
      then
      (if would_change c s.db
      then (
        change_made,
        record {
          db = db_after_change (record { place = mine; change = length s.made }) c s.db;
          made = s.made ++ change_of c s.db ∷ [];
        },
      )
      else (no_change, s))
      else (change_limit, s)
