-- What the code's lists and cursors stand for: a store of plain lists. The code counts the changes;
-- a store has the list of them.
use Rattle.std.specs.Prelude.{◌≡◌, ℕ, Bool, ◌&&◌, List, [], length, map, nat_lt, slice_get}
use Rattle.std.specs.List.{list_all}
use Rattle.std.specs.Option.{option_map_or}
use Rattle.ml_list_desk.specs.inside.ItemList.{are_within, ItemList, items_with}
use Rattle.ml_list_desk.specs.Items.{items_seen}
use Rattle.ml_list_desk.specs.declared.list_cursor.ListCursor.{ListCursor}
use Rattle.ml_list_desk.specs.declared.list_item.ListItem.{ListItem}
use Rattle.ml_search.specs.Db.{Db}
use Rattle.ml_search.specs.Replay.{Cursor, Store}
use Rattle.ml_term.specs.declared.declaration.Decl.{Decl}

-- the declarations of lists
abbrev pub decls_of : List ItemList → List Decl
decls_of = map (λ l. l.decl)

-- the lists that they stand for
abbrev pub db_of : List ItemList → Db
db_of = map (λ l. items_seen l.items)

-- every item that stood in a list at some time
abbrev pub pool_of : List ItemList → ℕ → List ListItem
pool_of lists d = option_map_or (λ l. l.pool) (slice_get lists d) []

-- the cursor that it stands for
abbrev pub cursor_of : List ItemList → ListCursor → Cursor
cursor_of lists c =
    record {
      list = c.list;
      members = items_seen (items_with (pool_of lists c.list) c.members.items);
    }

-- whether a cursor is over a list, and each of its numbers is that of an item there
abbrev pub is_cursor_within : List ItemList → ListCursor → Bool
is_cursor_within lists c =
    nat_lt c.list (length lists) && are_within (pool_of lists c.list) c.members.items

-- whether this holds of each cursor
abbrev pub are_cursors_within : List ItemList → List ListCursor → Bool
are_cursors_within lists = list_all (is_cursor_within lists)

-- lists, cursors and a number of changes stand for a store
pub record StandFor (lists : List ItemList) (cursors : List ListCursor) (changes : ℕ) (s : Store)
    : Type 0 where
  pub db : db_of lists ≡ s.lists.db
  pub opened : map (cursor_of lists) cursors ≡ s.cursors
  pub made : changes ≡ length s.lists.made
