-- What the items of plain lists are seen as: the same, with trees in place of terms.
use Rattle.std.specs.Prelude.{List, map, ℕ}
use Rattle.ml_list_desk.specs.declared.list_item.ListItem.{ListItem}
use Rattle.ml_list_desk.specs.declared.list_item.Place as P
use Rattle.ml_list_desk.specs.declared.list_item.Place.TheVariants.{At, Mine}
use Rattle.ml_search.specs.Db.{at, Db, Id, Item, mine, Place}
use Rattle.ml_term.specs.Seen.{seen}
use Rattle.ml_term.specs.Tree.{Tree}
use Rattle.ml_term.specs.declared.term.Term.{Term}

-- the place that it is
abbrev pub place_seen : P.Place → Place
place_seen (At entry) = at entry
place_seen Mine = mine

-- the id of a place and a number of change
abbrev pub id_seen : P.Place → ℕ → Id
id_seen place change = record { place = place_seen place; change = change }

-- the item that it is
abbrev pub item_seen : ListItem → Item
item_seen i = record { id = id_seen i.place i.change; term = seen i.term }

-- the items that they are
abbrev pub items_seen : List ListItem → List Item
items_seen = map item_seen

-- the lists that they are
abbrev pub lists_seen : List (List ListItem) → Db
lists_seen = map items_seen

-- the trees of lists of terms
abbrev pub lists_of_terms : List (List Term) → List (List Tree)
lists_of_terms = map (map seen)
