-- What an insert and a removal do to a plain list of items. The code changes one page of one
-- region, and keeps no list.
use Rattle.std.specs.Prelude.{Bool, not, List, [], ◌∷◌, cond}
use Rattle.std.specs.List.{filter}
use Rattle.std.specs.Ordering.{is_lt}
use Rattle.ml_term.specs.Patterns.{same_bits}
use Rattle.ml_term.specs.declared.declaration.Kind.{Kind}
use Rattle.ml_region.specs.declared.item.Item.{Item}
use Rattle.ml_file.specs.PlainList.{item_cmp}

-- a list with an item at its place: in front of the first one that it comes before, and else at the
-- end
abbrev pub with_item : Kind → Item → List Item → List Item
with_item kind item [] = item ∷ []
with_item kind item (x ∷ list) = cond (is_lt (item_cmp kind item x)) (item ∷ x ∷ list)
    (x ∷ with_item kind item list)

-- a list without the items that have a key
abbrev pub without_key : List Bool → List Item → List Item
without_key key list = filter (λ (x : Item). not (same_bits x.key.bits key)) list
