-- What comes of a change to one list. The code looks for the item and then changes the list; here
-- it is said at once what the list becomes.
use Rattle.std.specs.Prelude.{◌≡◌, ℕ, ◌++◌, Bool, true, false, ◌&&◌, if◌then◌else◌, List}
use Rattle.ml_list_desk.specs.inside.ItemList.{ItemList}
use Rattle.ml_list_desk.specs.Items.{items_seen}
use Rattle.ml_list_desk.specs.declared.list_item.ListItem.{ListItem}
use Rattle.ml_list_desk.specs.declared.outcome.Outcome.{Outcome}
use Rattle.ml_list_desk.specs.declared.outcome.Outcome.TheVariants.{Absent, Added, Full, Present, Removed}
use Rattle.ml_search.specs.Db.{Id, Item, mine}
use Rattle.ml_search.specs.declared.operation.Reply.{Reply}
use Rattle.ml_search.specs.declared.operation.Reply.TheVariants as reply

-- the id of what a session puts as the change with a number
abbrev pub own_id : ℕ → Id
own_id changes = record { place = mine; change = changes }

-- the reply that tells an outcome
abbrev pub outcome_reply : Outcome → Reply
outcome_reply Added = reply.Added
outcome_reply Present = reply.Present
outcome_reply Removed = reply.Removed
outcome_reply Absent = reply.Absent
outcome_reply Full = reply.Full

-- how many changes an outcome is
abbrev pub count_of : Outcome → ℕ
count_of Added = 1
count_of Present = 0
count_of Removed = 1
count_of Absent = 0
count_of Full = 0

-- the outcome where few changes were made before, and of these where the change does something
abbrev pub outcome_by : Bool → Bool → Outcome → Outcome → Outcome
outcome_by true true done vain = done
outcome_by true false done vain = vain
outcome_by false does done vain = Full

-- A change of a list: where few changes were made and it does something, the items become others,
-- and else they stay. What once stood in the list keeps its number.
pub record IsChange (few does : Bool) (done vain : Outcome) (f : List Item → List Item)
    (old new : ItemList) (outcome : Outcome) : Type 0 where
  pub outcome_is : outcome ≡ outcome_by few does done vain
  pub items : items_seen new.items
      ≡ (if few && does then f (items_seen old.items) else items_seen old.items)
  pub decl : new.decl ≡ old.decl
  pub more : List ListItem
  pub pool : new.pool ≡ old.pool ++ more
