use Rattle.std.proofs.Common.{◌≡◌, ◌++◌, map}
use Rattle.std.specs.Vec.Iter.{into_iter_items}
use Rattle.ml_list_desk.specs.Items.{items_seen}
use Rattle.ml_search.specs.Db.{load_list_from}
use Rattle.ml_term.specs.Seen.{seen}
use Rattle.ml_list_desk.proofs.list_desk.making.loaded_items.Given as goal

-- the items so far, and then those of the terms that are left
abbrev pub invariant-loop-term : goal.invariant-loop-term
invariant-loop-term l =
    items_seen l.items.items ++ load_list_from l.change (map seen (into_iter_items l.term-iterator)) ≡ load_list_from 0 (map seen l.fn.terms)
