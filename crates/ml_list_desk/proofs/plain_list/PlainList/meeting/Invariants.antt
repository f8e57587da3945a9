use Rattle.std.proofs.Common.{◌≡◌, true, take}
use Rattle.std.specs.List.{filter}
use Rattle.ml_list_desk.specs.inside.ItemList.{are_within, is_met, items_with}
use Rattle.ml_list_desk.specs.Items.{items_seen}
use Rattle.ml_term.specs.Seen.{seen}
use Rattle.ml_list_desk.proofs.plain_list.PlainList.meeting.Given as goal

-- the items so far that the pattern meets
abbrev pub invariant-loop-at : goal.invariant-loop-at
invariant-loop-at l =
    let pool = l.self-inside.pool.items in
    record {
      members : items_seen (items_with pool l.found.items)
          ≡ filter (is_met l.self-inside.decl (seen l.pattern)) (items_seen (items_with pool (take l.at l.self-inside.numbers.items)));
      within : are_within pool l.found.items ≡ true;
    }
