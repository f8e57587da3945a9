use Rattle.std.proofs.Common.{rules}
use mathlib.Core.Option.{none}
use Rattle.atomic_table.specs.Table.{step}
use Rattle.ml_latch.proofs.TurnSteps.{draws}
use Rattle.ml_latch.proofs.turn.work_in_turn.Goals as goal

pub fetch_add-ticket-requires : goal.fetch_add-ticket-requires
fetch_add-ticket-requires g c = let k = g.V.Kept in (
  search rules,
  search rules,
  draws k.past k.own k.base c.args.table.now.key.value _ _ _ c.requires.idle
      (step c.args.table.now.table_id.slots 0 1 0 none),
)
