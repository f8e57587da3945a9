use Rattle.std.proofs.Common.{rules, ap, ◌∙◌, sym, Some, ◌∷◌, subst}
use mathlib.Core.Option.{none}
use Rattle.atomic_table.specs.Table.{step, rest}
use Rattle.ml_latch.specs.Turn.{MayBecome}
use Rattle.ml_latch.proofs.TurnSteps.{passes}
use Rattle.ml_latch.proofs.turn.pass_on.Goals as goal

pub fetch_add-requires : goal.fetch_add-requires
fetch_add-requires g c =
    let me = c.exchange-left.ensures.3 in
    let t = c.requires.turn in
    let k = g.V.Kept in (
      search rules,
      search rules,
      passes k.past k.own k.base c.args.table.now.key.value _ _ _ t.0 c.args.value (ap (λ m. m.0.taken) me ∙ t.1) (ap (λ m. m.1) me
          ∙ ap (λ l. (0, Some c.args.value) ∷ rest l) c.requires.slot)
          (subst (λ n. MayBecome k.past k.own k.base n t.0 c.args.value) (ap (λ m. m.0.number) (sym me)) t.2) (ap (λ m. m.0.start) me ∙ c.requires.start)
          (step c.args.table.now.table_id.slots 1 1 0 none),
    )
