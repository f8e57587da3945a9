use Rattle.std.proofs.Common.{rules, ◌≡◌, ◌∷◌, [], List, Option, Some, subst, sym}
use Rattle.atomic_table.specs.Table.{opening}
use Rattle.ml_latch.specs.Rule.{IsInTurns}
use Rattle.ml_latch.specs.View.{first_view}
use Rattle.ml_latch.proofs.SeatSteps.{opens}
use Rattle.ml_latch.proofs.latch.Latch.new.Goals as goal

pub new-requires : goal.new-requires
new-requires g c =
    let k = g.V.Kept in
    let x = c.of-start.result.value in
    let slots : c.push_reserved.new.self.items ≡ Some x ∷ [] = search rules in
    subst (λ (l : List (Option g.row.V.Denot)). IsInTurns k.past k.own k.base x (opening (0 ∷ 0 ∷ []) l (first_view k.past k.own x))) (sym slots)
    (opens k.past k.own k.base x)
