use Rattle.std.proofs.Common.{ap, sym, subst}
use mathlib.Core.List.{IsPrefix}
use Rattle.ml_latch.proofs.ListLemmas.{prefix_trans}
use Rattle.ml_latch.proofs.latch.Latch.call.Goals as goal

pub returns-clause-seen : goal.returns-clause-seen
returns-clause-seen g c =
    let turn = c.work_in_turn.ensures.turn in
    let grown = prefix_trans _ _ _ turn.finds.begins turn.becomes.grows in
    let after = subst (λ l. IsPrefix c.seat.inside.place.me.0.seen l) (sym (ap (λ m. m.0.seen) turn.knows)) grown in
    subst (λ l. IsPrefix l c.work_in_turn.new.place.me.0.seen) (ap (λ s. s.seen) c.seat.view_is) after
