use Rattle.std.proofs.Common.{rules, arith, ◌≡◌, ap, sym, ◌∙◌, Some}
use Rattle.ml_latch.proofs.SeatSteps.{splits}
use Rattle.ml_latch.proofs.latch.Latch.split.Goals as goal

pub split_seat-place-requires : goal.split_seat-place-requires
split_seat-place-requires g c =
    let k = g.V.Kept in
    let latch = c.self.view_is in
    let from = c.from.view_is in
    let start : c.from.inside.place.me.0.start ≡ Some c.self.inside.table.shared.key.value = ap (λ s. s.start) from
    ∙ (c.requires.latch.1 ∙ ap (λ l. Some l.start) (sym latch)) in
    let number = c.from.invariant.0 ∙ (ap (λ s. s.number) from ∙ c.requires.first) in
    let given : c.from.inside.place.me.0.given ≡ c.args.from.now.given = c.from.invariant.1 ∙ ap (λ s. s.given) from in
    let seats : c.self.inside.seats ≡ c.args.self.now.seats = ap (λ l. l.seats) latch in (
      ap (λ s. s.table) from ∙ (c.requires.latch.0 ∙ ap (λ l. l.table) (sym latch)),
      search rules,
      splits k.past k.own k.base c.self.inside.table.shared.key.value _ _ number (omega (arith, given, seats, c.self.invariant.2, c.requires.room)) start,
    )
