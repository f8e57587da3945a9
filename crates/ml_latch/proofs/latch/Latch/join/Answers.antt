use Rattle.std.proofs.Common.{rules, ◌≡◌, ap, sym, ◌∙◌, Some}
use mathlib.Core.Option.{none}
use Rattle.atomic_table.specs.Table.{step}
use Rattle.ml_latch.specs.Place.{IsIdle}
use Rattle.ml_latch.proofs.SeatSteps.{joins, settles}
use Rattle.ml_latch.proofs.latch.Latch.join.Goals as goal

pub join_seat-requires : goal.join_seat-requires
join_seat-requires g c =
    let k = g.V.Kept in
    let start = ap (λ l. Some l.start) (sym c.self.view_is) in
    let begun : c.into.inside.place.me.0.start ≡ Some c.self.inside.table.shared.key.value = ap (λ s. s.start) c.into.view_is ∙ (c.requires.latch.1 ∙ start) in
    let begun' : c.other.inside.place.me.0.start ≡ Some c.self.inside.table.shared.key.value = ap (λ s. s.start) c.other.view_is
    ∙ (c.requires.other.1 ∙ start) in
    let i = c.into.invariant.2.1 in
    let o = c.other.invariant.2.1 in
    let table = ap (λ l. l.table) (sym c.self.view_is) in (
      ap (λ s. s.table) c.into.view_is ∙ (c.requires.latch.0 ∙ table),
      ap (λ s. s.table) c.other.view_is ∙ (c.requires.other.0 ∙ table),
      o.holds,
      search rules,
      joins k.past k.own k.base c.self.inside.table.shared.key.value _ _ _ _ begun begun' i.ticket i.taken o.ticket o.taken,
    )

pub load-requires : goal.load-requires
load-requires g c =
    let k = g.V.Kept in
    let me = c.join_seat.ensures.2 in
    let i = c.into.invariant.2.1 in
    let start = ap (λ l. Some l.start) (sym c.self.view_is) in
    let begun : c.into.inside.place.me.0.start ≡ Some c.self.inside.table.shared.key.value = ap (λ s. s.start) c.into.view_is ∙ (c.requires.latch.1 ∙ start) in
    let table = ap (λ l. l.table) (sym c.self.view_is) in
    let calm : IsIdle c.self.inside.table.shared.key.value c.join_seat.new.seat.me = record {
      holds = ap (λ m. m.1) me ∙ i.holds;
      ticket = ap (λ m. m.0.ticket) me ∙ i.ticket;
      taken = ap (λ m. m.0.taken) me ∙ i.taken;
      begun = ap (λ m. m.0.start) me ∙ begun;
    } in (
      c.join_seat.ensures.0 ∙ (ap (λ s. s.table) c.into.view_is ∙ (c.requires.latch.0 ∙ table)),
      search rules,
      settles k.past k.own k.base c.self.inside.table.shared.key.value _ _ _ calm (step c.self.inside.table.shared.table_id.slots 0 0 0 none),
    )
