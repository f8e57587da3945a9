use Rattle.std.proofs.Common.{rules, ◌≡◌, ◌∷◌, [], ap, ◌∙◌, sym, subst, refl, Some, None, IsSome}
use mathlib.Core.Option.{none}
use Rattle.atomic_table.specs.Table.{step, rest}
use Rattle.ml_latch.proofs.TurnSteps.{looks}
use Rattle.ml_latch.proofs.ListLemmas.{first_content}
use Rattle.ml_latch.proofs.turn.await_turn.Goals as goal

pub load-requires : goal.load-requires
load-requires g c =
    let same = c.loop.invariant.1 in
    let w = c.requires.waits in (
      search rules,
      search rules,
      looks g.V.Kept.past g.V.Kept.own g.V.Kept.base c.args.table.now.key.value _ _ _ (ap (λ m. m.0.taken) same ∙ w.taken)
          (step c.args.table.now.table_id.slots 1 0 0 none)
          (w.number, ap (λ m. m.0.ticket) same ∙ w.ticket) (ap (λ m. m.0.start) same ∙ w.begun),
    )

pub exchange-requires : goal.exchange-requires
exchange-requires g c =
    let same = c.loop.invariant.1 in
    let w = c.requires.waits in
    let tick : c.loop.place.me.0.ticket ≡ Some w.number = ap (λ m. m.0.ticket) same ∙ w.ticket in
    let of : c.loop.place.me.0.start ≡ Some c.args.table.now.key.value = ap (λ m. m.0.start) same ∙ w.begun in
    let got = (c.load.ensures.2 w.number c.args.table.now.key.value tick of).0 (c.if-load-ticket.true ∙ w.known_is) in
    let carried : c.load.new.seat.me.1 ≡ (0, Some got.0) ∷ [] = ap (λ m. m.1) got.2 ∙ ap (λ l. (0, Some got.0) ∷ l) (ap (λ m. m.1) same ∙ w.holds) in
    (search rules, (Some got.0, carried ∙ ap (λ cs. (0, Some got.0) ∷ rest cs) (sym carried)))

pub unwrap-requires : goal.unwrap-requires
unwrap-requires g c =
    let same = c.loop.invariant.1 in
    let w = c.requires.waits in
    let tick : c.loop.place.me.0.ticket ≡ Some w.number = ap (λ m. m.0.ticket) same ∙ w.ticket in
    let of : c.loop.place.me.0.start ≡ Some c.args.table.now.key.value = ap (λ m. m.0.start) same ∙ w.begun in
    let got = (c.load.ensures.2 w.number c.args.table.now.key.value tick of).0 (c.if-load-ticket.true ∙ w.known_is) in
    let carried : c.load.new.seat.me.1 ≡ (0, Some got.0) ∷ [] = ap (λ m. m.1) got.2 ∙ ap (λ l. (0, Some got.0) ∷ l) (ap (λ m. m.1) same ∙ w.holds) in
    let is : c.exchange.result ≡ Some got.0 = ap (first_content None) (sym c.exchange.ensures.2 ∙ carried) in
    subst IsSome (sym is) refl
