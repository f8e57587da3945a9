use Rattle.std.proofs.Common.{rules, arith, ◌≡◌, ap, sym, ◌∙◌, subst, refl, Some, IsSome, Contains}
use mathlib.Core.List.{IsPrefix}
use mathlib.Core.Option.{some-injective}
use Rattle.ml_latch.proofs.LatchClosing.{closes}
use Rattle.ml_latch.proofs.latch.Latch.close.Goals as goal

pub unwrap-value-requires : goal.unwrap-value-requires
unwrap-value-requires g c =
    let k = g.V.Kept in
    let seat = c.seat.view_is in
    let start : c.seat.inside.place.me.0.start ≡ Some c.self.inside.table.shared.key.value = ap (λ s. s.start) seat
    ∙ (c.requires.latch.1 ∙ ap (λ l. Some l.start) (sym c.self.view_is)) in
    let number = c.seat.invariant.0 ∙ (ap (λ s. s.number) seat ∙ c.requires.first) in
    let given : c.seat.inside.place.me.0.given ≡ c.args.seat.given = c.seat.invariant.1 ∙ ap (λ s. s.given) seat in
    let kept = ap (λ s. s.kept) (sym seat) in
    let end = closes k.past k.own k.base c.self.inside.table.shared.key.value _ _ number start c.seat.invariant.2.1.taken
    (λ n some le. let t = c.requires.all n some (omega (arith, le, given)) in (t.0, subst (λ l. Contains l (n, t.0)) kept t.1)) _ _
    c.close_with-closed.ensures.values.2 in
    let is : c.take.result ≡ Some end.0 = some-injective _ _ (sym c.take.ensures.value ∙ end.1) in
    subst IsSome (sym is) refl

pub returns : goal.returns
returns g c =
    let k = g.V.Kept in
    let seat = c.seat.view_is in
    let start : c.seat.inside.place.me.0.start ≡ Some c.self.inside.table.shared.key.value = ap (λ s. s.start) seat
    ∙ (c.requires.latch.1 ∙ ap (λ l. Some l.start) (sym c.self.view_is)) in
    let number = c.seat.invariant.0 ∙ (ap (λ s. s.number) seat ∙ c.requires.first) in
    let given : c.seat.inside.place.me.0.given ≡ c.args.seat.given = c.seat.invariant.1 ∙ ap (λ s. s.given) seat in
    let kept = ap (λ s. s.kept) (sym seat) in
    let end = closes k.past k.own k.base c.self.inside.table.shared.key.value _ _ number start c.seat.invariant.2.1.taken
    (λ n some le. let t = c.requires.all n some (omega (arith, le, given)) in (t.0, subst (λ l. Contains l (n, t.0)) kept t.1)) _ _
    c.close_with-closed.ensures.values.2 in
    let is : c.take.result ≡ Some end.0 = some-injective _ _ (sym c.take.ensures.value ∙ end.1) in
    let value : c.unwrap-value.result ≡ end.0 = search rules in
    let left = end.2 in
    let first : c.self.inside.table.shared.key.value ≡ c.args.self.start = ap (λ l. l.start) c.self.view_is in record {
      past = subst (λ (x : g.row.V.Denot). IsPrefix c.args.seat.seen (k.past x)) (sym value) (subst (λ l. IsPrefix l (k.past end.0)) (ap (λ s. s.seen) seat)
          left.begins);
      base = ap k.base value ∙ (left.base_is ∙ ap k.base first);
      own = ap (λ x. k.own x 0) value ∙ (left.own_is ∙ ap (λ s. s.own) seat);
      kept = λ n notes h. ap (λ x. k.own x n) value ∙ left.kept n notes (subst (λ l. Contains l (n, notes)) kept h);
      others = λ n beyond. ap (λ x. k.own x n) value ∙ (left.others n (omega (arith, beyond, given)) ∙ ap (λ x. k.own x n) first);
    }
