use Rattle.std.proofs.Common.{arith, ap, sym, ◌∙◌, ◌≤◌, length, None}
use Rattle.ml_term.specs.Patterns.{may_hold}
use Rattle.ml_key.proofs.PrefixPlaces.{place_holds, place_holds_not, all_places_hold}
use Rattle.ml_key.proofs.pattern.may_hold.Goals as goal

pub returns-then-not-place_may_hold : goal.returns-then-not-place_may_hold
returns-then-not-place_may_hold c =
    place_holds_not c.codes-codes.result.now c.loop-place.place c.args.prefix.now.bits None c.loop-place-test.true c.loop-place.invariant
    (sym c.place_may_hold.ensures ∙ c.if-not-place_may_hold.true)
    ∙ ap (λ ps. may_hold ps c.args.prefix.now.bits) c.codes-codes.ensures.same

pub loop-place-preserved : goal.loop-place-preserved
loop-place-preserved c =
    place_holds c.codes-codes.result.now c.loop-place.place c.args.prefix.now.bits None c.loop-place-test.true c.loop-place.invariant
    (sym c.place_may_hold.ensures ∙ c.if-not-place_may_hold.false)

pub returns : goal.returns
returns c =
    let past : length c.codes-codes.result.now ≤ c.loop-place.place = omega arith in
    all_places_hold c.codes-codes.result.now c.loop-place.place c.args.prefix.now.bits past c.loop-place.invariant
    ∙ ap (λ ps. may_hold ps c.args.prefix.now.bits) c.codes-codes.ensures.same
