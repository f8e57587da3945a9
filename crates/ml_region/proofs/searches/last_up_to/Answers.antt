use Rattle.std.proofs.Common.{◌≡◌, ◌≢◌, ℕ, ◌+◌, ◌-◌, ◌/◌, Bool, List, take, sym, ap, ◌∙◌, arith}
use Rattle.std.specs.declared.cmp.Ordering.TheVariants.{Greater}
use Rattle.ml_term.specs.Keys.{key_cmp}
use Rattle.ml_region.specs.Prefixes.{bits_at}
use Rattle.ml_region.proofs.KeyOrder.{greater_from_test, not_greater_from_test}
use Rattle.ml_region.proofs.OwnerSearch.{halving_up, halving_down, last_between}
use Rattle.ml_region.proofs.searches.last_up_to.Goals as goal

pub halves-preserved-then-is_gt : goal.halves-preserved-then-is_gt
halves-preserved-then-is_gt g c =
    let mid : ℕ = c.halves.low + (c.halves.high - c.halves.low) / 2 in
    let front : List Bool = take c.args.n c.args.key.now.bits in
    let ps : List (List Bool) = g.P.Prefixes.prefixes c.args.prefixes.now in
    let bits : bits_at ps mid ≡ c.prefix.result.now.bits = sym c.prefix.ensures in
    let greater : key_cmp (bits_at ps mid) front ≡ Greater =
    ap (λ p. key_cmp p front) bits ∙ sym c.cmp_front.ensures
    ∙ greater_from_test c.cmp_front.result c.is_gt.result c.is_gt.ensures c.if-is_gt.true in
    halving_down ps front c.halves.low mid c.halves.high (omega arith) (omega arith) c.halves.invariant greater

pub halves-preserved : goal.halves-preserved
halves-preserved g c =
    let mid : ℕ = c.halves.low + (c.halves.high - c.halves.low) / 2 in
    let front : List Bool = take c.args.n c.args.key.now.bits in
    let ps : List (List Bool) = g.P.Prefixes.prefixes c.args.prefixes.now in
    let bits : bits_at ps mid ≡ c.prefix.result.now.bits = sym c.prefix.ensures in
    let same : key_cmp (bits_at ps mid) front ≡ c.cmp_front.result = ap (λ p. key_cmp p front) bits ∙ sym c.cmp_front.ensures in
    let upto : key_cmp (bits_at ps mid) front ≢ Greater =
    λ e. not_greater_from_test c.cmp_front.result c.is_gt.result c.is_gt.ensures c.if-is_gt.false (sym same ∙ e) in
    halving_up ps front c.halves.low mid c.halves.high (omega arith) c.halves.invariant upto

pub returns : goal.returns
returns g c =
    last_between (g.P.Prefixes.prefixes c.args.prefixes.now) (take c.args.n c.args.key.now.bits) c.halves.low c.halves.high c.requires.rooted.rising
    (omega arith)
    c.halves.invariant
