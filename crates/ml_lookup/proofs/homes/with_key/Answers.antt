use Rattle.std.proofs.Common.{◌≡◌, ◌<◌, List, [], below_more, length, sym, ap, ◌∙◌, arith}
use Rattle.std.proofs.lemmas.List.{get_or_default, length-map}
use Rattle.ml_region.specs.Prefixes.{bits_at}
use Rattle.ml_region.specs.Regions.{keys_of}
use Rattle.ml_region.specs.declared.item.Item.{Item}
use Rattle.ml_region.proofs.FoundItems.{key_of_item}
use Rattle.ml_region.proofs.KeyOrder.{not_equal_from_test}
use Rattle.ml_lookup.proofs.homes.with_key.Goals as goal

pub loop-item-preserved : goal.loop-item-preserved
loop-item-preserved c =
    let items : List Item = c.args.items.now in
    let i = c.loop-item.item-index in
    let inside : i < length items = omega (arith, c.loop-item-test.true) in
    below_more (λ k. bits_at (keys_of items) k ≡ c.args.key.now.bits → ⊥) i c.loop-item.invariant
    (λ e. not_equal_from_test c.cmp.result c.is_eq.result c.is_eq.ensures c.if-is_eq.false
    (c.cmp.ensures.equal.1 (ap (λ (x : Item). x.key.bits) c.item-item.is ∙ sym (key_of_item items i c.item-item.result inside) ∙ e)))

pub returns : goal.returns
returns c there =
    c.loop-item.invariant there.0 (omega (arith, there.1, c.loop-item-test.false, length-map c.args.items.now (λ (x : Item). x.key.bits)))
    (get_or_default (keys_of c.args.items.now) there.0 [] c.args.key.now.bits there.1 ∙ there.2)
