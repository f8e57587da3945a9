use Rattle.std.proofs.Common.{◌≡◌, ◌≢◌, ℕ, ◌+◌, ◌-◌, ◌/◌, ◌<◌, Bool, List, length, sym, ap, ◌∙◌, subst, arith}
use Rattle.std.specs.declared.cmp.Ordering.TheVariants.{Less}
use Rattle.ml_term.specs.Keys.{key_cmp}
use Rattle.ml_region.specs.Prefixes.{bits_at, IsRising}
use Rattle.ml_region.specs.Regions.{keys_of}
use Rattle.ml_region.specs.declared.item.Item.{Item}
use Rattle.ml_region.proofs.KeyOrder.{less_from_test, not_less_from_test}
use Rattle.ml_region.proofs.FoundItems.{key_of_item}
use Rattle.ml_region.proofs.PageSearch.{narrowing_up, narrowing_down}
use Rattle.ml_region.proofs.RegionItems.{keys_length}
use Rattle.ml_region.proofs.page.Page.first_from.Goals as goal

pub halves-preserved-then-is_lt : goal.halves-preserved-then-is_lt
halves-preserved-then-is_lt c =
    let items : List Item = c.self.inside.items.items in
    let mid : ℕ = c.halves.low + (c.halves.high - c.halves.low) / 2 in
    let key : List Bool = c.args.key.now.bits in
    let inside : mid < length items = omega (arith, c.halves.invariant.within, keys_length items) in
    let up : IsRising (keys_of items) = subst (λ xs. IsRising (keys_of xs)) (sym c.self.view_is) c.requires in
    let bits : bits_at (keys_of items) mid ≡ c.index.result.now.key.bits =
    key_of_item items mid c.index.result.now inside ∙ ap (λ (x : Item). x.key.bits) (sym c.index.ensures) in
    let less : key_cmp (bits_at (keys_of items) mid) key ≡ Less =
    ap (λ k. key_cmp k key) bits ∙ sym c.cmp.ensures.value ∙ less_from_test c.cmp.result c.is_lt.result c.is_lt.ensures c.if-is_lt.true in
    narrowing_up (keys_of items) key c.halves.low mid c.halves.high up (omega arith) c.halves.invariant less

pub halves-preserved : goal.halves-preserved
halves-preserved c =
    let items : List Item = c.self.inside.items.items in
    let mid : ℕ = c.halves.low + (c.halves.high - c.halves.low) / 2 in
    let key : List Bool = c.args.key.now.bits in
    let inside : mid < length items = omega (arith, c.halves.invariant.within, keys_length items) in
    let up : IsRising (keys_of items) = subst (λ xs. IsRising (keys_of xs)) (sym c.self.view_is) c.requires in
    let bits : bits_at (keys_of items) mid ≡ c.index.result.now.key.bits =
    key_of_item items mid c.index.result.now inside ∙ ap (λ (x : Item). x.key.bits) (sym c.index.ensures) in
    let at : key_cmp (bits_at (keys_of items) mid) key ≡ c.cmp.result = ap (λ k. key_cmp k key) bits ∙ sym c.cmp.ensures.value in
    let other : key_cmp (bits_at (keys_of items) mid) key ≢ Less =
    λ e. not_less_from_test c.cmp.result c.is_lt.result c.is_lt.ensures c.if-is_lt.false (sym at ∙ e) in
    narrowing_down (keys_of items) key c.halves.low mid c.halves.high up (omega arith) (omega arith) c.halves.invariant other
