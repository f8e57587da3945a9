use Rattle.std.proofs.Common.{◌≡◌, ◌<◌, List, Bool, [], false, length, get_or, take, sym, ap, ◌∙◌, subst, arith, below_more}
use Rattle.std.proofs.lemmas.Bool.{false≢true}
use Rattle.std.proofs.lemmas.List.{length-map}
use Rattle.ml_region.specs.Prefixes.{bits_at}
use Rattle.ml_region.specs.Regions.{keys_at, items_at}
use Rattle.ml_region.specs.declared.item.Item.{Item}
use Rattle.ml_region.proofs.FoundItems.{key_of_item}
use Rattle.ml_term.specs.Patterns.{begins}
use Rattle.ml_split.proofs.KeyCounts.{Passes, some_pass}
use Rattle.ml_split.proofs.PartingKeys.{common_ends, common_taken}
use Rattle.ml_split.proofs.further_key.item_below.Goals as goal

pub unreachable-requires : goal.unreachable-requires
unreachable-requires g c =
    let keys : List (List Bool) = keys_at c.args.regions.now.regions c.args.i in
    let found : Passes (begins (take c.args.bits c.args.key.now.bits)) [] keys =
    some_pass (begins (take c.args.bits c.args.key.now.bits)) [] keys c.requires.some in
    let before : found.place < c.loop-j.j = omega (
      arith,
      found.within,
      length-map (items_at c.args.regions.now.regions c.args.i) (λ (x : Item). x.key.bits),
      ap length c.items-item-items.ensures,
      c.loop-j-test.false,
    ) in
    false≢true (sym (c.loop-j.invariant found.place before) ∙ found.passes)

pub returns-then-common_len-bits-clause-begins : goal.returns-then-common_len-bits-clause-begins
returns-then-common_len-bits-clause-begins g c =
    let items : List Item = items_at c.args.regions.now.regions c.args.i in
    let within : c.loop-j.j < length items = omega (arith, ap length c.items-item-items.ensures, c.loop-j-test.true) in
    let item : c.item-item.result ≡ get_or items c.loop-j.j c.item-item.result =
    c.item-item.is ∙ ap (λ xs. get_or xs c.loop-j.j c.item-item.result) c.items-item-items.ensures in
    let same : bits_at (keys_at c.args.regions.now.regions c.args.i) c.loop-j.j ≡ c.item-item.result.key.bits =
    key_of_item items c.loop-j.j c.item-item.result within ∙ ap (λ (x : Item). x.key.bits) (sym item) in
    ap (take c.args.bits) same ∙ common_taken c.args.key.now.bits c.item-item.result.key.bits c.common_len.result c.args.bits c.common_len.ensures
    c.if-common_len-bits.true

pub loop-j-preserved : goal.loop-j-preserved
loop-j-preserved g c =
    let items : List Item = items_at c.args.regions.now.regions c.args.i in
    let within : c.loop-j.j < length items = omega (arith, ap length c.items-item-items.ensures, c.loop-j-test.true) in
    let item : c.item-item.result ≡ get_or items c.loop-j.j c.item-item.result =
    c.item-item.is ∙ ap (λ xs. get_or xs c.loop-j.j c.item-item.result) c.items-item-items.ensures in
    let same : bits_at (keys_at c.args.regions.now.regions c.args.i) c.loop-j.j ≡ c.item-item.result.key.bits =
    key_of_item items c.loop-j.j c.item-item.result within ∙ ap (λ (x : Item). x.key.bits) (sym item) in
    below_more _ _ c.loop-j.invariant
    (subst (λ k. begins (take c.args.bits c.args.key.now.bits) k ≡ false) (sym same)
    (common_ends c.args.key.now.bits c.item-item.result.key.bits c.common_len.result c.args.bits c.common_len.ensures c.if-common_len-bits.false
    c.requires.bits))
