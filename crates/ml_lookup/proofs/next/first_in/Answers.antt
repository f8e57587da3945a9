use Rattle.std.proofs.Common.{◌≡◌, ◌<◌, true, List, below_more, get_or, length, sym, ap, ◌∙◌, subst, arith}
use Rattle.std.specs.Option.{option_copied}
use Rattle.std.proofs.lemmas.Bool.{both_ways}
use Rattle.std.proofs.lemmas.List.{get_or_default}
use Rattle.std.proofs.lemmas.List.Elements.{All-contains}
use Rattle.ml_file.specs.Files.{items_in}
use Rattle.ml_file.proofs.HeldItems.{item_in}
use Rattle.ml_region.specs.Regions.{Region, items_at}
use Rattle.ml_region.specs.declared.item.Item.{Item}
use Rattle.ml_search.specs.Db.{is_allowed}
use Rattle.ml_term.specs.Seen.{seen}
use Rattle.ml_lookup.specs.Next.{IsMet}
use Rattle.ml_lookup.proofs.NextItems.{first_at}
use Rattle.ml_lookup.proofs.next.first_in.Goals as goal

pub is_met-requires-clause-item : goal.is_met-requires-clause-item
is_met-requires-clause-item c =
    let regions : List Region = c.args.file.now.regions in
    let items : List Item = items_at regions c.args.i in
    let x : Item = c.item-item.result in
    let are : c.items-item-items.result.now ≡ items = c.items-item-items.ensures ∙ ap (λ rs. items_at rs c.args.i) c.regions-regions.ensures in
    let inside : c.loop-item.item-index < length items = omega (arith, c.loop-item-test.true, ap length are) in
    let there : x ≡ get_or items c.loop-item.item-index x = c.item-item.is ∙ ap (λ xs. get_or xs c.loop-item.item-index x) are in
    All-contains (λ (y : Item). is_allowed c.args.file.now.decl (seen y.term) ≡ true) (items_in regions) x c.len-kept.ensures.kept.allowed
    (item_in regions c.args.i x c.requires.region (c.loop-item.item-index, inside, sym there))

pub returns-then-met : goal.returns-then-met
returns-then-met c =
    let items : List Item = items_at c.args.file.now.regions c.args.i in
    let x : Item = c.item-item.result in
    let are : c.items-item-items.result.now ≡ items = c.items-item-items.ensures ∙ ap (λ rs. items_at rs c.args.i) c.regions-regions.ensures in
    let inside : c.loop-item.item-index < length items = omega (arith, c.loop-item-test.true, ap length are) in
    let there : x ≡ get_or items c.loop-item.item-index x = c.item-item.is ∙ ap (λ xs. get_or xs c.loop-item.item-index x) are in
    first_at c.args.file.now.decl.kind (seen c.args.head.now) (option_copied c.args.after) items c.loop-item.item-index x
    (c.len-kept.ensures.well_placed.ordered c.args.i c.requires.region) inside there c.loop-item.invariant (c.in_ok-met.ensures.0 c.if-met.true)

pub loop-item-preserved : goal.loop-item-preserved
loop-item-preserved c =
    let items : List Item = items_at c.args.file.now.regions c.args.i in
    let i = c.loop-item.item-index in
    let x : Item = c.item-item.result in
    let are : c.items-item-items.result.now ≡ items = c.items-item-items.ensures ∙ ap (λ rs. items_at rs c.args.i) c.regions-regions.ensures in
    let inside : i < length items = omega (arith, c.loop-item-test.true, ap length are) in
    let there : x ≡ get_or items i x = c.item-item.is ∙ ap (λ xs. get_or xs i x) are in
    let kind = c.args.file.now.decl.kind in
    let pattern = seen c.args.head.now in
    let after = option_copied c.args.after in
    below_more (λ k. (y : Item) → get_or items k y ≡ y → IsMet kind pattern after y → ⊥) i c.loop-item.invariant (λ y e met.
    let same : y ≡ x = sym e ∙ get_or_default items i y x inside ∙ sym there in
    both_ways c.in_ok-met.met c.if-met.false (c.in_ok-met.ensures.1 (subst (IsMet kind pattern after) same met)))
