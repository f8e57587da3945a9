use Rattle.std.proofs.Common.{◌≡◌, ◌≢◌, List, map, sym, ap, ◌∙◌, subst}
use Rattle.std.specs.List.{AllPairs, filter}
use Rattle.std.specs.declared.cmp.Ordering.TheVariants.{Equal}
use Rattle.ml_bits.specs.BitList.{BitList}
use Rattle.ml_file.specs.Files.{File, IsFile}
use Rattle.ml_file.specs.Hits.{is_hit, borrowed_items}
use Rattle.ml_file.specs.PlainList.{item_cmp, IsListOf}
use Rattle.ml_region.specs.Prefixes.{IsOwner}
use Rattle.ml_region.specs.Regions.{IsWellPlaced, region_prefixes}
use Rattle.ml_region.specs.declared.item.Item.{Item}
use Rattle.ml_term.specs.Patterns.{may_hold, pattern_of}
use Rattle.ml_term.specs.Seen.{seen}
use Rattle.ml_file.proofs.DifferingItems.{some_differ}
use Rattle.ml_file.proofs.ItemHits.{all_met, next_chosen, next_met}
use Rattle.ml_file.proofs.StoredHeads.{head_from_of}
use Rattle.ml_file.proofs.file.BangFile.hits.Goals as goal

pub in_order-requires : goal.in_order-requires
in_order-requires c =
    let file : File = c.args.self.now in
    let head = seen c.args.head.now in
    let well = subst (λ (f : File). IsWellPlaced f.regions) c.self.view_is c.len-well_placed.ensures.well_placed in
    let kept = subst (λ (f : File). IsFile f.decl f.regions f.room) c.self.view_is c.self.invariant in
    let prefixes = subst (λ (f : File). map (λ (b : BitList). b.bits) c.deref-prefix-items.result.now
    ≡ filter (λ prefix. may_hold (pattern_of f.decl.keys head) prefix) (region_prefixes f.regions)) c.self.view_is
    (ap (map (λ (b : BitList). b.bits)) c.deref-prefix-items.ensures.value
    ∙ c.in_ok-prefixes.ensures
    ∙ ap (λ p. filter (λ prefix. may_hold p prefix) (region_prefixes c.self.inside.regions.regions)) c.pattern_of.ensures) in
    let all = all_met file.decl file.regions file.room head c.deref-prefix-items.result.now c.loop-prefix.prefix-index
    (borrowed_items c.loop-prefix.found.items) well kept
    (head_from_of file.decl.pred.name file.decl.pred.arity head c.requires.declared) prefixes c.loop-prefix-test.false c.loop-prefix.invariant in
    subst (λ (f : File). AllPairs (λ (a : Item) (b : Item). item_cmp f.decl.kind a b ≢ Equal) (borrowed_items c.loop-prefix.found.items)) (sym c.self.view_is)
    (subst (λ (xs : List Item). AllPairs (λ (a : Item) (b : Item). item_cmp file.decl.kind a b ≢ Equal) xs) (sym all)
    (some_differ file.decl file.regions file.room (λ (x : Item). is_hit file.decl.kind head (seen x.term)) well kept))

pub loop-prefix-preserved : goal.loop-prefix-preserved
loop-prefix-preserved c =
    let file : File = c.args.self.now in
    let head = seen c.args.head.now in
    let well = subst (λ (f : File). IsWellPlaced f.regions) c.self.view_is c.len-well_placed.ensures.well_placed in
    let prefixes = subst (λ (f : File). map (λ (b : BitList). b.bits) c.deref-prefix-items.result.now
    ≡ filter (λ prefix. may_hold (pattern_of f.decl.keys head) prefix) (region_prefixes f.regions)) c.self.view_is
    (ap (map (λ (b : BitList). b.bits)) c.deref-prefix-items.ensures.value
    ∙ c.in_ok-prefixes.ensures
    ∙ ap (λ p. filter (λ prefix. may_hold p prefix) (region_prefixes c.self.inside.regions.regions)) c.pattern_of.ensures) in
    let owner = subst (λ (f : File). IsOwner (region_prefixes f.regions) c.prefix-item.result.bits c.owner_of-region.result) c.self.view_is
    c.owner_of-region.ensures in
    let next = next_chosen (pattern_of file.decl.keys head) file.regions c.deref-prefix-items.result.now c.loop-prefix.prefix-index c.owner_of-region.result
    c.prefix-item.result well prefixes
    c.loop-prefix-test.true (sym c.prefix-item.is) owner in
    next_met file.decl.kind head (pattern_of file.decl.keys head) file.regions c.loop-prefix.prefix-index c.owner_of-region.result
    (borrowed_items c.loop-prefix.found.items) (borrowed_items c.add_hits.new.found.items) next
    c.loop-prefix.invariant c.in_ok-add_hits.ensures

pub returns : goal.returns
returns c =
    let file : File = c.args.self.now in
    let head = seen c.args.head.now in
    let well = subst (λ (f : File). IsWellPlaced f.regions) c.self.view_is c.len-well_placed.ensures.well_placed in
    let kept = subst (λ (f : File). IsFile f.decl f.regions f.room) c.self.view_is c.self.invariant in
    let prefixes = subst (λ (f : File). map (λ (b : BitList). b.bits) c.deref-prefix-items.result.now
    ≡ filter (λ prefix. may_hold (pattern_of f.decl.keys head) prefix) (region_prefixes f.regions)) c.self.view_is
    (ap (map (λ (b : BitList). b.bits)) c.deref-prefix-items.ensures.value
    ∙ c.in_ok-prefixes.ensures
    ∙ ap (λ p. filter (λ prefix. may_hold p prefix) (region_prefixes c.self.inside.regions.regions)) c.pattern_of.ensures) in
    let all = all_met file.decl file.regions file.room head c.deref-prefix-items.result.now c.loop-prefix.prefix-index
    (borrowed_items c.loop-prefix.found.items) well kept
    (head_from_of file.decl.pred.name file.decl.pred.arity head c.requires.declared) prefixes c.loop-prefix-test.false c.loop-prefix.invariant in
    subst (λ (xs : List Item). IsListOf file.decl.kind xs (borrowed_items c.in_order.result.items)) all
    (subst (λ (f : File). IsListOf f.decl.kind (borrowed_items c.loop-prefix.found.items) (borrowed_items c.in_order.result.items)) c.self.view_is
    c.in_order.ensures)
