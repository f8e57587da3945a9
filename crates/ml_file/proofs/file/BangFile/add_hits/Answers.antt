use Rattle.std.proofs.Common.{◌≡◌, ◌<◌, true, length, get_or, List, sym, ap, ◌∙◌, subst, arith}
use Rattle.std.proofs.lemmas.List.Elements.{All-contains}
use Rattle.ml_file.specs.Files.{File, items_in}
use Rattle.ml_file.proofs.HeldItems.{item_in}
use Rattle.ml_region.specs.Regions.{Region, items_at}
use Rattle.ml_region.specs.declared.item.Item.{Item}
use Rattle.ml_search.specs.Db.{is_allowed}
use Rattle.ml_term.specs.Seen.{seen}
use Rattle.ml_file.proofs.file.BangFile.add_hits.Goals as goal

pub is_hit-requires-clause-item : goal.is_hit-requires-clause-item
is_hit-requires-clause-item c =
    let regions : List Region = c.self.inside.regions.regions in
    let items : List Item = items_at regions c.args.i in
    let x : Item = c.item-item.result in
    let within : c.args.i < length regions = subst (λ (rs : List Region). c.args.i < length rs)
    (sym (ap (λ (f : File). f.regions) c.self.view_is)) c.requires.region in
    let inside : c.loop-item.item-index < length items = omega (arith, c.loop-item-test.true, ap length c.items-item-items.ensures) in
    let there : x ≡ get_or items c.loop-item.item-index x = c.item-item.is ∙ ap (λ xs. get_or xs c.loop-item.item-index x) c.items-item-items.ensures in
    All-contains (λ (y : Item). is_allowed c.self.inside.decl (seen y.term) ≡ true) (items_in regions) x c.self.invariant.allowed
    (item_in regions c.args.i x within (c.loop-item.item-index, inside, sym there))
