use Rattle.std.proofs.Common.{rules, ◌≡◌, true, List, length, take, sym, ap, ◌∙◌, arith}
use Rattle.ml_bits.specs.BitList.{BitList}
use Rattle.ml_region.specs.Prefixes.{bits_at}
use Rattle.ml_region.specs.Regions.{Region, items_at, keys_at, region_at, region_prefixes}
use Rattle.ml_region.specs.declared.item.Item.{Item}
use Rattle.ml_region.proofs.FoundItems.{key_of_item}
use Rattle.ml_region.proofs.OwnerSearch.{one_parent}
use Rattle.ml_region_rows.proofs.region_rows.recut_at.Goals as goal

pub recut-requires-clause-few : goal.recut-requires-clause-few
recut-requires-clause-few g c = λ q p.
    let regions : List Region = c.make_room.new.self.regions in
    let same : q ≡ c.in-Some.parent =
    one_parent (region_prefixes regions) (region_at regions c.args.i).prefix q c.in-Some.parent c.len.ensures.well_placed.rising p c.in-Some.ensures in
    omega (arith, ap (λ k. length (items_at regions k)) same)

pub recut-requires-clause-longer : goal.recut-requires-clause-longer
recut-requires-clause-longer g c = λ q p.
    let regions : List Region = c.make_room.new.self.regions in
    let same : q ≡ c.in-Some.parent =
    one_parent (region_prefixes regions) (region_at regions c.args.i).prefix q c.in-Some.parent c.len.ensures.well_placed.rising p c.in-Some.ensures in
    omega (arith, ap (λ k. length (region_at regions k).prefix) same, ap length c.prefix.ensures.bits)

pub recut-requires-clause-prefix : goal.recut-requires-clause-prefix
recut-requires-clause-prefix g c = λ m h e.
    let items : List Item = items_at c.make_room.new.self.regions c.args.r in
    let key : bits_at (keys_at c.make_room.new.self.regions c.args.r) c.args.j ≡ c.item.result.now.key.bits =
    key_of_item items c.args.j c.item.result.now (omega (arith, c.count-3.ensures)) ∙ ap (λ (x : Item). x.key.bits) (sym c.item.ensures) in
    let new : c.is_new.result ≡ true = search rules in
    c.is_new.ensures new m h (e ∙ ap (take c.args.n) key ∙ sym (ap (λ (b : BitList). b.bits) c.in_ok-prefix.ensures))
