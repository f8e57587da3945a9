use Rattle.std.proofs.Common.{◌≡◌, ◌<◌, length, sym, subst, arith}
use Rattle.std.proofs.lemmas.List.{length-map}
use Rattle.ml_region.specs.Regions.{Region, items_at, region_prefixes}
use Rattle.ml_region.proofs.OwnerSearch.{one_owner}
use Rattle.ml_file.specs.Adding.{has_place, splits_first}
use Rattle.ml_file.proofs.GrownRegions.{Comes, comes_after, cut_to, owner_has_place, put_few, put_items}
use Rattle.ml_file.proofs.ComingItems.{apart_part}
use Rattle.ml_file.proofs.NoneThin.{grown_none_thin}
use Rattle.ml_file.proofs.file.put.grow.Goals as goal

pub returns-then-count-lt-MAX_REGION_ITEMS-clause-grown : goal.returns-then-count-lt-MAX_REGION_ITEMS-clause-grown
returns-then-count-lt-MAX_REGION_ITEMS-clause-grown g c =
    has_place c.owner_of-owner.result c.owner_of-owner.ensures (omega (arith, c.if-count-lt-MAX_REGION_ITEMS.true, c.count.ensures)) c.place.ensures.regions

pub returns-then-count-lt-MAX_REGION_ITEMS-clause-more : goal.returns-then-count-lt-MAX_REGION_ITEMS-clause-more
returns-then-count-lt-MAX_REGION_ITEMS-clause-more g c = put_items c.args.regions.now.regions c.args.item c.place.new.self.regions c.place.ensures.regions

pub returns-then-count-lt-MAX_REGION_ITEMS-clause-few : goal.returns-then-count-lt-MAX_REGION_ITEMS-clause-few
returns-then-count-lt-MAX_REGION_ITEMS-clause-few g c =
    put_few c.args.regions.now.regions c.args.item c.place.new.self.regions c.place.ensures.regions c.requires.few
    (λ k own.
    let same : k ≡ c.owner_of-owner.result = one_owner (region_prefixes c.args.regions.now.regions) c.args.item.key.bits k c.owner_of-owner.result
    c.len-well_placed.ensures.well_placed.rising own c.owner_of-owner.ensures in
    subst (λ i. length (items_at c.args.regions.now.regions i) < 24) (sym same) (omega (arith, c.if-count-lt-MAX_REGION_ITEMS.true, c.count.ensures)))

pub returns-then-count-lt-MAX_REGION_ITEMS-clause-thin : goal.returns-then-count-lt-MAX_REGION_ITEMS-clause-thin
returns-then-count-lt-MAX_REGION_ITEMS-clause-thin g c =
    grown_none_thin c.args.regions.now.regions c.args.item c.place.new.self.regions
    (has_place c.owner_of-owner.result c.owner_of-owner.ensures (omega (arith, c.if-count-lt-MAX_REGION_ITEMS.true, c.count.ensures)) c.place.ensures.regions)

pub place-requires-2-clause-apart : goal.place-requires-2-clause-apart
place-requires-2-clause-apart g c =
    apart_part c.args.regions.now.regions c.split_for.new.regions.regions c.args.item.key.bits c.requires.apart
    (cut_to c.args.regions.now.regions c.owner_of-owner.result c.in_ok-split_for.ensures.ok.prefix c.split_for.new.regions.regions
    (omega (arith, c.owner_of-owner.ensures.within, length-map c.args.regions.now.regions (λ (r : Region). r.prefix))) c.in_ok-split_for.ensures.ok.cut)

pub place-requires-2-clause-few : goal.place-requires-2-clause-few
place-requires-2-clause-few g c i own =
    let within : c.owner_of-owner.result < length c.args.regions.now.regions =
    omega (arith, c.owner_of-owner.ensures.within, length-map c.args.regions.now.regions (λ (r : Region). r.prefix)) in
    let full : length (items_at c.args.regions.now.regions c.owner_of-owner.result) ≡ 24 =
    omega (arith, c.if-count-lt-MAX_REGION_ITEMS.false, c.count.ensures, c.requires.few c.owner_of-owner.result within) in
    omega (
      arith,
      owner_has_place c.args.regions.now.regions c.owner_of-owner.result c.args.item.key.bits c.split_for.new.regions.regions
          c.len-well_placed.ensures.well_placed within c.owner_of-owner.ensures full c.in_ok-split_for.ensures.ok i own,
    )

pub returns-clause-grown : goal.returns-clause-grown
returns-clause-grown g c =
    splits_first c.owner_of-owner.result c.split_for.new.regions.regions c.owner_of-owner.ensures
    (omega (arith, c.if-count-lt-MAX_REGION_ITEMS.false, c.count.ensures)) c.in_ok-split_for.ensures.ok c.place-2.ensures.regions

pub returns-clause-more : goal.returns-clause-more
returns-clause-more g c =
    let comes : Comes c.args.regions.now.regions c.args.item c.split_for.new.regions.regions c.place-2.new.self.regions =
    comes_after c.args.regions.now.regions c.owner_of-owner.result c.args.item c.split_for.new.regions.regions c.place-2.new.self.regions
    c.len-well_placed.ensures.well_placed (omega (arith, c.owner_of-owner.ensures.within, length-map c.args.regions.now.regions (λ (r : Region). r.prefix)))
    c.owner_of-owner.ensures (omega (arith, c.if-count-lt-MAX_REGION_ITEMS.false, c.count.ensures)) c.requires.few c.in_ok-split_for.ensures.ok
    c.place-2.ensures.regions in
    comes.more

pub returns-clause-few : goal.returns-clause-few
returns-clause-few g c =
    let comes : Comes c.args.regions.now.regions c.args.item c.split_for.new.regions.regions c.place-2.new.self.regions =
    comes_after c.args.regions.now.regions c.owner_of-owner.result c.args.item c.split_for.new.regions.regions c.place-2.new.self.regions
    c.len-well_placed.ensures.well_placed (omega (arith, c.owner_of-owner.ensures.within, length-map c.args.regions.now.regions (λ (r : Region). r.prefix)))
    c.owner_of-owner.ensures (omega (arith, c.if-count-lt-MAX_REGION_ITEMS.false, c.count.ensures)) c.requires.few c.in_ok-split_for.ensures.ok
    c.place-2.ensures.regions in
    comes.few

pub returns-clause-thin : goal.returns-clause-thin
returns-clause-thin g c =
    grown_none_thin c.args.regions.now.regions c.args.item c.place-2.new.self.regions
    (splits_first c.owner_of-owner.result c.split_for.new.regions.regions c.owner_of-owner.ensures
    (omega (arith, c.if-count-lt-MAX_REGION_ITEMS.false, c.count.ensures)) c.in_ok-split_for.ensures.ok c.place-2.ensures.regions)
