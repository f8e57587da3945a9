use Rattle.std.proofs.Common.{◌≡◌, List, Bool, take, sym, subst, arith, ap, rules}
use Rattle.std.proofs.lemmas.Grind.{common_steps}
use Rattle.std.specs.List.{All}
use Rattle.std.proofs.lemmas.List.{length-map}
use Rattle.ml_bits.specs.BitList.{Begins}
use Rattle.ml_region.specs.Prefixes.{bits_at}
use Rattle.ml_region.specs.Regions.{items_at, keys_at, region_at, keys_of}
use Rattle.ml_region.specs.declared.item.Item.{Item}
use Rattle.ml_split.specs.Splitting.{IsFair, IsSplit, AreApart}
use Rattle.ml_split.proofs.SplitWalk.{is_fair}
use Rattle.ml_split.proofs.RegionKeys.{region_apart, region_begins}
use Rattle.ml_split.proofs.region_split.place_in.Goals as goal

pub split_place-requires-clause-apart : goal.split_place-requires-clause-apart
split_place-requires-clause-apart g c =
    let same : keys_of c.items.result.now ≡ keys_at c.args.regions.now.regions c.args.i = ap keys_of c.items.ensures in
    subst AreApart (sym same) (region_apart c.args.regions.now.regions c.len-well_placed.ensures.well_placed c.args.i c.requires.region)

pub split_place-requires-clause-begin : goal.split_place-requires-clause-begin
split_place-requires-clause-begin g c =
    let same : keys_of c.items.result.now ≡ keys_at c.args.regions.now.regions c.args.i = ap keys_of c.items.ensures in
    subst (All (Begins c.prefix.result.now.bits)) (sym same)
    (subst (λ p. All (Begins p) (keys_at c.args.regions.now.regions c.args.i)) (sym c.prefix.ensures.bits)
    (region_begins c.args.regions.now.regions c.len-well_placed.ensures.well_placed c.args.i c.requires.region))

pub returns : goal.returns
returns g c =
    let same : keys_of c.items.result.now ≡ keys_at c.args.regions.now.regions c.args.i = ap keys_of c.items.ensures in
    let keys : List (List Bool) = keys_at c.args.regions.now.regions c.args.i in
    let new : List Bool = take c.split_place.result.bits (bits_at keys c.split_place.result.key) in
    let fair : IsFair keys (region_at c.args.regions.now.regions c.args.i).prefix new =
    is_fair keys (region_at c.args.regions.now.regions c.args.i).prefix new
    (omega (arith, c.requires.many, length-map (items_at c.args.regions.now.regions c.args.i) (λ (x : Item). x.key.bits)))
    (region_apart c.args.regions.now.regions c.len-well_placed.ensures.well_placed c.args.i c.requires.region)
    (region_begins c.args.regions.now.regions c.len-well_placed.ensures.well_placed c.args.i c.requires.region)
    (subst (λ p. IsSplit keys p new) c.prefix.ensures.bits
    (subst (λ ks. IsSplit ks c.prefix.result.now.bits (take c.split_place.result.bits (bits_at ks c.split_place.result.key))) same
    c.split_place.ensures.split)) in
    record {
      item = first_of (search rules, grind (arith, common_steps));
      longer = first_of (search rules, grind (arith, common_steps));
      within = first_of (search rules, grind (arith, common_steps));
      split = first_of (search rules, grind (arith, common_steps));
      fair = fair;
    }
