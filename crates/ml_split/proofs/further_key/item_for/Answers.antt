use Rattle.std.proofs.Common.{◌≡◌, ◌<◌, ◌++◌, ◌∷◌, [], length, take, sym, ◌∙◌, subst, arith, ap, rules}
use Rattle.std.proofs.lemmas.Grind.{common_steps}
use Rattle.std.specs.List.{All}
use Rattle.std.proofs.lemmas.List.{length-map}
use Rattle.ml_bits.specs.BitList.{Begins}
use Rattle.ml_region.specs.Prefixes.{bits_at}
use Rattle.ml_region.specs.Regions.{keys_at, items_at, region_at, keys_of}
use Rattle.ml_region.specs.declared.item.Item.{Item}
use Rattle.ml_split.specs.Splitting.{AreApart, IsFair, IsSplit}
use Rattle.ml_split.proofs.RegionKeys.{others_under}
use Rattle.ml_split.proofs.FurtherKey.{with_apart, with_begins, with_fair, item_key_of, further_key_of}
use Rattle.ml_split.proofs.further_key.item_for.Goals as goal

pub split_place-place-requires-clause-apart : goal.split_place-place-requires-clause-apart
split_place-place-requires-clause-apart g c =
    let same : keys_of c.items.result.now ++ c.args.key.now.bits ∷ [] ≡ keys_at c.args.regions.now.regions c.args.i ++ c.args.key.now.bits ∷ [] =
    ap (λ xs. keys_of xs ++ c.args.key.now.bits ∷ []) c.items.ensures in
    subst AreApart (sym same) (with_apart c.args.regions.now.regions c.len-well_placed.ensures.well_placed c.args.i c.requires.region c.args.key.now
    c.requires.new)

pub split_place-place-requires-clause-begin : goal.split_place-place-requires-clause-begin
split_place-place-requires-clause-begin g c =
    let same : keys_of c.items.result.now ++ c.args.key.now.bits ∷ [] ≡ keys_at c.args.regions.now.regions c.args.i ++ c.args.key.now.bits ∷ [] =
    ap (λ xs. keys_of xs ++ c.args.key.now.bits ∷ []) c.items.ensures in
    subst (All (Begins c.prefix.result.now.bits)) (sym same)
    (subst (λ p. All (Begins p) (keys_at c.args.regions.now.regions c.args.i ++ c.args.key.now.bits ∷ [])) (sym c.prefix.ensures.bits)
    (with_begins c.args.regions.now.regions c.len-well_placed.ensures.well_placed c.args.i c.requires.region c.args.key.now c.requires.new))

pub returns-then-place-count : goal.returns-then-place-count
returns-then-place-count g c =
    let same : keys_of c.items.result.now ++ c.args.key.now.bits ∷ [] ≡ keys_at c.args.regions.now.regions c.args.i ++ c.args.key.now.bits ∷ [] =
    ap (λ xs. keys_of xs ++ c.args.key.now.bits ∷ []) c.items.ensures in
    let fair : IsFair (keys_at c.args.regions.now.regions c.args.i ++ c.args.key.now.bits ∷ []) (region_at c.args.regions.now.regions c.args.i).prefix
    (take c.split_place-place.result.bits (bits_at (keys_at c.args.regions.now.regions c.args.i) c.split_place-place.result.key)) =
    with_fair c.args.regions.now.regions c.len-well_placed.ensures.well_placed c.args.i c.requires.region c.args.key.now c.requires.new c.requires.many
    c.prefix.result.now.bits (take c.split_place-place.result.bits
    (bits_at (keys_at c.args.regions.now.regions c.args.i ++ c.args.key.now.bits ∷ []) c.split_place-place.result.key))
    (take c.split_place-place.result.bits (bits_at (keys_at c.args.regions.now.regions c.args.i) c.split_place-place.result.key)) c.prefix.ensures.bits
    (item_key_of c.args.regions.now.regions c.args.i c.split_place-place.result.key c.split_place-place.result.bits c.args.key.now.bits
    (omega (arith, c.if-place-count.true, c.count.ensures)))
    (subst (λ ks. IsSplit ks c.prefix.result.now.bits (take c.split_place-place.result.bits (bits_at ks c.split_place-place.result.key))) same
    c.split_place-place.ensures.split) in
    record {
      item = first_of (search rules, grind (arith, common_steps));
      longer = first_of (search rules, grind (arith, common_steps));
      within = first_of (search rules, grind (arith, common_steps));
      split = first_of (search rules, grind (arith, common_steps));
      fair = fair;
    }

pub item_below-requires-clause-some : goal.item_below-requires-clause-some
item_below-requires-clause-some g c =
    let same : keys_of c.items.result.now ++ c.args.key.now.bits ∷ [] ≡ keys_at c.args.regions.now.regions c.args.i ++ c.args.key.now.bits ∷ [] =
    ap (λ xs. keys_of xs ++ c.args.key.now.bits ∷ []) c.items.ensures in
    others_under (keys_at c.args.regions.now.regions c.args.i) c.args.key.now.bits (region_at c.args.regions.now.regions c.args.i).prefix
    (take c.split_place-place.result.bits c.args.key.now.bits)
    (omega (arith, c.requires.many, length-map (items_at c.args.regions.now.regions c.args.i) (λ (x : Item). x.key.bits)))
    (with_fair c.args.regions.now.regions c.len-well_placed.ensures.well_placed c.args.i c.requires.region c.args.key.now c.requires.new c.requires.many
    c.prefix.result.now.bits (take c.split_place-place.result.bits
    (bits_at (keys_at c.args.regions.now.regions c.args.i ++ c.args.key.now.bits ∷ []) c.split_place-place.result.key))
    (take c.split_place-place.result.bits c.args.key.now.bits) c.prefix.ensures.bits
    (further_key_of c.args.regions.now.regions c.args.i c.split_place-place.result.key c.count.result c.split_place-place.result.bits c.args.key.now.bits
    c.count.ensures c.if-place-count.false (subst (λ ks. c.split_place-place.result.key < length ks) same c.split_place-place.ensures.place))
    (subst (λ ks. IsSplit ks c.prefix.result.now.bits (take c.split_place-place.result.bits (bits_at ks c.split_place-place.result.key))) same
    c.split_place-place.ensures.split))

pub returns : goal.returns
returns g c =
    let same : keys_of c.items.result.now ++ c.args.key.now.bits ∷ [] ≡ keys_at c.args.regions.now.regions c.args.i ++ c.args.key.now.bits ∷ [] =
    ap (λ xs. keys_of xs ++ c.args.key.now.bits ∷ []) c.items.ensures in
    let fair : IsFair (keys_at c.args.regions.now.regions c.args.i ++ c.args.key.now.bits ∷ []) (region_at c.args.regions.now.regions c.args.i).prefix
    (take c.split_place-place.result.bits (bits_at (keys_at c.args.regions.now.regions c.args.i) c.item_below.result)) =
    with_fair c.args.regions.now.regions c.len-well_placed.ensures.well_placed c.args.i c.requires.region c.args.key.now c.requires.new c.requires.many
    c.prefix.result.now.bits (take c.split_place-place.result.bits
    (bits_at (keys_at c.args.regions.now.regions c.args.i ++ c.args.key.now.bits ∷ []) c.split_place-place.result.key))
    (take c.split_place-place.result.bits (bits_at (keys_at c.args.regions.now.regions c.args.i) c.item_below.result)) c.prefix.ensures.bits
    ((further_key_of c.args.regions.now.regions c.args.i c.split_place-place.result.key c.count.result c.split_place-place.result.bits c.args.key.now.bits
    c.count.ensures c.if-place-count.false (subst (λ ks. c.split_place-place.result.key < length ks) same c.split_place-place.ensures.place))
    ∙ sym c.item_below.ensures.begins)
    (subst (λ ks. IsSplit ks c.prefix.result.now.bits (take c.split_place-place.result.bits (bits_at ks c.split_place-place.result.key))) same
    c.split_place-place.ensures.split) in
    record {
      item = first_of (search rules, grind (arith, common_steps));
      longer = first_of (search rules, grind (arith, common_steps));
      within = first_of (search rules, grind (arith, common_steps));
      split = first_of (search rules, grind (arith, common_steps));
      fair = fair;
    }
