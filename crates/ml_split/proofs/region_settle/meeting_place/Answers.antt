use Rattle.std.proofs.Common.{◌≡◌, ◌-◌, ◌++◌, take, sym, subst, arith, ap, ◌∙◌, rules}
use Rattle.std.proofs.lemmas.Grind.{common_steps}
use Rattle.std.specs.List.{All}
use Rattle.ml_bits.specs.BitList.{Begins}
use Rattle.ml_region.specs.Prefixes.{bits_at}
use Rattle.ml_region.specs.Regions.{keys_at, keys_of, region_at}
use Rattle.ml_split.specs.Splitting.{AreApart, IsFair, IsSplit}
use Rattle.ml_split.proofs.RegionKeys.{meeting_apart, meeting_begins}
use Rattle.ml_split.proofs.MeetingRegions.{meeting_fair, first_key, second_key, new_prefix}
use Rattle.ml_split.proofs.region_settle.meeting_place.Goals as goal

pub split_place-place-requires-clause-apart : goal.split_place-place-requires-clause-apart
split_place-place-requires-clause-apart g c =
    let same : keys_of c.items.result.now ++ keys_of c.items-2.result.now ≡ keys_at c.args.regions.now.regions c.args.i
    ++ keys_at c.args.regions.now.regions c.args.parent =
    ap (λ xs. keys_of xs ++ keys_of c.items-2.result.now) c.items.ensures
    ∙ ap (λ xs. keys_at c.args.regions.now.regions c.args.i ++ keys_of xs) c.items-2.ensures in
    subst AreApart (sym same) (meeting_apart c.args.regions.now.regions c.len-well_placed.ensures.well_placed c.args.i c.args.parent c.requires.region
    c.requires.parent)

pub split_place-place-requires-clause-begin : goal.split_place-place-requires-clause-begin
split_place-place-requires-clause-begin g c =
    let same : keys_of c.items.result.now ++ keys_of c.items-2.result.now ≡ keys_at c.args.regions.now.regions c.args.i
    ++ keys_at c.args.regions.now.regions c.args.parent =
    ap (λ xs. keys_of xs ++ keys_of c.items-2.result.now) c.items.ensures
    ∙ ap (λ xs. keys_at c.args.regions.now.regions c.args.i ++ keys_of xs) c.items-2.ensures in
    subst (All (Begins c.prefix.result.now.bits)) (sym same)
    (subst (λ p. All (Begins p) (keys_at c.args.regions.now.regions c.args.i ++ keys_at c.args.regions.now.regions c.args.parent)) (sym c.prefix.ensures.bits)
    (meeting_begins c.args.regions.now.regions c.len-well_placed.ensures.well_placed c.args.i c.args.parent c.requires.region c.requires.parent))

pub returns-then-place-own-clause-place : goal.returns-then-place-own-clause-place
returns-then-place-own-clause-place g c =
    let same : keys_of c.items.result.now ++ keys_of c.items-2.result.now ≡ keys_at c.args.regions.now.regions c.args.i
    ++ keys_at c.args.regions.now.regions c.args.parent =
    ap (λ xs. keys_of xs ++ keys_of c.items-2.result.now) c.items.ensures
    ∙ ap (λ xs. keys_at c.args.regions.now.regions c.args.i ++ keys_of xs) c.items-2.ensures in
    let fair : IsFair (keys_at c.args.regions.now.regions c.args.i ++ keys_at c.args.regions.now.regions c.args.parent)
    (region_at c.args.regions.now.regions c.args.parent).prefix
    (take c.split_place-place.result.bits (bits_at (keys_at c.args.regions.now.regions c.args.i) c.split_place-place.result.key)) =
    meeting_fair c.args.regions.now.regions c.len-well_placed.ensures.well_placed c.args.i c.args.parent c.requires.region c.requires.parent c.requires.many
    c.prefix.result.now.bits (take c.split_place-place.result.bits
    (bits_at (keys_at c.args.regions.now.regions c.args.i ++ keys_at c.args.regions.now.regions c.args.parent) c.split_place-place.result.key))
    (take c.split_place-place.result.bits (bits_at (keys_at c.args.regions.now.regions c.args.i) c.split_place-place.result.key))
    c.prefix.ensures.bits (first_key c.args.regions.now.regions c.args.i c.args.parent c.split_place-place.result.key c.split_place-place.result.bits
    (omega (arith, c.count-own.ensures))) (subst (λ ks. IsSplit ks c.prefix.result.now.bits
    (take c.split_place-place.result.bits (bits_at ks c.split_place-place.result.key))) same c.split_place-place.ensures.split) in
    record {
      item = first_of (search rules, grind (arith, common_steps));
      longer = first_of (search rules, grind (arith, common_steps));
      within = first_of (search rules, grind (arith, common_steps));
      split = first_of (search rules, grind (arith, common_steps));
      fair = fair;
    }

pub returns-then-place-own-clause-new : goal.returns-then-place-own-clause-new
returns-then-place-own-clause-new g c =
    let same : keys_of c.items.result.now ++ keys_of c.items-2.result.now ≡ keys_at c.args.regions.now.regions c.args.i
    ++ keys_at c.args.regions.now.regions c.args.parent =
    ap (λ xs. keys_of xs ++ keys_of c.items-2.result.now) c.items.ensures
    ∙ ap (λ xs. keys_at c.args.regions.now.regions c.args.i ++ keys_of xs) c.items-2.ensures in
    new_prefix c.args.regions.now.regions c.len-well_placed.ensures.well_placed c.args.i c.args.parent c.requires.region c.requires.parent c.requires.thin
    c.requires.many
    (take c.split_place-place.result.bits (bits_at (keys_at c.args.regions.now.regions c.args.i) c.split_place-place.result.key))
    (meeting_fair c.args.regions.now.regions c.len-well_placed.ensures.well_placed c.args.i c.args.parent c.requires.region c.requires.parent c.requires.many
    c.prefix.result.now.bits (take c.split_place-place.result.bits
    (bits_at (keys_at c.args.regions.now.regions c.args.i ++ keys_at c.args.regions.now.regions c.args.parent) c.split_place-place.result.key))
    (take c.split_place-place.result.bits (bits_at (keys_at c.args.regions.now.regions c.args.i) c.split_place-place.result.key))
    c.prefix.ensures.bits (first_key c.args.regions.now.regions c.args.i c.args.parent c.split_place-place.result.key c.split_place-place.result.bits
    (omega (arith, c.count-own.ensures))) (subst (λ ks. IsSplit ks c.prefix.result.now.bits
    (take c.split_place-place.result.bits (bits_at ks c.split_place-place.result.key))) same c.split_place-place.ensures.split))

pub returns-else-place-own-clause-place : goal.returns-else-place-own-clause-place
returns-else-place-own-clause-place g c =
    let same : keys_of c.items.result.now ++ keys_of c.items-2.result.now ≡ keys_at c.args.regions.now.regions c.args.i
    ++ keys_at c.args.regions.now.regions c.args.parent =
    ap (λ xs. keys_of xs ++ keys_of c.items-2.result.now) c.items.ensures
    ∙ ap (λ xs. keys_at c.args.regions.now.regions c.args.i ++ keys_of xs) c.items-2.ensures in
    let fair : IsFair (keys_at c.args.regions.now.regions c.args.i ++ keys_at c.args.regions.now.regions c.args.parent)
    (region_at c.args.regions.now.regions c.args.parent).prefix
    (take c.split_place-place.result.bits (bits_at (keys_at c.args.regions.now.regions c.args.parent) (c.split_place-place.result.key - c.count-own.result))) =
    meeting_fair c.args.regions.now.regions c.len-well_placed.ensures.well_placed c.args.i c.args.parent c.requires.region c.requires.parent c.requires.many
    c.prefix.result.now.bits (take c.split_place-place.result.bits
    (bits_at (keys_at c.args.regions.now.regions c.args.i ++ keys_at c.args.regions.now.regions c.args.parent) c.split_place-place.result.key))
    (take c.split_place-place.result.bits (bits_at (keys_at c.args.regions.now.regions c.args.parent) (c.split_place-place.result.key - c.count-own.result)))
    c.prefix.ensures.bits (second_key c.args.regions.now.regions c.args.i c.args.parent c.split_place-place.result.key c.count-own.result
    c.split_place-place.result.bits c.count-own.ensures c.if-place-own.false)
    (subst (λ ks. IsSplit ks c.prefix.result.now.bits (take c.split_place-place.result.bits (bits_at ks c.split_place-place.result.key))) same
    c.split_place-place.ensures.split) in
    record {
      item = first_of (search rules, grind (arith, common_steps));
      longer = first_of (search rules, grind (arith, common_steps));
      within = first_of (search rules, grind (arith, common_steps));
      split = first_of (search rules, grind (arith, common_steps));
      fair = fair;
    }

pub returns-else-place-own-clause-new : goal.returns-else-place-own-clause-new
returns-else-place-own-clause-new g c =
    let same : keys_of c.items.result.now ++ keys_of c.items-2.result.now ≡ keys_at c.args.regions.now.regions c.args.i
    ++ keys_at c.args.regions.now.regions c.args.parent =
    ap (λ xs. keys_of xs ++ keys_of c.items-2.result.now) c.items.ensures
    ∙ ap (λ xs. keys_at c.args.regions.now.regions c.args.i ++ keys_of xs) c.items-2.ensures in
    new_prefix c.args.regions.now.regions c.len-well_placed.ensures.well_placed c.args.i c.args.parent c.requires.region c.requires.parent c.requires.thin
    c.requires.many
    (take c.split_place-place.result.bits (bits_at (keys_at c.args.regions.now.regions c.args.parent) (c.split_place-place.result.key - c.count-own.result)))
    (meeting_fair c.args.regions.now.regions c.len-well_placed.ensures.well_placed c.args.i c.args.parent c.requires.region c.requires.parent c.requires.many
    c.prefix.result.now.bits (take c.split_place-place.result.bits
    (bits_at (keys_at c.args.regions.now.regions c.args.i ++ keys_at c.args.regions.now.regions c.args.parent) c.split_place-place.result.key))
    (take c.split_place-place.result.bits (bits_at (keys_at c.args.regions.now.regions c.args.parent) (c.split_place-place.result.key - c.count-own.result)))
    c.prefix.ensures.bits (second_key c.args.regions.now.regions c.args.i c.args.parent c.split_place-place.result.key c.count-own.result
    c.split_place-place.result.bits c.count-own.ensures c.if-place-own.false)
    (subst (λ ks. IsSplit ks c.prefix.result.now.bits (take c.split_place-place.result.bits (bits_at ks c.split_place-place.result.key))) same
    c.split_place-place.ensures.split))
