use Rattle.std.proofs.Common.{◌≡◌, ◌∙◌, List, [], get_or, take, Bool, arith, sym, ap, subst}
use Rattle.std.specs.List.{All}
use Rattle.std.proofs.lemmas.Result.{IfOk-weaker}
use Rattle.std.specs.Option.{option_copied}
use Rattle.ml_bits.specs.BitList.{Begins, BitList, list_of_bits}
use Rattle.ml_region.specs.Regions.{keys_at, region_at, keys_of}
use Rattle.ml_region.specs.Prefixes.{bits_at}
use Rattle.ml_split.specs.Splitting.{IsFair, IsSplit, AreApart}
use Rattle.ml_split.specs.RegionSplits.{keys_with}
use Rattle.ml_split.proofs.SplitWalk.{is_fair}
use Rattle.ml_split.proofs.RegionKeys.{further_apart, further_begins}
use Rattle.ml_split.proofs.region_split.split_prefix.Goals as goal

pub split_place-place-requires-clause-apart : goal.split_place-place-requires-clause-apart
split_place-place-requires-clause-apart g c =
    let same : keys_with (keys_of c.items.result.now) (option_copied c.args.extra)
    ≡ keys_with (keys_at c.args.regions.now.regions c.args.i) (option_copied c.args.extra) =
    ap (λ xs. keys_with (keys_of xs) (option_copied c.args.extra)) c.items.ensures in
    subst AreApart (sym same) (further_apart c.args.regions.now.regions c.len-well_placed.ensures.well_placed c.args.i c.requires.region
    (option_copied c.args.extra) c.requires.new)

pub split_place-place-requires-clause-begin : goal.split_place-place-requires-clause-begin
split_place-place-requires-clause-begin g c =
    let same : keys_with (keys_of c.items.result.now) (option_copied c.args.extra)
    ≡ keys_with (keys_at c.args.regions.now.regions c.args.i) (option_copied c.args.extra) =
    ap (λ xs. keys_with (keys_of xs) (option_copied c.args.extra)) c.items.ensures in
    subst (All (Begins c.prefix.result.now.bits)) (sym same)
    (subst (λ p. All (Begins p) (keys_with (keys_at c.args.regions.now.regions c.args.i) (option_copied c.args.extra))) (sym c.prefix.ensures.bits)
    (further_begins c.args.regions.now.regions c.len-well_placed.ensures.well_placed c.args.i c.requires.region (option_copied c.args.extra) c.requires.new))

pub returns-clause-fair : goal.returns-clause-fair
returns-clause-fair g c =
    let same : keys_with (keys_of c.items.result.now) (option_copied c.args.extra)
    ≡ keys_with (keys_at c.args.regions.now.regions c.args.i) (option_copied c.args.extra) =
    ap (λ xs. keys_with (keys_of xs) (option_copied c.args.extra)) c.items.ensures in
    let regions = c.args.regions.now.regions in
    let keys : List (List Bool) = keys_with (keys_at regions c.args.i) (option_copied c.args.extra) in
    let old : List Bool = (region_at regions c.args.i).prefix in
    let bits = c.split_place-place.result.bits in
    let found : IsSplit keys old (take bits (get_or keys c.split_place-place.result.key [])) =
    subst (λ p. IsSplit keys p (take bits (get_or keys c.split_place-place.result.key []))) c.prefix.ensures.bits
    (subst (λ ks. IsSplit ks c.prefix.result.now.bits (take c.split_place-place.result.bits (bits_at ks c.split_place-place.result.key))) same
    c.split_place-place.ensures.split) in
    let here : IsSplit keys old (take bits c.key.result.now.bits) =
    subst (λ k. IsSplit keys old (take bits k)) (sym (c.key.ensures ∙ ap (λ ks. bits_at ks c.split_place-place.result.key) same)) found in
    let all : All (Begins old) keys = further_begins regions c.len-well_placed.ensures.well_placed c.args.i c.requires.region
    (option_copied c.args.extra) c.requires.new in
    IfOk-weaker c.prefix-2.result (λ front. front ≡ list_of_bits (take bits c.key.result.now.bits)) (λ new. IsFair keys old new.bits)
    (λ new e.
    let same : new.bits ≡ take bits c.key.result.now.bits = ap (λ (b : BitList). b.bits) e in
    is_fair keys old new.bits (omega (arith, c.requires.many))
    (further_apart regions c.len-well_placed.ensures.well_placed c.args.i c.requires.region (option_copied c.args.extra) c.requires.new) all
    (subst (IsSplit keys old) (sym same) here))
    c.prefix-2.ensures
