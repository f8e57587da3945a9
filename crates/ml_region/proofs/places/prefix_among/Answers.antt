use Rattle.std.proofs.Common.{◌≡◌, Bool, List, [], sym, ap, ◌∙◌, take}
use Rattle.std.specs.Prelude.{Contains}
use Rattle.std.proofs.lemmas.List.{get_or_read}
use Rattle.ml_region.specs.Prefixes.{bits_at}
use Rattle.ml_region.specs.Listing.{prefixes_of}
use Rattle.ml_region.proofs.ListingChanges.{listing_rooted}
use Rattle.ml_region.proofs.OwnerSearch.{last_is}
use Rattle.ml_region.proofs.places.prefix_among.Goals as goal

pub last_up_to-place-requires-clause-rooted : goal.last_up_to-place-requires-clause-rooted
last_up_to-place-requires-clause-rooted g c = listing_rooted (g.D.Directory.listing c.args.dir.now).entries c.requires.listing

pub returns : goal.returns
returns g c =
    let ps : List (List Bool) = prefixes_of (g.D.Directory.listing c.args.dir.now).entries in
    let bits : List Bool = take c.args.n c.args.key.now.bits in
    let there : Contains ps bits = c.requires.there in
    let same : bits_at ps there.0 ≡ bits = sym (get_or_read ps there.0 bits there.1 (sym there.2) []) in
    c.in-Some.ensures.prefix.1
    ∙ ap (bits_at ps) (last_is ps bits c.last_up_to-place.result there.0 c.requires.listing.rising c.last_up_to-place.ensures there.1 same)
    ∙ same
