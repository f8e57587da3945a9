use Rattle.std.proofs.Common.{◌≡◌, ℕ, ◌<◌, length, ap, subst, ◌∙◌, arith}
use Rattle.ml_region.specs.Prefixes.{IsOwner}
use Rattle.ml_region.specs.Listing.{prefixes_of, prefix_at, slot_at}
use Rattle.ml_region.proofs.ListingChanges.{prefixes_length}
use Rattle.ml_region.proofs.OwnerSearch.{owns_itself, one_owner}
use Rattle.ml_region.proofs.places.slot_of.Goals as goal

pub returns : goal.returns
returns g c =
    let entries = (g.D.Directory.listing c.args.dir.now).entries in
    let i : ℕ = c.args.i in
    let h : i < length (prefixes_of entries) = omega (arith, prefixes_length entries, c.requires.within) in
    let owner : IsOwner (prefixes_of entries) (prefix_at entries i) c.owner.ensures.place =
    subst (λ k. IsOwner (prefixes_of entries) k c.owner.ensures.place) c.in-Some.ensures.prefix.1 c.owner.ensures.owner in
    let same : c.owner.ensures.place ≡ i = one_owner (prefixes_of entries) (prefix_at entries i) c.owner.ensures.place i c.requires.listing.rising owner
    (owns_itself (prefixes_of entries) i h) in
    c.owner.ensures.same ∙ ap (slot_at entries) same
