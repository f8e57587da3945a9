use Rattle.std.proofs.Common.{◌≡◌, ℕ, ◌<◌, Bool, List, length, sym, ap, ◌∙◌, subst, arith}
use Rattle.std.proofs.lemmas.List.{take_all}
use Rattle.ml_region.specs.Prefixes.{IsOwner}
use Rattle.ml_region.specs.Listing.{Listing, IsSlotOfOwner, prefixes_of, slot_at}
use Rattle.ml_region.specs.inside.Kept.{kept_entries}
use Rattle.ml_region.specs.declared.kept.Kept.{Kept}
use Rattle.ml_region.proofs.SortedElements.{kept_length, kept_slot}
use Rattle.ml_region.proofs.ListingChanges.{listing_rooted}
use Rattle.ml_region.proofs.sorted_dir.SortedDirDirectory.owner.Goals as goal

pub owner_within-i-requires-clause-rooted : goal.owner_within-i-requires-clause-rooted
owner_within-i-requires-clause-rooted c = listing_rooted (kept_entries c.self.inside.kept.items) c.self.invariant.listing

pub returns : goal.returns
returns c =
    let items : List Kept = c.self.inside.kept.items in
    let key : List Bool = c.args.key.now.bits in
    let i : ℕ = c.owner_within-i.result in
    let entries : kept_entries items ≡ c.args.self.now.entries = ap (λ (v : Listing). v.entries) c.self.view_is in
    let own : IsOwner (prefixes_of (kept_entries items)) key i =
    subst (λ k. IsOwner (prefixes_of (kept_entries items)) k i) (take_all c.len.result key (omega (arith, c.len.ensures.length))) c.owner_within-i.ensures in
    let inside : i < length items = omega (arith, own.within, kept_length items) in
    let same : c.index.result.now.slot ≡ slot_at (kept_entries items) i =
    ap (λ (k : Kept). k.slot) c.index.ensures ∙ sym (kept_slot items i c.index.result.now inside) in
    subst (λ es. IsSlotOfOwner es key c.index.result.now.slot) entries (record { place = i; owner = own; same = same })
