use Rattle.std.proofs.Common.{◌≡◌, ℕ, ◌-◌, ◌<◌, Bool, true, false, List, length, take, sym, ap, ◌∙◌, subst, arith}
use Rattle.ml_region.specs.Prefixes.{IsOwner}
use Rattle.ml_region.specs.Listing.{Listing, IsSlotOfParent, prefixes_of, slot_at}
use Rattle.ml_region.specs.inside.Kept.{kept_entries}
use Rattle.ml_region.specs.declared.kept.Kept.{Kept}
use Rattle.ml_region.proofs.OwnerSearch.{parent_from_owner, some_length}
use Rattle.ml_region.proofs.SortedElements.{kept_length, kept_slot}
use Rattle.ml_region.proofs.ListingChanges.{listing_rooted}
use Rattle.ml_region.proofs.sorted_dir.SortedDirDirectory.parent.Goals as goal

pub owner_within-i-requires-clause-rooted : goal.owner_within-i-requires-clause-rooted
owner_within-i-requires-clause-rooted c = listing_rooted (kept_entries c.self.inside.kept.items) c.self.invariant.listing

pub returns : goal.returns
returns c =
    let items : List Kept = c.self.inside.kept.items in
    let prefix : List Bool = c.args.prefix.now.bits in
    let i : ℕ = c.owner_within-i.result in
    let entries : kept_entries items ≡ c.args.self.now.entries = ap (λ (v : Listing). v.entries) c.self.view_is in
    let some : 0 < length prefix = some_length prefix (λ e. let t : c.is_empty.result ≡ true = c.is_empty.ensures.1 e in
    let f : true ≡ false = sym t ∙ c.if-is_empty.false in cc) in
    let own : IsOwner (prefixes_of (kept_entries items)) (take (length prefix - 1) prefix) i =
    subst (λ n. IsOwner (prefixes_of (kept_entries items)) (take (n - 1) prefix) i) c.len.ensures.length c.owner_within-i.ensures in
    let inside : i < length items = omega (arith, own.within, kept_length items) in
    let same : c.index.result.now.slot ≡ slot_at (kept_entries items) i =
    ap (λ (k : Kept). k.slot) c.index.ensures ∙ sym (kept_slot items i c.index.result.now inside) in
    subst (λ es. IsSlotOfParent es prefix c.index.result.now.slot) entries
    (record { place = i; parent = parent_from_owner (prefixes_of (kept_entries items)) prefix i some own; same = same })
