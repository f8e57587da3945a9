use Rattle.std.proofs.Common.{◌≡◌, ℕ, ◌+◌, ◌≤◌, Bool, List, sym, ap, ◌∙◌, subst, arith}
use Rattle.std.specs.List.{insert}
use Rattle.std.proofs.lemmas.List.{take_all}
use Rattle.ml_region.specs.Prefixes.{IsPlaceFor, IsLastUpTo}
use Rattle.ml_region.specs.Listing.{Listing, IsNewPrefix, IsNewSlot, IsWithEntry, prefixes_of}
use Rattle.ml_region.specs.inside.Kept.{kept_entries, IsKept}
use Rattle.ml_region.specs.declared.kept.Kept.{Kept}
use Rattle.ml_region.proofs.SortedElements.{kept_insert, entries_insert, new_place}
use Rattle.ml_region.proofs.ListingChanges.{listing_rooted}
use Rattle.ml_region.proofs.sorted_dir.SortedDirDirectory.add.Goals as goal

pub last_up_to-place-requires-clause-rooted : goal.last_up_to-place-requires-clause-rooted
last_up_to-place-requires-clause-rooted c = listing_rooted (kept_entries c.self.inside.kept.items) c.self.invariant.listing

pub invariant_of-self-2 : goal.invariant_of-self-2
invariant_of-self-2 c =
    let items : List Kept = c.self.inside.kept.items in
    let room : ℕ = c.self.inside.room in
    let place : ℕ = c.last_up_to-place.result in
    let bits : List Bool = c.make_room.new.self.bits in
    let k : Kept = record { prefix = c.make_room.new.self; slot = c.args.slot } in
    let entries : kept_entries items ≡ c.args.self.now.entries = ap (λ (v : Listing). v.entries) c.self.view_is in
    let last : IsLastUpTo (prefixes_of (kept_entries items)) bits place =
    subst (λ b. IsLastUpTo (prefixes_of (kept_entries items)) b place)
    (take_all c.len.result bits (omega (arith, c.len.ensures.length))) c.last_up_to-place.ensures in
    let new : IsNewPrefix (kept_entries items) bits =
    subst (λ es. IsNewPrefix es bits) (sym entries) (subst (λ b. IsNewPrefix c.args.self.now.entries b)
    (sym c.in_ok-make_room.ensures.list) c.requires.prefix) in
    let slot : IsNewSlot (kept_entries items) c.args.slot = subst (λ es. IsNewSlot es c.args.slot) (sym entries) c.requires.slot in
    let enough : room ≤ c.make_room.new.self.room = omega (arith, c.in_ok-make_room.ensures.ok) in
    subst (λ xs. IsKept xs room) (sym c.in_ok-insert.ensures.items)
    (kept_insert items room (place + 1) k c.self.invariant (new_place items bits place last new) slot enough)

pub returns-clause-ok : goal.returns-clause-ok
returns-clause-ok c =
    let items : List Kept = c.self.inside.kept.items in
    let place : ℕ = c.last_up_to-place.result in
    let bits : List Bool = c.make_room.new.self.bits in
    let k : Kept = record { prefix = c.make_room.new.self; slot = c.args.slot } in
    let entries : kept_entries items ≡ c.args.self.now.entries = ap (λ (v : Listing). v.entries) c.self.view_is in
    let last : IsLastUpTo (prefixes_of (kept_entries items)) bits place =
    subst (λ b. IsLastUpTo (prefixes_of (kept_entries items)) b place)
    (take_all c.len.result bits (omega (arith, c.len.ensures.length))) c.last_up_to-place.ensures in
    let new : IsNewPrefix (kept_entries items) bits =
    subst (λ es. IsNewPrefix es bits) (sym entries) (subst (λ b. IsNewPrefix c.args.self.now.entries b)
    (sym c.in_ok-make_room.ensures.list) c.requires.prefix) in
    let fits : IsPlaceFor (prefixes_of (kept_entries items)) bits (place + 1) = new_place items bits place last new in
    let same : kept_entries c.insert.new.self.items ≡ insert (kept_entries items) (place + 1) (record { prefix = bits; slot = c.args.slot }) =
    ap kept_entries c.in_ok-insert.ensures.items ∙ entries_insert items (place + 1) k in
    let with_bits : IsWithEntry (kept_entries items) (record { prefix = bits; slot = c.args.slot }) (kept_entries c.insert.new.self.items) =
    record { place = place + 1; fits = fits; same = same } in
    subst (λ es. IsWithEntry es (record { prefix = c.args.prefix.bits; slot = c.args.slot }) (kept_entries c.insert.new.self.items)) entries
    (subst (λ b. IsWithEntry (kept_entries items) (record { prefix = b; slot = c.args.slot }) (kept_entries c.insert.new.self.items))
    c.in_ok-make_room.ensures.list with_bits)
