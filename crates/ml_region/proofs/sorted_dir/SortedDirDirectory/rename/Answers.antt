use Rattle.std.proofs.Common.{◌≡◌, ℕ, ◌+◌, ◌<◌, ◌≤◌, Bool, List, length, take, sym, ap, ◌∙◌, subst, arith}
use Rattle.std.specs.List.{insert, remove}
use Rattle.ml_region.specs.Prefixes.{AreRooted, IsPlaceFor, IsLastUpTo}
use Rattle.ml_region.specs.Listing.{Listing, IsNewPrefix, IsNewSlot, IsWithEntry, prefixes_of, slot_at}
use Rattle.ml_region.specs.inside.Kept.{kept_entries, IsKept}
use Rattle.ml_region.specs.declared.kept.Kept.{Kept}
use Rattle.ml_region.proofs.ListingChanges.{listing_rooted, new_prefix_remove, new_slot_remove}
use Rattle.ml_region.proofs.SortedElements.{entries_length, kept_slot, kept_insert, kept_remove, entries_insert, entries_remove, new_place}
use Rattle.ml_region.proofs.sorted_dir.SortedDirDirectory.rename.Goals as goal

pub last_up_to-place-requires-clause-rooted : goal.last_up_to-place-requires-clause-rooted
last_up_to-place-requires-clause-rooted c =
    let items : List Kept = c.self.inside.kept.items in
    let entries : kept_entries items ≡ c.args.self.now.entries = ap (λ (v : Listing). v.entries) c.self.view_is in
    let within : c.args.i < length items = omega (arith, entries_length items, ap length entries, c.requires.within) in
    subst (λ xs. AreRooted (prefixes_of (kept_entries xs))) (sym c.remove-renamed.ensures.items)
    (listing_rooted (kept_entries (remove items c.args.i)) (kept_remove items c.self.inside.room c.args.i c.self.invariant c.requires.nested within).listing)

pub invariant_of-self : goal.invariant_of-self
invariant_of-self c =
    let items : List Kept = c.self.inside.kept.items in
    let i : ℕ = c.args.i in
    let room : ℕ = c.self.inside.room in
    let rest : List Kept = remove items i in
    let place : ℕ = c.last_up_to-place.result in
    let bits : List Bool = take c.args.n c.args.from.now.bits in
    let entries : kept_entries items ≡ c.args.self.now.entries = ap (λ (v : Listing). v.entries) c.self.view_is in
    let within : i < length items = omega (arith, entries_length items, ap length entries, c.requires.within) in
    let last : IsLastUpTo (prefixes_of (kept_entries rest)) bits place =
    subst (λ xs. IsLastUpTo (prefixes_of (kept_entries xs)) bits place) c.remove-renamed.ensures.items c.last_up_to-place.ensures in
    let new : IsNewPrefix (kept_entries rest) bits =
    subst (λ es. IsNewPrefix es bits) (sym (entries_remove items i)) (new_prefix_remove (kept_entries items) i bits (omega (arith, entries_length items))
    (subst (λ es. IsNewPrefix es bits) (sym entries) c.requires.prefix)) in
    let slot_is : slot_at (kept_entries items) i ≡ c.remove-renamed.result.slot =
    kept_slot items i c.remove-renamed.result within ∙ ap (λ (k : Kept). k.slot) (sym c.remove-renamed.ensures.value) in
    let slot : IsNewSlot (kept_entries rest) c.remove-renamed.result.slot =
    subst (λ s. IsNewSlot (kept_entries rest) s) slot_is (subst (λ es. IsNewSlot es (slot_at (kept_entries items) i)) (sym (entries_remove items i))
    (new_slot_remove (kept_entries items) i (omega (arith, entries_length items)) c.self.invariant.listing)) in
    let k : Kept = record { prefix = c.set_prefix.new.self; slot = c.remove-renamed.result.slot } in
    let old_room : room ≤ c.remove-renamed.result.prefix.room =
    subst (λ (k : Kept). room ≤ k.prefix.room) (sym c.remove-renamed.ensures.value) (c.self.invariant.rooms i c.remove-renamed.result within) in
    let enough : room ≤ c.set_prefix.new.self.room = omega (arith, c.set_prefix.ensures.room) in
    let fits : IsPlaceFor (prefixes_of (kept_entries rest)) c.set_prefix.new.self.bits (place + 1) =
    subst (λ b. IsPlaceFor (prefixes_of (kept_entries rest)) b (place + 1)) (sym c.set_prefix.ensures.list) (new_place rest bits place last new) in
    subst (λ xs. IsKept xs room) (sym (c.in-Ok.ensures.items ∙ ap (λ xs. insert xs (place + 1) k) c.remove-renamed.ensures.items))
    (kept_insert rest room (place + 1) k (kept_remove items room i c.self.invariant c.requires.nested within) fits slot enough)

pub returns-clause-entries : goal.returns-clause-entries
returns-clause-entries c =
    let items : List Kept = c.self.inside.kept.items in
    let i : ℕ = c.args.i in
    let rest : List Kept = remove items i in
    let place : ℕ = c.last_up_to-place.result in
    let bits : List Bool = take c.args.n c.args.from.now.bits in
    let entries : kept_entries items ≡ c.args.self.now.entries = ap (λ (v : Listing). v.entries) c.self.view_is in
    let within : i < length items = omega (arith, entries_length items, ap length entries, c.requires.within) in
    let last : IsLastUpTo (prefixes_of (kept_entries rest)) bits place =
    subst (λ xs. IsLastUpTo (prefixes_of (kept_entries xs)) bits place) c.remove-renamed.ensures.items c.last_up_to-place.ensures in
    let new : IsNewPrefix (kept_entries rest) bits =
    subst (λ es. IsNewPrefix es bits) (sym (entries_remove items i)) (new_prefix_remove (kept_entries items) i bits (omega (arith, entries_length items))
    (subst (λ es. IsNewPrefix es bits) (sym entries) c.requires.prefix)) in
    let slot_is : slot_at (kept_entries items) i ≡ c.remove-renamed.result.slot =
    kept_slot items i c.remove-renamed.result within ∙ ap (λ (k : Kept). k.slot) (sym c.remove-renamed.ensures.value) in
    let k : Kept = record { prefix = c.set_prefix.new.self; slot = c.remove-renamed.result.slot } in
    let same : kept_entries c.insert.new.self.items ≡ insert (kept_entries rest) (place + 1) (record { prefix = bits; slot = slot_at (kept_entries items) i }) =
    ap kept_entries (c.in-Ok.ensures.items ∙ ap (λ xs. insert xs (place + 1) k) c.remove-renamed.ensures.items)
    ∙ entries_insert rest (place + 1) k
    ∙ ap (λ b. insert (kept_entries rest) (place + 1) (record { prefix = b; slot = c.remove-renamed.result.slot })) c.set_prefix.ensures.list
    ∙ ap (λ s. insert (kept_entries rest) (place + 1) (record { prefix = bits; slot = s })) (sym slot_is) in
    let whole : IsWithEntry (kept_entries rest) (record { prefix = bits; slot = slot_at (kept_entries items) i }) (kept_entries c.insert.new.self.items) =
    record { place = place + 1; fits = new_place rest bits place last new; same = same } in
    subst (λ es. IsWithEntry (remove es i) (record { prefix = bits; slot = slot_at es i }) (kept_entries c.insert.new.self.items)) entries
    (subst (λ es. IsWithEntry es (record { prefix = bits; slot = slot_at (kept_entries items) i }) (kept_entries c.insert.new.self.items))
    (entries_remove items i) whole)
