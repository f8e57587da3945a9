use Rattle.std.proofs.Common.{◌≡◌, ℕ, List, length, sym, ap, ◌∙◌, subst, arith}
use Rattle.ml_region.specs.Listing.{IsListing}
use Rattle.ml_region.specs.inside.Kept.{kept_entries, HaveRoom, IsKept}
use Rattle.ml_region.specs.declared.kept.Kept.{Kept}
use Rattle.ml_region.proofs.SortedElements.{entries_length, whole_back}
use Rattle.ml_region.proofs.sorted_dir.SortedDirDirectory.make_room.Goals as goal

pub invariant_of-self : goal.invariant_of-self
invariant_of-self c =
    let items : List Kept = c.self.inside.kept.items in
    let room : ℕ = c.self.inside.room in
    let new : List Kept = c.give_room.new.kept in
    let same : kept_entries new ≡ kept_entries items = c.give_room.ensures.entries ∙ ap kept_entries c.deref_mut.ensures.value in
    let rooms : HaveRoom room new = c.give_room.ensures.rooms room (subst (HaveRoom room) (sym c.deref_mut.ensures.value) c.self.invariant.rooms) in
    let long : length new ≡ length items = sym (entries_length new) ∙ ap length same ∙ entries_length items in
    let len : c.self.inside.kept.len ≡ length items = omega (arith, c.self.inside.kept.ok.0) in
    subst (λ xs. IsKept xs room) (sym (whole_back new items c.self.inside.kept.len long len))
    (record { listing = subst IsListing (sym same) c.self.invariant.listing; rooms = rooms })
