use Rattle.std.proofs.Common.{◌≡◌, ℕ, ◌<◌, List, length, sym, ap, ◌∙◌, subst, arith}
use Rattle.ml_region.specs.Listing.{Listing, IsPrefixOfSlot, prefix_at, slot_at}
use Rattle.ml_region.specs.inside.Kept.{kept_entries}
use Rattle.ml_region.specs.declared.kept.Kept.{Kept}
use Rattle.ml_region.proofs.SortedElements.{entries_length, kept_prefix}
use Rattle.ml_region.proofs.sorted_dir.SortedDirDirectory.prefix_of.Goals as goal

pub returns : goal.returns
returns c =
    let items : List Kept = c.self.inside.kept.items in
    let place : ℕ = c.place_of_slot-i.result in
    let entries : kept_entries items ≡ c.args.self.now.entries = ap (λ (v : Listing). v.entries) c.self.view_is in
    let inside : place < length items = subst (λ xs. place < length xs) c.deref.ensures.value c.place_of_slot-i.ensures.within in
    let slot : slot_at (kept_entries items) place ≡ c.args.slot =
    subst (λ xs. slot_at (kept_entries xs) place ≡ c.args.slot) c.deref.ensures.value c.place_of_slot-i.ensures.same in
    let bits : c.index.result.now.prefix.bits ≡ prefix_at (kept_entries items) place =
    ap (λ (k : Kept). k.prefix.bits) c.index.ensures ∙ sym (kept_prefix items place c.index.result.now inside) in
    let all : IsPrefixOfSlot (kept_entries items) c.args.slot c.index.result.now.prefix.bits = λ i h e.
    let same : place ≡ i = c.self.invariant.listing.apart place i (omega (arith, entries_length items)) h (slot ∙ sym e) in
    bits ∙ ap (prefix_at (kept_entries items)) same in
    subst (λ es. IsPrefixOfSlot es c.args.slot c.index.result.now.prefix.bits) entries all
