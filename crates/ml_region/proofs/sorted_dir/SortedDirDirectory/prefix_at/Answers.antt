use Rattle.std.proofs.Common.{◌≡◌, ℕ, ◌<◌, ◌≤◌, List, length, sym, ap, ◌∙◌, subst, arith}
use Rattle.ml_region.specs.Listing.{Listing, IsListing, prefix_at}
use Rattle.ml_region.specs.inside.Kept.{kept_entries}
use Rattle.ml_region.specs.declared.kept.Kept.{Kept}
use Rattle.ml_region.proofs.SortedElements.{entries_length, kept_prefix}
use Rattle.ml_region.proofs.sorted_dir.SortedDirDirectory.prefix_at.Goals as goal

pub returns-then-i-len-clause-prefix : goal.returns-then-i-len-clause-prefix
returns-then-i-len-clause-prefix c =
    let items : List Kept = c.self.inside.kept.items in
    let i : ℕ = c.args.i in
    let entries : kept_entries items ≡ c.args.self.now.entries = ap (λ (v : Listing). v.entries) c.self.view_is in
    let inside : i < length items = omega (arith, c.if-i-len.true, c.len.ensures, c.self.inside.kept.ok.0) in
    let within : i < length (kept_entries items) = omega (arith, entries_length items) in (
      subst (λ es. i < length es) entries within,
      ap (λ (k : Kept). k.prefix.bits) c.index.ensures ∙ sym (kept_prefix items i c.index.result.now inside) ∙ ap (λ es. prefix_at es i) entries,
    )

pub returns-then-i-len-clause-room : goal.returns-then-i-len-clause-room
returns-then-i-len-clause-room c =
    let items : List Kept = c.self.inside.kept.items in
    let i : ℕ = c.args.i in
    let room : c.self.inside.room ≡ c.args.self.now.room = ap (λ (v : Listing). v.room) c.self.view_is in
    let inside : i < length items = omega (arith, c.if-i-len.true, c.len.ensures, c.self.inside.kept.ok.0) in
    subst (λ n. n ≤ c.index.result.now.prefix.room) room
    (subst (λ (k : Kept). c.self.inside.room ≤ k.prefix.room) (sym c.index.ensures) (c.self.invariant.rooms i c.index.result.now inside))

pub returns-then-i-len-clause-listing : goal.returns-then-i-len-clause-listing
returns-then-i-len-clause-listing c = subst IsListing (ap (λ (v : Listing). v.entries) c.self.view_is) c.self.invariant.listing

pub returns-else-i-len-clause-listing : goal.returns-else-i-len-clause-listing
returns-else-i-len-clause-listing c = subst IsListing (ap (λ (v : Listing). v.entries) c.self.view_is) c.self.invariant.listing
