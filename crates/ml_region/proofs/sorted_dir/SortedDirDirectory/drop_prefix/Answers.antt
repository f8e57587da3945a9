use Rattle.std.proofs.Common.{◌≡◌, ◌<◌, List, length, sym, ap, ◌∙◌, subst, arith}
use Rattle.std.specs.List.{remove}
use Rattle.ml_region.specs.Listing.{Listing}
use Rattle.ml_region.specs.inside.Kept.{kept_entries, IsKept}
use Rattle.ml_region.specs.declared.kept.Kept.{Kept}
use Rattle.ml_region.proofs.SortedElements.{entries_length, kept_remove, entries_remove}
use Rattle.ml_region.proofs.sorted_dir.SortedDirDirectory.drop_prefix.Goals as goal

pub invariant_of-self : goal.invariant_of-self
invariant_of-self c =
    let items : List Kept = c.self.inside.kept.items in
    let entries : kept_entries items ≡ c.args.self.now.entries = ap (λ (v : Listing). v.entries) c.self.view_is in
    let within : c.args.i < length items = omega (arith, entries_length items, ap length entries, c.requires.within) in
    subst (λ xs. IsKept xs c.self.inside.room) (sym c.remove-gone.ensures.items)
    (kept_remove items c.self.inside.room c.args.i c.self.invariant c.requires.nested within)

pub returns-clause-entries : goal.returns-clause-entries
returns-clause-entries c =
    let items : List Kept = c.self.inside.kept.items in
    let entries : kept_entries items ≡ c.args.self.now.entries = ap (λ (v : Listing). v.entries) c.self.view_is in
    ap kept_entries c.remove-gone.ensures.items ∙ entries_remove items c.args.i ∙ ap (λ es. remove es c.args.i) entries
