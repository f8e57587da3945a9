use Rattle.std.proofs.Common.{◌≡◌, ℕ, ◌<◌, get_or}
use Rattle.std.specs.Option.{option_copied}
use Rattle.ml_region.specs.Regions.{items_at}
use Rattle.ml_region.specs.declared.item.Item.{Item}
use Rattle.ml_term.specs.Seen.{seen}
use Rattle.ml_lookup.specs.Next.{IsMet}
use Rattle.ml_lookup.proofs.next.first_in.Given as goal

abbrev pub invariant-loop-item : goal.invariant-loop-item
invariant-loop-item l = (k : ℕ) → k < l.item-index → (x : Item) → get_or (items_at l.file.regions l.i) k x ≡ x →
    IsMet l.file.decl.kind (seen l.head) (option_copied l.after) x → ⊥
