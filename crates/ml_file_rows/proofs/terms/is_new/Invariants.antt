-- No item of the regions that were looked at has the number.
use Rattle.std.proofs.Common.{ℕ, ◌<◌}
use Rattle.std.specs.Prelude.{◌≢◌}
use Rattle.std.specs.List.{All}
use Rattle.ml_region.specs.Regions.{items_at}
use Rattle.ml_region.specs.declared.item.Item.{Item}
use Rattle.ml_file_rows.proofs.terms.is_new.Given as goal

abbrev pub invariant-loop-i : goal.invariant-loop-i
invariant-loop-i l = (k : ℕ) → k < l.i → All (λ (x : Item). x.number ≢ l.number) (items_at l.file.regions k)
