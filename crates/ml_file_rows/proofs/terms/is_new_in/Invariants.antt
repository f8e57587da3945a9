-- None of the items that were looked at has the number.
use Rattle.std.proofs.Common.{ℕ, ◌<◌, get_or}
use Rattle.std.specs.Prelude.{◌≢◌}
use Rattle.ml_region.specs.Regions.{items_at}
use Rattle.ml_region.specs.declared.item.Item.{Item}
use Rattle.ml_file_rows.proofs.terms.is_new_in.Given as goal

abbrev pub invariant-loop-j : goal.invariant-loop-j
invariant-loop-j l = (k : ℕ) (d : Item) → k < l.j → (get_or (items_at l.file.regions l.i) k d).number ≢ l.number
