use Rattle.std.proofs.Common.{◌≡◌, map, take}
use Rattle.std.specs.Borrow.{Bor}
use Rattle.ml_region.specs.declared.item.Item.{Item}
use Rattle.ml_file.proofs.file.BangFile.matches.Given as goal

abbrev pub invariant-loop-item : goal.invariant-loop-item
invariant-loop-item l = l.found.items ≡ map (λ (r : Bor Item). r.now.term) (take l.item-index l.item-items)
