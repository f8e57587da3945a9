use Rattle.std.proofs.Common.{◌≡◌, take}
use Rattle.ml_reader.proofs.rules.items.Items.copy_of.Given as goal

-- the copy so far
abbrev pub invariant-loop-place : goal.invariant-loop-place
invariant-loop-place l = l.pairs.items ≡ take l.place-index l.place-items
