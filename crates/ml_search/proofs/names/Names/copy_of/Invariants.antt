use Rattle.std.proofs.Common.{◌≡◌, take}
use Rattle.ml_search.proofs.names.Names.copy_of.Given as goal

-- the copy so far
abbrev pub invariant-loop-name : goal.invariant-loop-name
invariant-loop-name l = l.pairs.items ≡ take l.name-index l.name-items
