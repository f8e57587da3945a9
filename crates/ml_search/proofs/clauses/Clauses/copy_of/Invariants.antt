use Rattle.std.proofs.Common.{◌≡◌, take}
use Rattle.ml_search.proofs.clauses.Clauses.copy_of.Given as goal

-- the copy so far
abbrev pub invariant-loop-clause : goal.invariant-loop-clause
invariant-loop-clause l = l.items.items ≡ take l.clause-index l.clause-items
