use Rattle.std.proofs.Common.{◌≡◌, take}
use Rattle.ml_search.proofs.decls.Decls.copy_of.Given as goal

-- the copy so far
abbrev pub invariant-loop-i : goal.invariant-loop-i
invariant-loop-i l = l.decls ≡ take l.i l.self
