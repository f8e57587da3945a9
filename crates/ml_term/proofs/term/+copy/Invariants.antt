use Rattle.std.proofs.Common.{◌≡◌, take}
use Rattle.ml_term.proofs.term.+copy.Given as goal

abbrev pub invariant-copy_terms-loop-t : goal.invariant-copy_terms-loop-t
invariant-copy_terms-loop-t l = l.terms.items ≡ take l.t-index l.ts
