use Rattle.std.proofs.Common.{◌≡◌}
use Rattle.ml_term.specs.Keys.{numbers_from}
use Rattle.ml_term.proofs.declaration.Keys.default_of.Given as goal

abbrev pub invariant-loop-k : goal.invariant-loop-k
invariant-loop-k l = l.numbers.items ≡ numbers_from 1 l.k
