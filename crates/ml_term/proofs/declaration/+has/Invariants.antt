use Rattle.std.proofs.Common.{length}
use Rattle.ml_term.proofs.declaration.+has.Given as goal

abbrev pub decreases-has : goal.decreases-has
decreases-has l = length l.numbers.now
