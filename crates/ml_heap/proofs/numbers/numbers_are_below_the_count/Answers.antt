-- The laws of variables' numbers.
use Rattle.ml_heap.proofs.NumbersBelow.{below, absent, new_is_free}
use Rattle.ml_heap.proofs.numbers.numbers_are_below_the_count.Goals as goal

pub returns : goal.returns
returns c = record { below = below; absent = absent; free = new_is_free }
