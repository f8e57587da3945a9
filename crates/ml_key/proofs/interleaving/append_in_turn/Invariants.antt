use Rattle.ml_key.proofs.BitRows.{TakesRows}
use Rattle.ml_key.proofs.interleaving.append_in_turn.Given as goal

abbrev pub invariant-loop-row : goal.invariant-loop-row
invariant-loop-row l = TakesRows l.list l.initial.list l.words l.rows l.row
