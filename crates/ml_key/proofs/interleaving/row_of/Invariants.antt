use Rattle.ml_key.proofs.BitRows.{IsRow}
use Rattle.ml_key.proofs.interleaving.row_of.Given as goal

abbrev pub invariant-loop-word : goal.invariant-loop-word
invariant-loop-word l = IsRow l.words l.place l.word-index l.row
