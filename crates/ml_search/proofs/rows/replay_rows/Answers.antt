use Rattle.ml_search.proofs.RowsComputed.{replay_rows}
use Rattle.ml_search.proofs.rows.replay_rows.Goals as goal

pub returns : goal.returns
returns c = replay_rows
