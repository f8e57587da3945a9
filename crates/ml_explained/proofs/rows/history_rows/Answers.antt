use Rattle.ml_explained.proofs.RowsComputed.{history_rows}
use Rattle.ml_explained.proofs.rows.history_rows.Goals as goal

pub returns : goal.returns
returns c = history_rows
