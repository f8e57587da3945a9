use Rattle.ml_search.proofs.RowsComputed.{stored_rows}
use Rattle.ml_search.proofs.rows.stored_rows.Goals as goal

pub returns : goal.returns
returns c = stored_rows
