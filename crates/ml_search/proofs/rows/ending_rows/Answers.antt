use Rattle.ml_search.proofs.RowsComputed.{ending_rows}
use Rattle.ml_search.proofs.rows.ending_rows.Goals as goal

pub returns : goal.returns
returns c = ending_rows
