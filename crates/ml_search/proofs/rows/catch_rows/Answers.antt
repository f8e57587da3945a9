use Rattle.ml_search.proofs.RowsComputed.{catch_rows}
use Rattle.ml_search.proofs.rows.catch_rows.Goals as goal

pub returns : goal.returns
returns c = catch_rows
