use Rattle.ml_search.proofs.RowsComputed.{control_rows}
use Rattle.ml_search.proofs.rows.control_rows.Goals as goal

pub returns : goal.returns
returns c = control_rows
