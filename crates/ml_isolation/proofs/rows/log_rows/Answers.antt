use Rattle.ml_isolation.proofs.RowsComputed.{log_rows}
use Rattle.ml_isolation.proofs.rows.log_rows.Goals as goal

pub returns : goal.returns
returns c = log_rows
