use Rattle.ml_isolation.proofs.RowsComputed.{list_rows}
use Rattle.ml_isolation.proofs.rows.list_rows.Goals as goal

pub returns : goal.returns
returns c = list_rows
