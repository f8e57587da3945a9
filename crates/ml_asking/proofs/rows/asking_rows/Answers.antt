use Rattle.ml_asking.proofs.RowsComputed.{asking_rows}
use Rattle.ml_asking.proofs.rows.asking_rows.Goals as goal

pub returns : goal.returns
returns c = asking_rows
