use Rattle.ml_search.proofs.RowsComputed.{arithmetic_rows}
use Rattle.ml_search.proofs.rows.arithmetic_rows.Goals as goal

pub returns : goal.returns
returns c = arithmetic_rows
