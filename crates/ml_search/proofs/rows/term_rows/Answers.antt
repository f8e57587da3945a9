use Rattle.ml_search.proofs.RowsComputed.{term_rows}
use Rattle.ml_search.proofs.rows.term_rows.Goals as goal

pub returns : goal.returns
returns c = term_rows
