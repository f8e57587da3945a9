use Rattle.ml_search.proofs.RowsComputed.{relation_rows}
use Rattle.ml_search.proofs.rows.relation_rows.Goals as goal

pub returns : goal.returns
returns c = relation_rows
