use Rattle.ml_compile.proofs.RowsSpelled.{fact_spelled, append_spelled}
use Rattle.ml_compile.proofs.worked_rows.codes_of_clauses.Goals as goal

pub returns : goal.returns
returns c = record { fact = fact_spelled; append = append_spelled }
