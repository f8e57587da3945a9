use Rattle.ml_compile.proofs.RowsSpelled.{goals_spelled, alternative_spelled, condition_spelled, choice_spelled, caught_spelled, collected_spelled}
use Rattle.ml_compile.proofs.worked_rows.codes_of_bodies.Goals as goal

pub returns : goal.returns
returns c = record {
  goals = goals_spelled;
  alternative = alternative_spelled;
  condition = condition_spelled;
  choice = choice_spelled;
  caught = caught_spelled;
  collected = collected_spelled;
}
