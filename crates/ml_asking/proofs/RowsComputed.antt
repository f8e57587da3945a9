-- The worked rows, each computed.
use Rattle.std.proofs.Common.{refl}
use Rattle.ml_term.specs.Runs.{run}
use Rattle.ml_term.specs.Unify.{solve_equations}
use Rattle.ml_search.specs.Search.{search_from}
use Rattle.ml_asking.specs.inside.AskingRows.{AskingRows}

pub asking_rows : AskingRows
unfolding run solve_equations search_from
asking_rows = record {
  a_call_asks_to_the_end = (refl, refl, refl);
  a_cut_leaves_a_cursor_unfinished = (refl, refl, refl);
  a_cut_leaves_the_cursors_before_its_clause = (refl, refl, refl);
  a_ball_crosses_two_cursors = (refl, refl, refl);
  a_ball_that_nothing_takes_ends_the_asking = (refl, refl, refl);
  a_ball_leaves_a_findall_and_its_cursor = (refl, refl, refl);
  a_findall_asks_to_the_end = (refl, refl, refl);
  a_clause_deleted_since_is_not_retracted = (refl, refl, refl);
  an_own_insert_is_not_given = (refl, refl, refl);
  own_clauses_are_not_given = (refl, refl, refl);
  a_tuple_is_deleted_under_a_cursor = (refl, refl, refl);
  an_inference_is_used_for_each_item = (refl, refl, refl);
  cursors_go_on_behind_those_of_goals_before = (refl, refl, refl);
}
