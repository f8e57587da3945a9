use Rattle.ml_search.proofs.LogProgress.{changed_by_replay}
use Rattle.ml_search.proofs.laws.a_log_changes_the_lists_that_replay_it.Goals as goal

pub returns : goal.returns
returns c = changed_by_replay
