use Rattle.ml_search.proofs.CommittedLists.{stays_committed}
use Rattle.ml_search.proofs.laws.a_history_commits_its_items.Goals as goal

pub returns : goal.returns
returns c = stays_committed
