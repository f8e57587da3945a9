use Rattle.ml_search.proofs.SizesFall.{turns_fall}
use Rattle.ml_search.proofs.SearchTurns.{search_steps, only_search}
use Rattle.ml_search.proofs.laws.the_search_ends.Goals as goal

pub returns-clause-falls : goal.returns-clause-falls
returns-clause-falls c = turns_fall

pub returns-clause-goes : goal.returns-clause-goes
returns-clause-goes c = search_steps

pub returns-clause-alone : goal.returns-clause-alone
returns-clause-alone c = only_search
