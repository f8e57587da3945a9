use Rattle.ml_asking.proofs.SearchesAgree.{law}
use Rattle.ml_asking.proofs.ChangesByLog.{law_told}
use Rattle.ml_asking.proofs.laws.a_search_that_asks_is_the_search.Goals as goal

pub returns-clause-same : goal.returns-clause-same
returns-clause-same c = law

pub returns-clause-told : goal.returns-clause-told
returns-clause-told c = law_told
