use Rattle.ml_explained.proofs.KeptHistories.{new_explained, begun_explained, stepped_explained, uncommitted_explained, committed_explained}
use Rattle.ml_explained.proofs.keeping.explained_is_kept.Goals as goal

pub returns-clause-new : goal.returns-clause-new
returns-clause-new c = new_explained

pub returns-clause-begin : goal.returns-clause-begin
returns-clause-begin c = begun_explained

pub returns-clause-step : goal.returns-clause-step
returns-clause-step c decls start ended live more k l o r x = stepped_explained decls start ended live more x k l o r

pub returns-clause-uncommitted : goal.returns-clause-uncommitted
returns-clause-uncommitted c decls start ended live more e x = uncommitted_explained decls start ended live more x e

pub returns-clause-commit : goal.returns-clause-commit
returns-clause-commit c decls start ended live more e x = committed_explained decls start ended live more x e
