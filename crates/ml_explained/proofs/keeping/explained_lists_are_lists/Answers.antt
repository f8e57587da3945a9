use Rattle.ml_explained.proofs.ExplainedLists.{explained_kept, explained_committed, after_next}
use Rattle.ml_explained.proofs.keeping.explained_lists_are_lists.Goals as goal

pub returns-clause-lists : goal.returns-clause-lists
returns-clause-lists c decls start ended live x = (explained_kept decls start ended live x).lists

pub returns-clause-committed : goal.returns-clause-committed
returns-clause-committed c = explained_committed

pub returns-clause-places : goal.returns-clause-places
returns-clause-places c decls start ended live x = (explained_kept decls start ended live x).below

pub returns-clause-next : goal.returns-clause-next
returns-clause-next c = after_next
