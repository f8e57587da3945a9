use Rattle.std.proofs.Common.{sym, subst}
use Rattle.ml_list_desk.specs.inside.ListDesks.{IsCarriedOut}
use Rattle.ml_search.specs.Seen.{operation_seen}
use Rattle.ml_search.specs.declared.operation.Op.{Op}
use Rattle.ml_list_desk.proofs.operations.change.Goals as goal

pub returns-in-DeleteAt-clause-ok : goal.returns-in-DeleteAt-clause-ok
returns-in-DeleteAt-clause-ok c =
    subst
    (λ (o : Op).
    IsCarriedOut c.args.decls.now (operation_seen o) c.args.lists.now c.delete_given.new.lists c.args.cursors.now c.args.changes c.delete_given.result)
    (sym c.in-DeleteAt.is) (c.delete_given.ensures c.args.decls.now)
