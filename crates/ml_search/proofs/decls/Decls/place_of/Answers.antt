use Rattle.std.proofs.Common.{ap, ◌∙◌}
use Rattle.ml_search.specs.Program.{place_of}
use Rattle.ml_search.proofs.DeclarationsFound.{place_is}
use Rattle.ml_search.proofs.decls.Decls.place_of.Goals as goal

pub returns-clause-same : goal.returns-clause-same
returns-clause-same c =
    c.get_index_of.ensures.index
    ∙ place_is c.args.pred.now c.self.inside.table.entries c.self.invariant
    ∙ ap (λ ds. place_of ds c.args.pred.now.name c.args.pred.now.arity) c.self.view_is
