use Rattle.std.proofs.Common.{◌++◌, ◌∷◌, [], take, ap, ◌∙◌}
use Rattle.ml_search.specs.Program.{place_of}
use Rattle.ml_search.proofs.DeclarationsFound.{others_before, up_to}
use Rattle.ml_search.proofs.decls.Decls.copy_of.Goals as goal

pub add-requires-clause-other : goal.add-requires-clause-other
add-requires-clause-other c =
    let d = c.at.result.now in
    ap (λ e. place_of c.loop-i.decls e.pred.name e.pred.arity) c.in_ok-copy_of.ensures
    ∙ ap (λ ds. place_of ds d.pred.name d.pred.arity) c.loop-i.invariant
    ∙ others_before c.args.self.now c.loop-i.i d c.len-i-end.ensures.once c.at.ensures

pub loop-i-preserved : goal.loop-i-preserved
loop-i-preserved c =
    c.in_ok-add.ensures.ok
    ∙ ap (λ ds. ds ++ c.in_ok-copy_of.field-0 ∷ []) c.loop-i.invariant
    ∙ ap (λ d. take c.loop-i.i c.args.self.now ++ d ∷ []) c.in_ok-copy_of.ensures
    ∙ up_to c.args.self.now c.loop-i.i c.at.result.now c.at.ensures
