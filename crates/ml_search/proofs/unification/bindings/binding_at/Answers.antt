use Rattle.std.proofs.Common.{sym}
use Rattle.ml_search.proofs.Unifying.BindingsFound.{sound_at}
use Rattle.ml_search.proofs.unification.bindings.binding_at.Goals as goal

pub returns-clause-sound : goal.returns-clause-sound
returns-clause-sound c most h =
    sound_at most c.args.bindings.now.entries c.args.i c.in-Some.variable.now c.in-Some.to.now h (sym c.in-Some.ensures.entry)
