use Rattle.ml_views.proofs.Files.{no_files}
use Rattle.ml_views.proofs.undo.Undo.clear.Goals as goal

pub invariant_of-self : goal.invariant_of-self
invariant_of-self c = no_files _ c.clear.ensures.items
