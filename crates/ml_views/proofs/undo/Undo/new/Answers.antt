use Rattle.ml_views.proofs.Files.{no_files}
use Rattle.ml_views.proofs.undo.Undo.new.Goals as goal

pub invariant_of-result : goal.invariant_of-result
invariant_of-result c = no_files _ c.new.ensures.items
