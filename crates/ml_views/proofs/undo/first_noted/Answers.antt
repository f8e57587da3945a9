use Rattle.std.proofs.Common.{arith}
use Rattle.ml_views.proofs.Files.{no_notes}
use Rattle.ml_views.proofs.undo.first_noted.Goals as goal

pub returns : goal.returns
returns c = no_notes c.args.files.now (λ k d l. c.loop-at.invariant k d (omega arith))
