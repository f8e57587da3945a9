use Rattle.std.proofs.Common.{◌∙◌, ap, sym}
use Rattle.ml_views.specs.UndoLog.{flag_at}
use Rattle.ml_views.proofs.FileLogs.{found, missed}
use Rattle.ml_views.proofs.file_notes.FileNotes.visible.Goals as goal

pub returns-in-Some : goal.returns-in-Some
returns-in-Some c = c.visible.ensures
    ∙ ap (flag_at c.args.stamp c.args.committed) (sym (found c.args.self.now c.self.inside.keys c.args.key.now _ c.self.view_is c.in-Some.ensures.value))

pub returns-in-None : goal.returns-in-None
returns-in-None c = ap (flag_at c.args.stamp c.args.committed) (sym (missed c.args.self.now c.self.inside.keys c.args.key.now c.self.view_is
    c.in-None.ensures.value))
