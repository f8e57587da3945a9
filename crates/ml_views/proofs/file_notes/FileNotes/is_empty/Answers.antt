use Rattle.std.proofs.Common.{◌∙◌, sym}
use Rattle.ml_views.proofs.FileLogs.{no_entries, is_no_entries, none_of_length}
use Rattle.ml_views.proofs.file_notes.FileNotes.is_empty.Goals as goal

pub returns : goal.returns
returns c = (
  λ t. sym c.self.view_is
      ∙ no_entries _ (none_of_length _ (c.is_empty.ensures.0 t)),
  λ e. c.is_empty.ensures.1 (is_no_entries c.self.inside.keys (c.self.view_is ∙ e)),
)
