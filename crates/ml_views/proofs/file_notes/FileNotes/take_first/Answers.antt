use Rattle.std.proofs.Common.{◌∙◌, ap, sym, []}
use Rattle.ml_views.specs.UndoLog.{last_note, with_notes}
use Rattle.ml_views.specs.inside.Layout.{FileLog}
use Rattle.ml_views.proofs.FileLogs.{found, first_key, removed}
use Rattle.ml_views.proofs.LastNotes.{last_of_more}
use Rattle.ml_views.proofs.file_notes.FileNotes.take_first.Goals as goal

pub returns-clause-first : goal.returns-clause-first
returns-clause-first c = first_key c.args.self.now c.self.inside.keys c.in_ok-key.key c.in_ok-key.notes c.self.view_is c.in_ok-key.ensures.value
    c.in_ok-key.ensures.least

pub returns-clause-note : goal.returns-clause-note
returns-clause-note c = ap last_note (found c.args.self.now c.self.inside.keys c.in_ok-key.key c.in_ok-key.notes c.self.view_is (sym
    c.in_ok-key.ensures.value))
    ∙ last_of_more c.in_ok-key.notes.earlier.items c.in_ok-key.notes.last

pub returns-clause-rest : goal.returns-clause-rest
returns-clause-rest c = removed c.self.inside.keys c.pop_first.new.self c.in_ok-key.key c.in_ok-key.ensures.updates
    ∙ ap (λ (t : FileLog). with_notes t c.in_ok-key.key.bits []) c.self.view_is
