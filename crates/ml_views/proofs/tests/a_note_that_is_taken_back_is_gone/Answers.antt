use Rattle.std.proofs.Common.{◌≡◌, ◌≢◌, List, [], ◌∷◌, ◌++◌, ◌∙◌, ap, sym}
use Rattle.ml_views.specs.UndoLog.{FileKey, UndoLog, notes_at, with_note}
use Rattle.ml_views.specs.declared.note.Note.{Note}
use Rattle.ml_views.proofs.NoteMaps.{file_key_cmp_total, notes_at-with_notes}
use Rattle.ml_views.proofs.tests.a_note_that_is_taken_back_is_gone.Goals as goal

not_none : (ns : List Note) (n : Note) → ns ++ n ∷ [] ≢ []
not_none [] n e = cc
not_none (m ∷ ns) n e = cc

-- an item that was just noted has notes
noted_there : (after log : UndoLog) (item : FileKey) (note : Note) → after ≡ with_note log item note → notes_at after item ≢ []
noted_there after log item note is e = not_none (notes_at log item) note
    (sym (ap (λ (t : UndoLog). notes_at t item) is ∙ notes_at-with_notes file_key_cmp_total log item (notes_at log item ++ note ∷ [])) ∙ e)

pub unnote-requires : goal.unnote-requires
unnote-requires g c e = noted_there _ _ _ _ c.in_ok-note.ensures.ok e
