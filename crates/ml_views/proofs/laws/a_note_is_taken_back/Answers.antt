use Rattle.std.proofs.Common.{◌++◌, ◌∷◌, [], ◌∙◌, ap}
use Rattle.ml_views.specs.UndoLog.{all_but_last, notes_at, with_notes}
use Rattle.ml_views.proofs.LastNotes.{all_but_last_of_more}
use Rattle.ml_views.proofs.NoteMaps.{file_key_cmp_exact, file_key_cmp_total, notes_at-with_notes, with_its_notes, with_notes_twice}
use Rattle.ml_views.proofs.laws.a_note_is_taken_back.Goals as goal

pub returns : goal.returns
returns c log item note h =
    let ns = notes_at log item in
    ap (λ ms. with_notes (with_notes log item (ns ++ note ∷ [])) item (all_but_last ms)) (notes_at-with_notes file_key_cmp_total log item (ns ++ note ∷ []))
    ∙ (with_notes_twice file_key_cmp_total file_key_cmp_exact log item (ns ++ note ∷ []) (all_but_last (ns ++ note ∷ []))
    ∙ (ap (with_notes log item) (all_but_last_of_more ns note) ∙ with_its_notes file_key_cmp_total file_key_cmp_exact log item h))
