use Rattle.std.proofs.Common.{◌++◌, ◌∷◌, [], ◌∙◌, ap, cond}
use Rattle.std.specs.FinMap as map
use Rattle.ml_views.specs.UndoLog.{notes_at}
use Rattle.ml_views.proofs.NoteMaps.{apart, get-with_notes, listed, notes_at-with_notes, file_key_cmp_exact, file_key_cmp_total}
use Rattle.ml_views.proofs.laws.a_note_is_of_one_item.Goals as goal

pub returns-clause-there : goal.returns-clause-there
returns-clause-there c log item note = notes_at-with_notes file_key_cmp_total log item (notes_at log item ++ note ∷ [])

pub returns-clause-others : goal.returns-clause-others
returns-clause-others c log item other note h =
    let ns = notes_at log item ++ note ∷ [] in
    get-with_notes file_key_cmp_total log item ns other ∙ ap (λ b. cond b (listed ns) (map.get log other)) (apart file_key_cmp_exact other item h)
