use Rattle.std.proofs.Common.{◌≡◌, subst}
use Rattle.std.specs.Prelude.{MatchOption, IsTrue, ◌↔◌, List}
use Rattle.std.specs.FinMap.{empty}
use Rattle.ml_views.specs.UndoLog.{UndoLog}
use Rattle.ml_views.specs.inside.Layout.{FileLog, IsFirstFile, undo_log}
use Rattle.ml_views.proofs.Files.{is_emptied}
use Rattle.ml_views.proofs.undo.Undo.is_empty.Goals as goal

pub returns-clause-empty : goal.returns-clause-empty
returns-clause-empty c =
    let f = subst (λ (ms : List FileLog). MatchOption c.first_noted.result (undo_log ms ≡ empty) (IsFirstFile ms)) c.deref.ensures.value
    c.first_noted.ensures in
    subst (λ (t : UndoLog). IsTrue c.is_none.result ↔ (t ≡ empty)) c.self.view_is (is_emptied c.first_noted.result c.is_none.result
    c.self.inside.files.items f c.is_none.ensures)
