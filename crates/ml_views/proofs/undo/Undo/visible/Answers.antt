use Rattle.std.proofs.Common.{◌≡◌, ◌<◌, ◌≤◌, ◌∙◌, [], ap, sym, subst, length, List, get_or}
use Rattle.ml_views.specs.UndoLog.{UndoLog, flag_at, notes_at}
use Rattle.ml_views.specs.inside.Layout.{FileLog}
use Rattle.ml_views.proofs.Files.{notes_in_no_file, same_notes}
use Rattle.ml_views.proofs.undo.Undo.visible.Goals as goal

pub returns-in-Some : goal.returns-in-Some
returns-in-Some c =
    let l : c.args.pred < length c.self.inside.files.items = subst (λ (ms : List FileLog). c.args.pred < length ms) c.deref.ensures.value
    c.in-Some.ensures.lookup.3.0 in
    let at : c.in-Some.file.now ≡ get_or c.self.inside.files.items c.args.pred c.in-Some.file.now =
    subst (λ (ms : List FileLog). c.in-Some.file.now ≡ get_or ms c.args.pred c.in-Some.file.now) c.deref.ensures.value c.in-Some.ensures.lookup.1 in
    c.visible.ensures ∙ ap (flag_at c.args.stamp c.args.committed) (same_notes c.args.self.now c.self.inside.files.items c.args.pred c.in-Some.file.now
    c.args.key.now.bits c.self.view_is l at)

pub returns-in-None : goal.returns-in-None
returns-in-None c =
    let g : length c.self.inside.files.items ≤ c.args.pred = subst (λ (ms : List FileLog). length ms ≤ c.args.pred) c.deref.ensures.value
    c.in-None.ensures.lookup.3 in
    let none : notes_at c.args.self.now (c.args.pred, c.args.key.now.bits) ≡ [] =
    ap (λ (t : UndoLog). notes_at t (c.args.pred, c.args.key.now.bits)) (sym c.self.view_is)
    ∙ notes_in_no_file c.self.inside.files.items c.args.pred c.args.key.now.bits g in
    ap (flag_at c.args.stamp c.args.committed) (sym none)
