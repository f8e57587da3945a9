use Rattle.std.proofs.Common.{◌<◌, length, ◌∙◌, ap, subst, sym}
use Rattle.std.specs.Prelude.{List}
use Rattle.ml_views.specs.OpenCursors.{with_last_key}
use Rattle.ml_views.specs.declared.cursors.Cursor.{Cursor}
use Rattle.ml_views.proofs.LastKeys.{set_last_key}
use Rattle.ml_views.proofs.cursors.Cursors.advance.Goals as goal

pub returns : goal.returns
returns c =
    let l : c.args.c < length c.self.inside.items.items = subst (λ (xs : List Cursor). c.args.c < length xs) (sym c.self.view_is) c.requires in
    set_last_key c.self.inside.items.items c.args.c c.index_mut.result.now c.args.key l c.index_mut.ensures.value
    ∙ ap (λ (xs : List Cursor). with_last_key xs c.args.c c.args.key) c.self.view_is
