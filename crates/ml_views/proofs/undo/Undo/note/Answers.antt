use Rattle.std.proofs.Common.{◌++◌, ◌∷◌, [], ◌∙◌, refl, subst, sym}
use Rattle.ml_views.specs.declared.note.Note.{Note}
use Rattle.ml_views.specs.inside.Layout.{AreFiles, undo_log}
use Rattle.ml_views.proofs.FileLogs.{by_answer, on_ok}
use Rattle.ml_views.proofs.Files.{changed_in, kept_after_change, kept_after_more, same_file}
use Rattle.ml_views.proofs.undo.Undo.note.Goals as goal

pub invariant_of-self-2 : goal.invariant_of-self-2
invariant_of-self-2 c =
    let ms = c.add_files.new.files.items in
    let p = c.args.pred in
    let key = c.args.key.now.bits in
    let note : Note = record { stamp = c.args.stamp; present = c.args.present } in
    let kept : AreFiles ms = kept_after_more c.self.inside.files.items c.self.invariant ms p c.ranges.pred.fits c.in_ok-add_files.ensures.same
    c.in_ok-add_files.ensures.few in
    by_answer c.note.result c.note.ensures.ok c.note.ensures.err
    (λ e. kept_after_change ms kept p c.note.new.self (p, key) _
    (changed_in (undo_log ms) ms p c.note.new.self c.index_mut.result.now key (λ ns. ns ++ note ∷ []) refl c.in_ok-add_files.ensures.within
    c.index_mut.ensures.value e))
    (λ e. subst AreFiles (sym (same_file ms p c.note.new.self c.index_mut.result.now e c.index_mut.ensures.value)) kept)

pub returns-clause-ok : goal.returns-clause-ok
returns-clause-ok c =
    let ms = c.add_files.new.files.items in
    let note : Note = record { stamp = c.args.stamp; present = c.args.present } in
    on_ok c.note.result (λ e. changed_in c.args.self.now ms c.args.pred c.note.new.self c.index_mut.result.now c.args.key.now.bits (λ ns. ns ++ note ∷ [])
    (c.in_ok-add_files.ensures.same ∙ c.self.view_is) c.in_ok-add_files.ensures.within c.index_mut.ensures.value e) c.note.ensures.ok
