use Rattle.std.proofs.Common.{◌<◌, length, ◌∙◌, refl, rules, sym}
use Rattle.ml_views.specs.UndoLog.{all_but_last}
use Rattle.ml_views.specs.inside.Layout.{undo_log}
use Rattle.ml_views.proofs.Files.{changed_in, has_file, kept_after_change, same_notes}
use Rattle.ml_views.proofs.undo.Undo.unnote.Goals as goal

pub index_mut-requires : goal.index_mut-requires
index_mut-requires c =
    let l : c.args.pred < length c.self.inside.files.items = has_file c.args.self.now c.self.inside.files.items c.args.pred c.args.key.now.bits
    c.self.view_is c.requires in
    search rules

pub unnote-requires : goal.unnote-requires
unnote-requires c e =
    let ms = c.self.inside.files.items in
    let l : c.args.pred < length ms = has_file c.args.self.now ms c.args.pred c.args.key.now.bits c.self.view_is c.requires in
    c.requires (sym (same_notes c.args.self.now ms c.args.pred c.index_mut.result.now c.args.key.now.bits c.self.view_is l c.index_mut.ensures.value) ∙ e)

pub invariant_of-self : goal.invariant_of-self
invariant_of-self c =
    let ms = c.self.inside.files.items in
    let l : c.args.pred < length ms = has_file c.args.self.now ms c.args.pred c.args.key.now.bits c.self.view_is c.requires in
    kept_after_change ms c.self.invariant c.args.pred c.unnote.new.self (c.args.pred, c.args.key.now.bits) _
    (changed_in (undo_log ms) ms c.args.pred c.unnote.new.self c.index_mut.result.now c.args.key.now.bits all_but_last refl l c.index_mut.ensures.value
    c.unnote.ensures)

pub returns : goal.returns
returns c =
    let ms = c.self.inside.files.items in
    let l : c.args.pred < length ms = has_file c.args.self.now ms c.args.pred c.args.key.now.bits c.self.view_is c.requires in
    changed_in c.args.self.now ms c.args.pred c.unnote.new.self c.index_mut.result.now c.args.key.now.bits all_but_last c.self.view_is l
    c.index_mut.ensures.value c.unnote.ensures
