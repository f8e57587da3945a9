use Rattle.std.proofs.Common.{List, [], ◌∙◌, ap, refl, sym, subst}
use Rattle.ml_views.specs.UndoLog.{UndoLog, IsFirstNoted, last_note}
use Rattle.ml_views.specs.inside.Layout.{FileLog, IsFirstFile, IsFirstKey, undo_log}
use Rattle.ml_views.proofs.Files.{changed_in, first_item, kept_after_change, same_notes}
use Rattle.ml_views.proofs.undo.Undo.take_first.Goals as goal
use Rattle.ml_views.proofs.undo.Undo.take_first.Goals.{In-Some}

first : (c : In-Some) → IsFirstFile c.self.inside.files.items c.in_ok-at.at
first c = subst (λ (ms : List FileLog). IsFirstFile ms c.in_ok-at.at) c.deref.ensures.value c.in_ok-at.ensures

pub invariant_of-self : goal.invariant_of-self
invariant_of-self c =
    let ms = c.self.inside.files.items in
    kept_after_change ms c.self.invariant c.in_ok-at.at c.take_first.new.self (c.in_ok-at.at, c.in-Some.key.bits) []
    (changed_in (undo_log ms) ms c.in_ok-at.at c.take_first.new.self c.index_mut.result.now c.in-Some.key.bits (λ ns. []) refl (first c).within
    c.index_mut.ensures.value c.in-Some.ensures.rest)

pub returns-clause-first : goal.returns-clause-first
returns-clause-first c =
    let ms = c.self.inside.files.items in
    let at = c.in_ok-at.at in
    let key = subst (λ (f : FileLog). IsFirstKey f c.in-Some.key.bits) c.index_mut.ensures.value c.in-Some.ensures.first in
    subst (λ (t : UndoLog). IsFirstNoted t (at, c.in-Some.key.bits)) c.self.view_is (first_item ms at c.index_mut.result.now c.in-Some.key.bits (first c) key)

pub returns-clause-note : goal.returns-clause-note
returns-clause-note c =
    let ms = c.self.inside.files.items in
    ap last_note (sym (same_notes c.args.self.now ms c.in_ok-at.at c.index_mut.result.now c.in-Some.key.bits c.self.view_is (first c).within
    c.index_mut.ensures.value)) ∙ c.in-Some.ensures.note

pub returns-clause-rest : goal.returns-clause-rest
returns-clause-rest c =
    let ms = c.self.inside.files.items in
    changed_in c.args.self.now ms c.in_ok-at.at c.take_first.new.self c.index_mut.result.now c.in-Some.key.bits (λ ns. []) c.self.view_is (first c).within
    c.index_mut.ensures.value c.in-Some.ensures.rest
