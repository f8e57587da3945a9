use Rattle.std.proofs.Common.{◌≡◌, ◌++◌, ◌∷◌, ◌∙◌, ap, sym, [], refl, subst}
use Rattle.std.specs.Prelude.{IsSome}
use Rattle.ml_views.specs.UndoLog.{notes_at, with_notes}
use Rattle.ml_views.specs.inside.Layout.{FileLog, notes_of, file_log}
use Rattle.ml_views.proofs.FileLogs.{found, missed, updated, file_has_notes, on_ok, on_err, Tree}
use Rattle.ml_views.proofs.NoteMaps.{key_cmp_total, key_cmp_exact, with_its_notes}
use Rattle.ml_views.proofs.file_notes.FileNotes.note.Goals as goal
use Rattle.ml_views.proofs.file_notes.FileNotes.note.Goals.{In-Some}

-- the key's notes, as the tree and the log have them
was : (c : In-Some) → notes_at c.args.self.now c.args.key.now.bits ≡ notes_of c.in-Some.notes.now
was c = found c.args.self.now c.self.inside.keys c.args.key.now _ c.self.view_is c.in-Some.ensures.value

pub returns-in-Some-clause-ok : goal.returns-in-Some-clause-ok
returns-in-Some-clause-ok c = on_ok c.push.result (λ e.
    let some = subst IsSome c.in-Some.ensures.value refl in
    let k = c.args.key.now.bits in
    let ns = notes_at c.args.self.now k ++ c.args.note ∷ [] in
    updated c.self.inside.keys (c.get_mut.follows.lender c.push.new.self) c.args.key.now c.push.new.self ns ((c.get_mut.follows.holds c.push.new.self).3 some)
    (e ∙ ap (λ ms. ms ++ c.args.note ∷ []) (sym (was (goal.at.returns-in-Some-clause-ok c).In-Some)))
    ∙ ap (λ (t : FileLog). with_notes t k ns) c.self.view_is) c.push.ensures.ok

pub returns-in-Some-clause-err : goal.returns-in-Some-clause-err
returns-in-Some-clause-err c = on_err c.push.result (λ e.
    let some = subst IsSome c.in-Some.ensures.value refl in
    let k = c.args.key.now in
    updated c.self.inside.keys (c.get_mut.follows.lender c.push.new.self) k c.push.new.self (notes_at (file_log c.self.inside.keys.entries) k.bits)
    ((c.get_mut.follows.holds c.push.new.self).3 some) (e ∙ (sym (was (goal.at.returns-in-Some-clause-err c).In-Some)
    ∙ ap (λ (t : FileLog). notes_at t k.bits) (sym c.self.view_is)))
    ∙ (with_its_notes key_cmp_total key_cmp_exact (file_log c.self.inside.keys.entries) k.bits (file_has_notes c.self.inside.keys)
    ∙ c.self.view_is)) c.push.ensures.err

pub returns-clause-ok : goal.returns-clause-ok
returns-clause-ok c =
    let k = c.args.key.now.bits in
    let ns = notes_at c.args.self.now k ++ c.args.note ∷ [] in
    let none = missed c.args.self.now c.self.inside.keys c.args.key.now c.self.view_is c.in_default.ensures.value in
    let at = c.get_mut.follows.lender-at-none in
    let same : file_log at.entries ≡ c.args.self.now = ap (λ (m : Tree). file_log m.entries) c.get_mut.follows.holds-at-none ∙ c.self.view_is in
    let put = updated at c.insert.new.self c.in_ok-copy.copy c.of.result ns c.in_ok-insert.ensures.updates (c.of.ensures
    ∙ ap (λ ms. ms ++ c.args.note ∷ []) (sym none)) in
    put ∙ (ap (λ copy. with_notes (file_log at.entries) copy.bits ns) c.in_ok-copy.ensures ∙ ap (λ (t : FileLog). with_notes t k ns) same)
