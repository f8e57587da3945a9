use Rattle.std.proofs.Common.{◌≡◌, ◌∙◌, ap, sym, [], refl, subst}
use Rattle.std.specs.Prelude.{IsSome}
use Rattle.ml_views.specs.UndoLog.{all_but_last, notes_at, with_notes}
use Rattle.ml_views.specs.inside.Layout.{FileLog, notes_of}
use Rattle.ml_views.proofs.FileLogs.{found, missed, removed, updated}
use Rattle.ml_views.proofs.NoteMaps.{key_cmp_total, key_cmp_exact, with_notes_twice}
use Rattle.ml_views.proofs.file_notes.FileNotes.unnote.Goals as goal
use Rattle.ml_views.proofs.file_notes.FileNotes.unnote.Goals.{in-Some-1, in-None-1, In-Some}

-- the key's notes, as the tree and the log have them
was : (c : In-Some) → notes_at c.args.self.now c.args.key.now.bits ≡ notes_of c.in-Some.notes.now
was c = found c.args.self.now c.self.inside.keys c.args.key.now _ c.self.view_is c.in-Some.ensures.value

pub returns-else-not-pop : goal.returns-else-not-pop
returns-else-not-pop c =
    let some = subst IsSome c.in-Some.ensures.value refl in
    updated c.self.inside.keys (c.get_mut.follows.lender c.pop.new.self) c.args.key.now c.pop.new.self _ ((c.get_mut.follows.holds c.pop.new.self).3 some)
    (c.pop.ensures.taken c.if-not-pop.false ∙ ap all_but_last (sym (was (goal.at.returns-else-not-pop c).In-Some)))
    ∙ ap (λ (t : FileLog). with_notes t c.args.key.now.bits (all_but_last (notes_at c.args.self.now c.args.key.now.bits))) c.self.view_is

pub returns-then-not-pop : goal.returns-then-not-pop
returns-then-not-pop c =
    let some = subst IsSome c.in-Some.ensures.value refl in
    let k = c.args.key.now.bits in
    let left = updated c.self.inside.keys (c.get_mut.follows.lender c.pop.new.self) c.args.key.now c.pop.new.self _ ((c.get_mut.follows.holds
    c.pop.new.self).3 some) refl in
    let gone = removed (c.get_mut.follows.lender c.pop.new.self) c.remove.new.self c.args.key.now c.remove.ensures.updates in
    let none : all_but_last (notes_at c.args.self.now k) ≡ [] = ap all_but_last (was (goal.at.returns-then-not-pop c).In-Some)
    ∙ c.pop.ensures.alone c.if-not-pop.true in
    let all = gone ∙ (ap (λ (t : FileLog). with_notes t k []) left ∙ (with_notes_twice key_cmp_total key_cmp_exact _ k _ []
    ∙ (ap (λ (t : FileLog). with_notes t k []) c.self.view_is ∙ ap (with_notes c.args.self.now k) (sym none)))) in
    elim c.match-remove.branch [ in-Some-1 w ↦ w.self-is ∙ all | in-None-1 w ↦ w.self-is ∙ all ]

pub returns-in_default : goal.returns-in_default
returns-in_default c = absurd (c.requires (missed c.args.self.now c.self.inside.keys c.args.key.now c.self.view_is c.in_default.ensures.value))
