use Rattle.std.proofs.Common.{◌∙◌, sym}
use Rattle.ml_views.proofs.LastNotes.{flag_of_place}
use Rattle.ml_views.proofs.note_list.flag_before.Goals as goal

pub returns-then-note-stamp : goal.returns-then-note-stamp
returns-then-note-stamp c = flag_of_place c.args.stamp c.args.committed c.args.notes.now c.loop-left.left _ c.loop-left-test.true c.loop-left.invariant.0
    c.if-note-stamp.true
    ∙ sym c.loop-left.invariant.1
