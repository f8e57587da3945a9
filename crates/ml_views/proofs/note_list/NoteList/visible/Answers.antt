use Rattle.std.proofs.Common.{sym}
use Rattle.std.proofs.lemmas.Bool.{lt-ltb}
use Rattle.ml_views.proofs.LastNotes.{flag_of_last}
use Rattle.ml_views.proofs.note_list.NoteList.visible.Goals as goal

pub returns-then-self-stamp : goal.returns-then-self-stamp
returns-then-self-stamp c = sym (flag_of_last c.args.stamp c.args.committed c.args.self.now.earlier.items c.args.self.now.last (lt-ltb _ _
    c.if-self-stamp.true))
