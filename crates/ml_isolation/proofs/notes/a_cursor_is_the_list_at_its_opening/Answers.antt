use Rattle.ml_isolation.proofs.OpenedCursors.{cursor_is_opened, cursor_gives}
use Rattle.ml_isolation.proofs.notes.a_cursor_is_the_list_at_its_opening.Goals as goal

pub returns-clause-opened : goal.returns-clause-opened
returns-clause-opened c = cursor_is_opened

pub returns-clause-given : goal.returns-clause-given
returns-clause-given c = cursor_gives
