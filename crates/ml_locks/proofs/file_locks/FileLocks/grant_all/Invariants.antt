use Rattle.std.proofs.Common.{◌≡◌, length}
use Rattle.ml_locks.specs.Requests.{prefixes_of}
use Rattle.ml_locks.proofs.GrantedInTurn.{Noted}
use Rattle.ml_locks.proofs.file_locks.FileLocks.grant_all.Given as goal

abbrev pub invariant-loop-i : goal.invariant-loop-i
invariant-loop-i l = record {
  count : length l.before.items ≡ l.i;
  noted : Noted l.initial.self l.session (prefixes_of l.prefixes) l.mode l.before.items l.self;
}

abbrev pub invariant-loop-held : goal.invariant-loop-held
invariant-loop-held l = Noted l.fn.self l.fn.session (prefixes_of l.fn.prefixes) l.fn.mode l.before.items l.self

abbrev pub decreases-loop-held : goal.decreases-loop-held
decreases-loop-held l = length l.before.items
