use Rattle.std.proofs.Common.{take}
use Rattle.std.specs.Prelude.{◌==◌, ◌&&◌, not}
use Rattle.std.specs.List.{list_any}
use Rattle.ml_locks.specs.Requests.{IsLeast}
use Rattle.ml_locks.proofs.waiting.oldest_other.Given as goal

abbrev pub invariant-loop-session : goal.invariant-loop-session
invariant-loop-session l = IsLeast (λ k. not (k == l.asker) && list_any (λ holder. holder == k) (take l.session-index l.sessions)) l.oldest
