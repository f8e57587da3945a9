use Rattle.std.proofs.Common.{◌≡◌, ◌+◌, drop}
use Rattle.ml_words.specs.Seen.{texts, walk_seen}
use Rattle.ml_words.specs.Walks.{behind_words, walk_over}
use Rattle.ml_words.proofs.walk.walk_over.Given as goal

abbrev pub invariant-loop-i : goal.invariant-loop-i
invariant-loop-i l = behind_words (l.i + 1) (drop l.i (texts l.words)) (walk_seen l.found) ≡ walk_over (texts l.words)
