use Rattle.std.proofs.Common.{take}
use Rattle.ml_term.specs.Seen.{all_seen}
use Rattle.ml_term.specs.Tree.{trees_of}
use Rattle.ml_term.proofs.KeyHeads.{IsAhead}
use Rattle.ml_term.proofs.key.head_cmp.Given as goal

abbrev pub invariant-loop-key : goal.invariant-loop-key
invariant-loop-key l = IsAhead 64 (take l.key-index l.keys) (trees_of (all_seen l.ts)) (trees_of (all_seen l.us)) l.same l.order
