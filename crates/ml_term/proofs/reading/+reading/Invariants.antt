use Rattle.std.proofs.Common.{◌≡◌, ◌+◌, ◌*◌, length}
use Rattle.ml_term.specs.inside.Reading.{AreRead}
use Rattle.ml_term.specs.Seen.{all_seen}
use Rattle.ml_term.specs.Tree.{trees_of}
use Rattle.ml_term.proofs.reading.+reading.Given as goal

abbrev pub decreases-args_at : goal.decreases-args_at
decreases-args_at l = 3 * l.before.left + 2

abbrev pub decreases-compound_at : goal.decreases-compound_at
decreases-compound_at l = 3 * l.before.left

abbrev pub decreases-term_at : goal.decreases-term_at
decreases-term_at l = 3 * l.before.left + 1

abbrev pub invariant-args_at-loop : goal.invariant-args_at-loop
invariant-args_at-loop l = record {
  read : AreRead l.bytes l.fn.before (trees_of (all_seen l.args.items)) l.after;
  count : length l.args.items ≡ l.counter;
  left : l.fn.before.left ≡ l.initial.after.left;
}
