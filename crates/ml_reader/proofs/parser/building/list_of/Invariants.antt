use Rattle.std.proofs.Common.{◌≡◌, length}
use Rattle.ml_term.specs.Tree.{no_trees}
use Rattle.ml_term.specs.Seen.{seen, all_seen}
use Rattle.ml_reader.specs.Lexemes.{cells}
use Rattle.ml_reader.specs.Seen.{reversed_trees}
use Rattle.ml_reader.proofs.parser.building.list_of.Given as goal

abbrev pub invariant-loop-t : goal.invariant-loop-t
invariant-loop-t l =
    cells (reversed_trees (all_seen l.items.items) no_trees) (seen l.end) ≡ cells (reversed_trees (all_seen l.fn.items.items) no_trees) (seen l.fn.end)

abbrev pub decreases-loop-t : goal.decreases-loop-t
decreases-loop-t l = length l.items.items
