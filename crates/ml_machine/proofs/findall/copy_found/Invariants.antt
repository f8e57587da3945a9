-- The first answers have been copied.
use Rattle.std.proofs.Common.{List, take}
use Rattle.ml_term.specs.Tree.{Tree}
use Rattle.ml_stack.specs.Answers.{AreCopies}
use Rattle.ml_machine.specs.AnswersGathered.{AreCopied}
use Rattle.ml_machine.proofs.findall.copy_found.Given as goal

abbrev pub invariant-loop-answer : goal.invariant-loop-answer
invariant-loop-answer l = (all : List (List Tree)) → AreCopies l.answers l.found all → AreCopied l.fn.heap l.heap l.cells.items (take l.answer-index all)
