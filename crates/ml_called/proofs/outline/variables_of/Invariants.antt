-- The first arguments have their variables, and their cells stand behind the slots.
use Rattle.std.proofs.Common.{◌≡◌, ◌-◌, ◌≤◌, take, vec_len}
use Rattle.ml_heap.specs.Changes.{stands_for, arguments_of}
use Rattle.ml_term.specs.Seen.{all_seen}
use Rattle.ml_called.specs.Called.{numbered}
use Rattle.ml_called.specs.inside.Outlines.{HasCells, Begins}
use Rattle.ml_called.proofs.outline.variables_of.Given as goal

abbrev pub invariant-loop-i : goal.invariant-loop-i
invariant-loop-i l = record {
  small : l.i ≤ l.arity;
  variables : all_seen l.args.items ≡ numbered (vec_len l.fn.slots - l.env) (take l.i (arguments_of (stands_for l.heap l.at)));
  cells : HasCells l.heap l.fn.slots.items l.slots.items (take l.i (arguments_of (stands_for l.heap l.at)));
  begins : Begins l.fn.slots.items l.slots.items;
}
