use Rattle.std.proofs.Common.{◌≡◌, ◌++◌, drop, map, slice_index}
use Rattle.std.specs.List.{filter}
use Rattle.ml_search.specs.Session.{is_shown}
use Rattle.ml_machine.proofs.begin.shown_cells.Given as goal

-- the cells so far, and then those of the variables that are left
abbrev pub invariant-loop-name : goal.invariant-loop-name
invariant-loop-name l =
    l.cells.items ++ map (λ e. slice_index l.slots e.1) (filter is_shown (drop l.name-index l.names))
    ≡ map (λ e. slice_index l.slots e.1) (filter is_shown l.names)
