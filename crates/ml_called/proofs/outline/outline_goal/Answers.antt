use Rattle.std.proofs.Common.{◌-◌, length, vec_len, ap, arith}
use Rattle.std.proofs.lemmas.List.{length-map}
use Rattle.ml_heap.specs.Changes.{stands_for, arguments_of}
use Rattle.ml_term.specs.Seen.{seen}
use Rattle.ml_called.proofs.GoalOutlines.{count_numbered}
use Rattle.ml_called.proofs.outline.outline_goal.Goals as goal

pub new-requires-clause-high : goal.new-requires-clause-high
new-requires-clause-high c =
    let ts = arguments_of (stands_for c.args.heap.now c.args.at) in
    omega (
      arith,
      length-map c.in_ok-args-in-Cmp.args.items seen,
      ap length c.in_ok-args-in-Cmp.ensures.variables,
      count_numbered (vec_len c.args.slots.now - c.args.env) ts,
      c.in-Cmp.ensures.shown.1,
    )
