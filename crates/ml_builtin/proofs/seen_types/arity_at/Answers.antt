-- A compound has as many arguments as its list.
use Rattle.std.proofs.Common.{sym, ◌∙◌}
use Rattle.ml_heap.specs.Changes.{stands_for}
use Rattle.ml_builtin.proofs.CellsMade.{list_arity}
use Rattle.ml_builtin.proofs.seen_types.arity_at.Goals as goal

pub returns-in-Cmp : goal.returns-in-Cmp
returns-in-Cmp c = sym (list_arity (stands_for c.args.heap.now c.args.at) ∙ c.in-Cmp.ensures.shown.1)
