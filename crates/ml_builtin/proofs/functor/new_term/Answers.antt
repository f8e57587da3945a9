-- Without arguments it is the name itself.
use Rattle.ml_heap.specs.Changes.{variable_count}
use Rattle.ml_builtin.proofs.CellsMade.{no_new_variables}
use Rattle.ml_builtin.proofs.functor.new_term.Goals as goal

pub returns-then-arity-eq0-clause-made : goal.returns-then-arity-eq0-clause-made
returns-then-arity-eq0-clause-made c = no_new_variables c.args.heap.now c.args.n c.args.arity (variable_count c.args.heap.now) c.requires c.if-arity-eq0.true
