use Rattle.ml_search.specs.inside.Unifying.{bindings_of, tree_of}
use Rattle.ml_search.proofs.Unifying.VariablesWalked.{Walk}
use Rattle.ml_search.proofs.unification.occurs.occurs.Given as goal

abbrev pub invariant-loop-i : goal.invariant-loop-i
invariant-loop-i l = Walk (bindings_of l.bindings.entries) l.variable (tree_of l.at) l.i l.met.keys
