-- As many arguments as a head has.
use Rattle.std.proofs.Common.{◌≡◌, refl}
use Rattle.ml_term.specs.Tree.{Tree, arity, variable, integer, atom, compound}
use Rattle.ml_term.specs.Keys.{arguments}
use Rattle.ml_search.specs.Program.{arity_of}

pub arguments_of_head : (t : Tree) → arity_of t ≡ arity (arguments t)
arguments_of_head (variable n) = refl
arguments_of_head (integer z) = refl
arguments_of_head (atom f) = refl
arguments_of_head (compound f ts) = refl
