-- The trees of lists of terms. The code keeps for each term that it is one of the language.
use Rattle.std.specs.Prelude.{List, map, Vec}
use Rattle.std.specs.declared.alloc.Global.{Global}
use Rattle.ml_term.specs.Seen.{seen}
use Rattle.ml_term.specs.Tree.{Tree}
use Rattle.ml_loading.specs.declared.valid_term.ValidTerm.{ValidTerm}

-- the trees of terms
abbrev pub trees : List ValidTerm → List Tree
trees = map (λ t. seen t.term)

-- the trees of lists of terms
abbrev pub all_trees : List (Vec ValidTerm Global) → List (List Tree)
all_trees = map (λ l. trees l.items)
