-- The tree that a term is seen as.
use Rattle.std.specs.Prelude.{List, map}
use Rattle.ml_term.specs.Tree.{Tree, variable, integer, atom, compound, trees_of}
use Rattle.ml_term.specs.declared.term.Term.{Term, Term-F, fold-Term}

-- one level, with each argument already seen as its tree
abbrev pub seen_step : Term-F Tree → Tree
seen_step (Term-F.Var n) = variable n
seen_step (Term-F.Int z) = integer z
seen_step (Term-F.Atom f) = atom f
seen_step (Term-F.Cmp f ts) = compound f (trees_of ts)

-- the tree of a term
abbrev pub seen : Term → Tree
seen = fold-Term Tree seen_step

-- the trees of some terms
abbrev pub all_seen : List Term → List Tree
all_seen ts = map seen ts
