-- Clauses that are given with a body.
use Rattle.std.specs.Prelude.{Bool, true, false, codes}
use Rattle.std.specs.Str.{bytes_eq}
use Rattle.ml_term.specs.Tree.{Tree, compound, no_trees, tree}

-- whether a term is `:-` of two arguments
abbrev pub is_rule : Tree → Bool
is_rule (compound f (tree h (tree b no_trees))) = bytes_eq f (codes ":-")
is_rule t = false

-- whether a term is a compound of two arguments
abbrev pub is_pair : Tree → Bool
is_pair (compound f (tree t (tree u no_trees))) = true
is_pair t = false
