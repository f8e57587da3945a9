-- Terms of the worked rows.
use Rattle.std.specs.Prelude.{ℕ, pos, codes}
use Rattle.ml_term.specs.Tree.{Tree, integer, compound_2}

-- the tuple q(m,n)
abbrev pub q : ℕ → ℕ → Tree
q m n = compound_2 (codes "q") (integer (pos m)) (integer (pos n))
