-- The order in which the code sorts tuples. It is that of keys where the tuples have the declared
-- number of arguments, as those of a relation have.
use Rattle.std.specs.Prelude.{ℕ, ◌==◌, ◌&&◌, List, if◌then◌else◌}
use Rattle.std.specs.declared.cmp.Ordering.{Ordering}
use Rattle.std.specs.Ordering.{nat_cmp}
use Rattle.ml_term.specs.Tree.{Tree, arity}
use Rattle.ml_term.specs.Keys.{arguments, tuple_cmp}

-- how many arguments a term has
abbrev pub size : Tree → ℕ
size t = arity (arguments t)

-- of terms with n arguments by their keys, and otherwise by how many arguments they have
unfoldable pub place_cmp : List ℕ → ℕ → Tree → Tree → Ordering
place_cmp keys n t u =
    if (size t == n) && (size u == n) then tuple_cmp keys t u else nat_cmp (size t) (size u)
