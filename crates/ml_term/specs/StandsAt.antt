-- Where the canonical bytes of a term stand among other bytes. The code reads a node at a time and
-- builds the term.
use Rattle.std.specs.Prelude.{◌≡◌, ℕ, ◌+◌, ◌≤◌, IsTrue, List, ◌++◌, length, drop}
use Rattle.ml_term.specs.Tree.{Tree, nodes, is_numbered}
use Rattle.ml_term.specs.CanonicalBytes.{bytes_of}
use Rattle.ml_term.specs.Valid.{is_valid}
use Rattle.ml_term.specs.Limits.{max_term_nodes}

-- The canonical bytes of a term of the language, whose variables are numbered from 0 by first
-- place, stand at a place and end before another.
pub record StandsAt (bytes : List ℕ) (at : ℕ) (t : Tree) (after : ℕ) : Type 0 where
  pub spelled : drop at bytes ≡ bytes_of t ++ drop after bytes
  pub ended : after ≡ at + length (bytes_of t)
  pub valid : IsTrue (is_valid t)
  pub numbered : IsTrue (is_numbered t)
  pub small : nodes t ≤ max_term_nodes
