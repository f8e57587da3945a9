-- What items of the code are seen as: the same, with trees in place of terms.
use Rattle.std.specs.Prelude.{ℕ, List, map}
use Rattle.ml_term.specs.Tree.{Tree}
use Rattle.ml_term.specs.Seen.{seen}
use Rattle.ml_term.specs.declared.term.Term.{Term}

-- the items that pairs of places and terms of the code are
abbrev pub items_seen : List (ℕ × Term) → List (ℕ × Tree)
items_seen = map (λ e. (e.0, seen e.1))
