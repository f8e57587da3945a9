-- Instances of terms: when two terms meet, whatever numbers their variables have.
use Rattle.std.specs.Prelude.{◌≡◌, ◌⊎◌, ◌&&◌, ℕ, Bool, true, false, IsTrue}
use Rattle.ml_term.specs.Tree.{Tree, Trees, variable, integer, atom, compound, no_trees, tree}
use Rattle.ml_term.specs.Tree.{occurs, is_ground, substitute}

-- whether some term is an instance of both, each with a substitution of its own
abbrev pub HaveACommonInstance : Tree → Tree → Type 0
HaveACommonInstance t u = (s : ℕ → Tree) × ((r : ℕ → Tree) × (substitute s t ≡ substitute r u))

-- whether no variable stands in both
abbrev pub AreApart : Tree → Tree → Type 0
AreApart t u = (n : ℕ) → IsTrue (occurs n t) → IsTrue (occurs n u) → ⊥

-- whether a term can be a head: an atom or a compound
abbrev pub is_head : Tree → Bool
is_head (variable n) = false
is_head (integer z) = false
is_head (atom f) = true
is_head (compound f ts) = true

abbrev mutual
  -- whether a term stands in another one: it is the term, or stands in one of its arguments
  pub StandsIn : Tree → Tree → Type 0
  StandsIn v (variable n) = v ≡ variable n
  StandsIn v (integer z) = v ≡ integer z
  StandsIn v (atom f) = v ≡ atom f
  StandsIn v (compound f ts) = (v ≡ compound f ts) ⊎ StandsAmong v ts

  pub StandsAmong : Tree → Trees → Type 0
  StandsAmong v no_trees = ⊥
  StandsAmong v (tree t ts) = StandsIn v t ⊎ StandsAmong v ts

-- whether every one of some terms is ground
abbrev pub all_ground : Trees → Bool
all_ground no_trees = true
all_ground (tree t ts) = is_ground t && all_ground ts
