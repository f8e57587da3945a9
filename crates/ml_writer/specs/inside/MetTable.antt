-- The variables that a line met, each once, by first place. The code keeps beside this list a map
-- to the number of each. No public clause cites this module.
use Rattle.std.specs.Prelude.{◌≡◌, ℕ, List, Option, Some, None, if◌then◌else◌}
use Rattle.std.specs.BTreeMap.{BTreeMap, get, IsOrdered}
use Rattle.std.specs.Ordering.{nat_cmp}
use Rattle.ml_term.specs.Tree.{firsts, has}
use Rattle.ml_term.specs.Text.{number_in}

-- the number of a variable, if the line met it
abbrev pub number_if_met : List ℕ → ℕ → Option ℕ
number_if_met met n = if has n met then Some (number_in met n) else None

-- the map has the number of each variable
pub record IsMetTable (met : List ℕ) (numbers : BTreeMap ℕ ℕ) : Type 0 where
  pub once : firsts met ≡ met
  pub found : (n : ℕ) → get nat_cmp numbers n ≡ number_if_met met n
  pub ordered : IsOrdered nat_cmp numbers
