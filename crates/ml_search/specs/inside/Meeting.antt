-- Variables that are met, each once, in the order of their first places. No public clause cites
-- this module.
use Rattle.std.specs.Prelude.{ℕ, if◌then◌else◌, List, [], ◌∷◌, ◌++◌}
use Rattle.ml_term.specs.Tree.{has}

-- the variables that were met, after some more
abbrev pub variables_met : List ℕ → List ℕ → List ℕ
variables_met met [] = met
variables_met met (n ∷ ns) = variables_met (if has n met then met else met ++ n ∷ []) ns
