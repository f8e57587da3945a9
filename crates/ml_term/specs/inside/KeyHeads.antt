-- The head of a key by the arguments alone.
use Rattle.std.specs.Prelude.{ℕ, Bool, List, map}
use Rattle.ml_term.specs.Tree.{Trees}
use Rattle.ml_term.specs.Codes.{code}
use Rattle.ml_term.specs.Keys.{argument, interleave}

-- the codes of the arguments that keys name, in the order of the keys
abbrev pub keyed_codes : List ℕ → Trees → List (List Bool)
keyed_codes keys ts = map code (map (λ k. argument k ts) keys)

-- their bits in turn
abbrev pub key_head_of : List ℕ → Trees → List Bool
key_head_of keys ts = interleave 64 (keyed_codes keys ts)
