-- What is kept while a term is read from bytes: where the reading has come, and what it met.
use Rattle.std.specs.Prelude.{◌≡◌, ℕ, ◌+◌, ◌≤◌, nat_le, IsTrue, Bool, true, ◌&&◌, List, [], ◌∷◌}
use Rattle.std.specs.Prelude.{◌++◌, length, drop, Some}
use Rattle.ml_term.specs.declared.reading.Progress.{Progress}
use Rattle.ml_term.specs.declared.stop.BytesStop.{BytesStop}
use Rattle.ml_term.specs.declared.stop.BytesStop.TheVariants.{Bad, OutOfMemory}
use Rattle.ml_term.specs.Tree.{Tree, Trees, variables, variables_of, nodes, nodes_of}
use Rattle.ml_term.specs.CanonicalBytes.{bytes_of, bytes_of_all}
use Rattle.ml_term.specs.Valid.{is_valid, are_valid}
use Rattle.ml_term.specs.Limits.{max_term_nodes}
use Rattle.ml_term.specs.FirstDefect.{met_after_variable, defect_from}

-- what is refused has this place, unless memory was refused
abbrev pub RefusesAt : BytesStop → (ℕ → Type 0) → Type 0
RefusesAt (Bad bad) P = P bad.place
RefusesAt OutOfMemory P = Unit {0}

-- how many variables were met after some variables
abbrev pub met_after_variables : ℕ → List ℕ → ℕ
met_after_variables met [] = met
met_after_variables met (n ∷ ns) = met_after_variables (met_after_variable met n) ns

-- whether each variable's number is at most the number of variables met before it
abbrev pub are_in_order : ℕ → List ℕ → Bool
are_in_order met [] = true
are_in_order met (n ∷ ns) = nat_le n met && are_in_order (met_after_variable met n) ns

-- a term was read, from one place to another
pub record IsRead (bytes : List ℕ) (before : Progress) (t : Tree) (after : Progress) : Type 0 where
  pub spelled : drop before.at bytes ≡ bytes_of t ++ drop after.at bytes
  pub ended : after.at ≡ before.at + length (bytes_of t)
  pub within : after.at ≤ length bytes
  pub valid : IsTrue (is_valid t)
  pub in_order : IsTrue (are_in_order before.met (variables t))
  pub met : after.met ≡ met_after_variables before.met (variables t)
  pub left : before.left ≡ nodes t + after.left
  pub room : after.met + after.left ≤ max_term_nodes

-- some terms were read one after the other
pub record AreRead (bytes : List ℕ) (before : Progress) (ts : Trees)
    (after : Progress) : Type 0 where
  pub spelled : drop before.at bytes ≡ bytes_of_all ts ++ drop after.at bytes
  pub ended : after.at ≡ before.at + length (bytes_of_all ts)
  pub within : after.at ≤ length bytes
  pub valid : IsTrue (are_valid ts)
  pub in_order : IsTrue (are_in_order before.met (variables_of ts))
  pub met : after.met ≡ met_after_variables before.met (variables_of ts)
  pub left : before.left ≡ nodes_of ts + after.left
  pub room : after.met + after.left ≤ max_term_nodes

-- So many terms should stand there, and a place is the first defect, however many nodes are wanted
-- behind them.
abbrev pub HasDefect : List ℕ → ℕ → Progress → ℕ → Type 0
HasDefect bytes wanted from place = (others : ℕ) →
    defect_from from.left (wanted + others) from.met from.at (drop from.at bytes) ≡ Some place
