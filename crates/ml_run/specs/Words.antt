-- The words of the command. The code looks at one after another; here they are one list.
use Rattle.std.specs.Prelude.{◌≡◌, ◌≤◌, ◌+◌, ◌==◌, not, ℕ, Bool, false, IsTrue, List, [], ◌∷◌, map}
use Rattle.std.specs.Prelude.{length, codes}
use Rattle.std.specs.List.{list_all}
use Rattle.std.specs.Borrow.{Bor}
use Rattle.ml_run.specs.Limits.{max_scripts}

-- the words as texts
abbrev pub texts : List (Bor (List ℕ)) → List (List ℕ)
texts words = map (λ word. word.now) words

-- whether a word may be a name: it isn't empty and doesn't begin with `-`
abbrev pub is_file_name : List ℕ → Bool
is_file_name [] = false
is_file_name (b ∷ rest) = not (b == 45)

-- `serial RULES SCRIPT*`, with at most so many scripts
pub record AreWords (words : List (List ℕ)) (rules : List ℕ)
    (scripts : List (List ℕ)) : Type 0 where
  pub are : words ≡ codes "serial" ∷ rules ∷ scripts
  pub rules_name : IsTrue (is_file_name rules)
  pub script_names : IsTrue (list_all is_file_name scripts)
  pub few : length scripts ≤ max_scripts

-- the words aren't of the form
abbrev pub AreBad : List (List ℕ) → Type 0
AreBad words = (rules : List ℕ) (scripts : List (List ℕ)) → AreWords words rules scripts → ⊥

-- the words are of the form, and the one with this number names a file: the rules, or script i - 1
abbrev pub NamesFile : List (List ℕ) → ℕ → Type 0
NamesFile words i =
    (rules : List ℕ) × (scripts : List (List ℕ)) × AreWords words rules scripts × (1 ≤ i)
    × (i ≤ 1 + length scripts)
