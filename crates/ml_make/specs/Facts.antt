-- The generator: which facts made rules have.
use Rattle.std.specs.Prelude.{ℕ, zero, suc, ◌+◌, ◌*◌, ◌/◌, ◌%◌, List, [], ◌∷◌}

-- the generator's number behind x, below 2 to the power of 32
abbrev pub number_behind : ℕ → ℕ
number_behind x = (1664525 * x + 1013904223) % 4294967296

-- the first argument that a number of the generator gives, 0 to 9
abbrev pub first_argument : ℕ → ℕ
first_argument x = x / 65536 % 10

-- the arguments of so many facts, from the fact with this number on, behind this number of the
-- generator
abbrev pub facts_from : ℕ → ℕ → ℕ → List (ℕ × ℕ)
facts_from zero i x = []
facts_from (suc n) i x =
    (first_argument (number_behind x), i) ∷ facts_from n (i + 1) (number_behind x)

-- the arguments of the facts of made rules: the generator begins at 0, and facts are numbered from
-- 1
abbrev pub made_facts : ℕ → List (ℕ × ℕ)
made_facts n = facts_from n 1 0
