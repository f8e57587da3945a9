-- The limits of the words, as numbers. `limits_of_words` says that the code's constants are these.
use Rattle.std.specs.Prelude.{ℕ}

-- the most scripts of a run
abbrev pub max_scripts : ℕ
max_scripts = 64

-- the greatest number of `make`
abbrev pub max_made_facts : ℕ
max_made_facts = 20000

-- the most digits of the number of `make`
abbrev pub max_made_digits : ℕ
max_made_digits = 5
