-- The limits of a made run, as numbers. `limits_of_made_runs` says that the code's constants are
-- these.
use Rattle.std.specs.Prelude.{ℕ}

-- the most facts of made rules
abbrev pub max_made_facts : ℕ
max_made_facts = 20000

-- how many scripts a made run has
abbrev pub made_scripts : ℕ
made_scripts = 10
