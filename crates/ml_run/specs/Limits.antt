-- The limits of a run, as numbers. `limits_of_runs` says that the code's constants are these.
use Rattle.std.specs.Prelude.{ℕ}

-- the most bytes of a rules file and of a script
abbrev pub max_text_bytes : ℕ
max_text_bytes = 1048576

-- the most scripts of a run
abbrev pub max_scripts : ℕ
max_scripts = 64
