-- The limits of a text, as numbers. The clauses of `read_clauses` say that the code keeps to them;
-- those of terms stand in ml_term.
use Rattle.std.specs.Prelude.{ℕ}

-- the most levels that may be open at once: each bracket is one until it closes, and each operator
-- until its right operand ends
abbrev pub max_text_levels : ℕ
max_text_levels = 1000

-- the most tokens of a clause, its end among them
abbrev pub max_clause_tokens : ℕ
max_clause_tokens = 16384
