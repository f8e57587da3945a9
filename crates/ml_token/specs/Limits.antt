-- The limits of a token, as numbers. The clauses of `next_token` say that the code keeps to them.
use Rattle.std.specs.Prelude.{ℕ}

-- the most bytes of a name or a variable's name, after escapes
abbrev pub max_name_bytes : ℕ
max_name_bytes = 255

-- the largest number that digits may spell. The reader takes it only behind a minus
abbrev pub max_number : ℕ
max_number = 2305843009213693952
