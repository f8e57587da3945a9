-- The limits of terms, keys and codes, as numbers. `limits_of_terms` says that the code's constants
-- are these.
use Rattle.std.specs.Prelude.{ℕ}

-- the most bytes of a name
abbrev pub max_name_bytes : ℕ
max_name_bytes = 255

-- the most arguments of a compound
abbrev pub max_arguments : ℕ
max_arguments = 255

-- integers run from minus this number to this number less one
abbrev pub integer_offset : ℕ
integer_offset = 2305843009213693952

-- how many integers there are: twice the offset
abbrev pub integer_count : ℕ
integer_count = 4611686018427387904

-- the most keyed arguments of a declaration
abbrev pub max_keyed_arguments : ℕ
max_keyed_arguments = 8

-- a code tells the length of a name up to this number
abbrev pub max_coded_name_bytes : ℕ
max_coded_name_bytes = 63

-- the most nodes of a term that stands as bytes
abbrev pub max_term_nodes : ℕ
max_term_nodes = 4096
