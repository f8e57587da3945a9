-- A word on lists.
use Rattle.std.specs.Prelude.{List, length, nat_lt, if◌then◌else◌}

-- the longer of two lists, and the first where they are equally long
abbrev pub longer : {E : Type 0} → List E → List E → List E
longer xs ys = if nat_lt (length xs) (length ys) then ys else xs
