-- The first defect of bytes that should be a term's. They are read from the left, a node after the
-- other: a node is a variable, an integer or an atom, or the arity and the name of a compound. No
-- term is built: it is counted how many nodes are still wanted. The code reads by recursion on the
-- term.
use Rattle.std.specs.Prelude.{ℕ, zero, suc, ◌+◌, ◌==◌, nat_lt, if◌then◌else◌, List, [], ◌∷◌, length}
use Rattle.std.specs.Prelude.{take, drop, Option, Some, None}
use Rattle.std.specs.List.{prefix_len}
use Rattle.std.specs.Int.{from_be_bytes, w32, w64}
use Rattle.ml_term.specs.Names.{is_name_byte}
use Rattle.ml_term.specs.Limits.{integer_count, max_term_nodes}

-- What stands where a node is wanted: a whole node, by how many bytes it has, how many arguments it
-- wants, and how many variables were met after it; or a defect, by its place.
pub data NodeOrDefect : Type 0 where
  whole_node : ℕ → ℕ → ℕ → NodeOrDefect
  defect_at : ℕ → NodeOrDefect

-- how many variables were met after a variable, where so many were met before: the next number is a
-- new one's
abbrev pub met_after_variable : ℕ → ℕ → ℕ
met_after_variable met n = if n == met then met + 1 else met

-- the number of a variable, at most the number of variables met before
abbrev pub variable_or_defect : ℕ → ℕ → ℕ → NodeOrDefect
variable_or_defect met at n = if nat_lt met n then defect_at at
    else whole_node 5 0 (met_after_variable met n)

-- the 4 bytes of a variable's number behind the tag
abbrev pub variable_at : ℕ → ℕ → List ℕ → NodeOrDefect
variable_at met at bytes = if nat_lt (length bytes) 4 then defect_at (at + 1 + length bytes)
    else variable_or_defect met at (from_be_bytes w32 (take 4 bytes))

-- the 8 bytes of an integer behind the tag, a number below 4611686018427387904
abbrev pub integer_at : ℕ → ℕ → List ℕ → NodeOrDefect
integer_at met at bytes =
    if nat_lt (length bytes) 8 then defect_at (at + 1 + length bytes)
    else (if nat_lt (from_be_bytes w64 (take 8 bytes)) integer_count
    then whole_node 9 0 met else defect_at at)

-- a name of n bytes, where `good` of them stand there from the left: else the first that a name
-- can't have, or the end of the bytes, is the defect
abbrev pub name_or_defect : ℕ → ℕ → ℕ → ℕ → ℕ → ℕ → NodeOrDefect
name_or_defect front arguments met at n good =
    if good == n then whole_node (front + 1 + n) arguments met
    else defect_at (at + (front + 1 + good))

-- the length and the bytes of a name behind so many bytes of the node
abbrev pub name_at : ℕ → ℕ → ℕ → ℕ → List ℕ → NodeOrDefect
name_at front arguments met at [] = defect_at (at + front)
name_at front arguments met at (n ∷ bytes) =
    name_or_defect front arguments met at n (prefix_len is_name_byte (take n bytes))

-- the arity of a compound, which is not 0, and its name
abbrev pub compound_at : ℕ → ℕ → List ℕ → NodeOrDefect
compound_at met at [] = defect_at (at + 1)
compound_at met at (zero ∷ bytes) = defect_at (at + 1)
compound_at met at (suc n ∷ bytes) = name_at 2 (suc n) met at bytes

-- the node whose tag stands at a place, where so many variables were met before: the bytes from
-- there on
unfoldable pub node_at : ℕ → ℕ → List ℕ → NodeOrDefect
node_at met at [] = defect_at at
node_at met at (zero ∷ bytes) = variable_at met at bytes
node_at met at (suc zero ∷ bytes) = integer_at met at bytes
node_at met at (suc (suc zero) ∷ bytes) = name_at 1 0 met at bytes
node_at met at (suc (suc (suc zero)) ∷ bytes) = compound_at met at bytes
node_at met at (suc (suc (suc (suc tag))) ∷ bytes) = defect_at at

-- the first defect where a node stands, with the defects of what follows it
abbrev pub defect_after : (ℕ → ℕ → ℕ → Option ℕ) → NodeOrDefect → Option ℕ
defect_after others (whole_node size arguments met) = others size arguments met
defect_after others (defect_at place) = Some place

-- The first defect of the bytes from a place on, where so many nodes may still come, so many are
-- wanted, and so many variables were met. Where a node too many comes, its tag is the defect.
unfoldable pub defect_from : ℕ → ℕ → ℕ → ℕ → List ℕ → Option ℕ
defect_from left zero met at bytes = None
defect_from zero (suc wanted) met at bytes = Some at
defect_from (suc left) (suc wanted) met at bytes =
    defect_after (λ size arguments met'.
    defect_from left (arguments + wanted) met' (at + size) (drop size bytes))
    (node_at met at bytes)

-- the place of the first defect of the bytes from a place on, where one term's canonical bytes
-- should stand
unfoldable pub first_defect : List ℕ → ℕ → Option ℕ
first_defect bytes at = defect_from max_term_nodes 1 0 at (drop at bytes)
