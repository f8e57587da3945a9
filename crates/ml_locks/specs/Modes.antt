-- What contracts see of the locks: in which mode a session holds a unit. A unit is a declaration's
-- number with the prefix of a region of its file. The code has the sessions of each unit; here each
-- unit and session has a mode or none.
use Rattle.std.specs.Prelude.{ℕ, Bool, List, Option, slice_get}
use Rattle.std.specs.Option.{option_and_then}
use Rattle.std.specs.Ordering.{bool_cmp, eq_by_cmp, nat_cmp, ordering_then}
use Rattle.std.specs.Cmp.Lexicographic.{slice_cmp}
use Rattle.std.specs.FinMap as map
use Rattle.std.specs.declared.cmp.Ordering.{Ordering}
use Rattle.ml_desk.specs.declared.mode.Mode.{Mode}

-- prefixes and sessions in one order: by the prefix, and then by the session
abbrev pub slot_cmp : List Bool × ℕ → List Bool × ℕ → Ordering
slot_cmp first second = ordering_then (slice_cmp bool_cmp first.0 second.0)
    (nat_cmp first.1 second.1)

-- the locks of one file: the mode of each prefix and session, where the session holds the prefix
abbrev pub FileModes : Type 0
FileModes = map.FinMap slot_cmp Mode

-- the mode in which a session holds a prefix of one file, if it holds it
abbrev pub held_in : FileModes → ℕ → List Bool → Option Mode
held_in file session prefix = map.get file (prefix, session)

-- the locks of some files, one after another in the order of the declarations
abbrev pub Locks : Type 0
Locks = List FileModes

-- the mode in which a session holds a unit, if it holds it
abbrev pub mode_of : Locks → ℕ → ℕ → List Bool → Option Mode
mode_of locks session pred prefix =
    option_and_then (λ file. held_in file session prefix) (slice_get locks pred)

-- whether two prefixes are the same
abbrev pub same_bits : List Bool → List Bool → Bool
same_bits first second = eq_by_cmp (slice_cmp bool_cmp) first second
