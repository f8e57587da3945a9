-- Tables by name, searched from their beginning; the code compares names by a match.
use Rattle.std.specs.Prelude.{ℕ, List, [], ◌∷◌, Option, Some, None, if◌then◌else◌}
use Rattle.std.specs.Str.{bytes_eq}

-- what a table has under a name
abbrev pub look_up : {A : Type 0} → List (List ℕ × A) → List ℕ → Option A
look_up [] f = None
look_up (e ∷ es) f = if bytes_eq e.0 f then Some e.1 else look_up es f
