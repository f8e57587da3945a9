-- The texts of a made run.
use Rattle.std.specs.Prelude.{ℕ, ◌-◌, List, ◌++◌, codes}
use Rattle.std.specs.List.{flat_map}
use Rattle.ml_term.specs.Decimal.{decimal_text}
use Rattle.ml_make.specs.Facts.{made_facts}

-- the line of a fact with these arguments
abbrev pub fact_line : ℕ × ℕ → List ℕ
fact_line fact =
    codes "m(" ++ (decimal_text fact.0 ++ (codes "," ++ (decimal_text fact.1 ++ codes ").\n")))

-- the line that declares the relation
abbrev pub declaration_line : List ℕ
declaration_line = codes ":- relation(m/2).\n"

-- the rules of n facts: the declaration, and one line a fact
abbrev pub rules_text : ℕ → List ℕ
rules_text n = declaration_line ++ flat_map fact_line (made_facts n)

-- `m(Q,B)`, for this Q
abbrev pub goal_text : ℕ → List ℕ
goal_text q = codes "m(" ++ (decimal_text q ++ codes ",B)")

-- the script that asks for a goal's facts, deletes each third of them, and asks again
abbrev pub script_with : List ℕ → List ℕ
script_with goal = codes ":- budget(200000).\n?- " ++ (goal ++ (codes ".\n?- "
    ++ (goal ++ (codes ", 0 =:= B mod 3, delete_tuple(" ++ (goal ++ (codes ").\n?- "
    ++ (goal ++ codes ".\n")))))))

-- script k, counted from 1: that of the facts whose first argument is k - 1
abbrev pub script_text : ℕ → List ℕ
script_text k = script_with (goal_text (k - 1))
