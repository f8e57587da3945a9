-- Keys of the worked rows.
use Rattle.std.specs.Prelude.{ℕ, ◌+◌, pos, Bool, true, false, List, [], ◌∷◌, map, replicate, codes}
use Rattle.ml_term.specs.Tree.{variable, integer, compound_1}
use Rattle.ml_term.specs.Keys.{tuple_key, clause_key, numbers_from}

-- the keys of the tuples p(first), p(first + 1) and so on, so many of them
abbrev pub tuple_keys : ℕ → ℕ → List (List Bool)
tuple_keys first count = map (λ n. tuple_key (1 ∷ []) (compound_1 (codes "p") (integer (pos n))))
    (numbers_from first count)

-- the keys of the stored clauses c(first), c(first + 1) and so on, so many of them, whose storage
-- numbers are greater by one
abbrev pub clause_keys : ℕ → ℕ → List (List Bool)
clause_keys first count = map (λ n.
    clause_key (1 ∷ []) (compound_1 (codes "c") (integer (pos n))) (n + 1))
    (numbers_from first count)

-- the key of the stored clause c(X) with the storage number 0
abbrev pub variable_key : List Bool
variable_key = clause_key (1 ∷ []) (compound_1 (codes "c") (variable 0)) 0

-- 011 and so many zeros: what the codes of small numbers begin with
abbrev pub small_numbers : ℕ → List Bool
small_numbers zeros = false ∷ true ∷ true ∷ replicate zeros false
