-- The items of which first lists are made, and what the code does with one after another of them,
-- and with one list after another.
use Rattle.std.specs.Prelude.{◌≡◌, ℕ, zero, suc, ◌+◌, ◌++◌, List, [], ◌∷◌}
use Rattle.std.specs.List.{All}
use Rattle.ml_term.specs.Tree.{Tree}
use Rattle.ml_term.specs.declared.declaration.Decl.{Decl}
use Rattle.ml_term.specs.declared.declaration.Kind.TheVariants.{Relation}
use Rattle.ml_search.specs.Loading.{terms_for, first_list}
use Rattle.ml_loading.specs.KeyOrder.{size}

-- lists with one more term at the end of the one at a place
abbrev pub with_term : List (List Tree) → ℕ → Tree → List (List Tree)
with_term [] d t = []
with_term (ts ∷ lists) zero t = (ts ++ t ∷ []) ∷ lists
with_term (ts ∷ lists) (suc d) t = ts ∷ with_term lists d t

-- the terms of each declaration from a number on, in the order of the items
abbrev pub gathered : ℕ → List Decl → List (ℕ × Tree) → List (List Tree)
gathered d [] es = []
gathered d (q ∷ qs) es = terms_for d es ∷ gathered (1 + d) qs es

-- the first lists of declarations that have these terms
abbrev pub in_order : List Decl → List (List Tree) → List (List Tree)
in_order [] lists = []
in_order (q ∷ qs) [] = []
in_order (q ∷ qs) (ts ∷ lists) = first_list q.kind q.keys ts ∷ in_order qs lists

-- the terms of a relation have the declared number of arguments
abbrev pub IsSized : Decl → List Tree → Type 0
IsSized q ts = q.kind ≡ Relation → All (λ t. size t ≡ q.pred.arity) ts

-- there is a list for each declaration, and those of relations are so
abbrev pub AreSized : List Decl → List (List Tree) → Type 0
AreSized [] [] = Unit {0}
AreSized [] (ts ∷ lists) = ⊥
AreSized (q ∷ qs) [] = ⊥
AreSized (q ∷ qs) (ts ∷ lists) = IsSized q ts × AreSized qs lists
