-- Places of tuples in the order of keys. The code finds them by halves; here they are counted from
-- the front.
use Rattle.std.specs.Prelude.{◌≡◌, ℕ, zero, suc, List, [], ◌∷◌}
use Rattle.std.specs.declared.cmp.Ordering.TheVariants.{Less}
use Rattle.ml_search.specs.Db.{Item}
use Rattle.ml_term.specs.Keys.{tuple_cmp}
use Rattle.ml_term.specs.Tree.{Tree}

-- a tuple comes before each of some items
abbrev pub Precedes : List ℕ → Tree → List Item → Type 0
Precedes keys t [] = Unit {0}
Precedes keys t (i ∷ is) = (tuple_cmp keys t i.term ≡ Less) × Precedes keys t is

-- so many items come before a tuple, and it comes before the others
abbrev pub IsPlace : List ℕ → Tree → List Item → ℕ → Type 0
IsPlace keys t is zero = Precedes keys t is
IsPlace keys t [] (suc n) = ⊥
IsPlace keys t (i ∷ is) (suc n) = (tuple_cmp keys i.term t ≡ Less) × IsPlace keys t is n

-- a term stands at a place, from 0
abbrev pub StandsAt : Tree → List Item → ℕ → Type 0
StandsAt t [] n = ⊥
StandsAt t (i ∷ is) zero = i.term ≡ t
StandsAt t (i ∷ is) (suc n) = StandsAt t is n
