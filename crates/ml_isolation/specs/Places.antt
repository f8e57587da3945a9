-- Places of items, below that of an entry to come.
use Rattle.std.specs.Prelude.{◌≡◌, ℕ, nat_lt, Bool, true, false}
use Rattle.std.specs.List.{list_all}
use Rattle.ml_search.specs.Db.{Place, at, mine, Db}

-- whether a place is that of an entry, or of loaded items, and below a number
abbrev pub is_below : ℕ → Place → Bool
is_below k (at n) = nat_lt n k
is_below k mine = false

-- whether this holds of the place of each item of the lists
abbrev pub are_below : ℕ → Db → Bool
are_below k = list_all (list_all (λ i. is_below k i.id.place))

-- each item was loaded, or committed by an entry whose place is below a number
abbrev pub AreBelow : ℕ → Db → Type 0
AreBelow k db = are_below k db ≡ true
