-- Open cursors. Contracts see those of a session as a list, in the order of their numbers.
use Rattle.std.specs.Prelude.{ℕ, List, [], ◌∷◌, zero, suc, None, Some}
use Rattle.ml_bits.specs.BitList.{BitList}
use Rattle.ml_term.specs.declared.term.Term.{Term}
use Rattle.ml_views.specs.declared.cursors.Cursor.{Cursor}

-- a cursor that has given nothing yet
abbrev pub opened : ℕ → Term → ℕ → Cursor
opened pred pattern stamp = record {
  pred = pred;
  pattern = pattern;
  stamp = stamp;
  last_key = None;
}

-- the cursors after the one of this number gave the item under a key; all others stay
abbrev pub with_last_key : List Cursor → ℕ → BitList → List Cursor
with_last_key [] c key = []
with_last_key (x ∷ xs) zero key = record x { last_key = Some key } ∷ xs
with_last_key (x ∷ xs) (suc c) key = x ∷ with_last_key xs c key
