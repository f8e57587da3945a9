-- The last key of a cursor in a list, after it was written.
use Rattle.std.proofs.Common.{◌≡◌, ℕ, zero, suc, ◌<◌, List, [], ◌∷◌, length, get_or, set, ap, Some, arith}
use Rattle.ml_bits.specs.BitList.{BitList}
use Rattle.ml_views.specs.OpenCursors.{with_last_key}
use Rattle.ml_views.specs.declared.cursors.Cursor.{Cursor}

pub set_last_key : (xs : List Cursor) (c : ℕ) (x : Cursor) (key : BitList) → c < length xs → x ≡ get_or xs c x
    → set xs c (record x { last_key = Some key }) ≡ with_last_key xs c key
set_last_key [] c x key l e = absurd (omega (arith, l))
set_last_key (y ∷ xs) zero x key l e = ap (λ (z : Cursor). record z { last_key = Some key } ∷ xs) e
set_last_key (y ∷ xs) (suc c) x key l e =
    let w : c < length xs = omega (arith, l) in
    ap (λ zs. y ∷ zs) (set_last_key xs c x key w e)
