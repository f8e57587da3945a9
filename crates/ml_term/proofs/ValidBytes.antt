-- The canonical bytes of a valid term are bytes.
use Rattle.std.specs.Prelude.{◌≡◌, ◌⊎◌, ℕ, zero, suc, ◌^◌, ◌/◌, nat_lt, nat_le, true, ◌&&◌, List, [], ◌∷◌, ◌++◌, length}
use Rattle.std.specs.List.{list_all}
use Rattle.std.specs.Int.{bytes_high_first, byte_at}
use Rattle.std.proofs.Common.{refl, arith, inl, inr}
use Rattle.std.proofs.lemmas.Bool.{and_parts, and_from, or_cases, leb-true, lt-ltb}
use Rattle.std.proofs.lemmas.Nat.{mod_below}
use Rattle.ml_term.specs.Names.{is_name, is_name_byte}
use Rattle.ml_term.specs.Tree.{Tree, Trees, variable, integer, atom, compound, no_trees, tree, arity}
use Rattle.ml_term.specs.CanonicalBytes.{counted_from_smallest, name_bytes, bytes_of, bytes_of_all}
use Rattle.ml_term.specs.Valid.{is_valid, are_valid}
use Rattle.ml_term.proofs.Bits.{are_bytes}
use Rattle.ml_term.proofs.CanonicalOrder.{byte_at_is}

pub are_bytes-append : (xs ys : List ℕ) → are_bytes xs ≡ true → are_bytes ys ≡ true → are_bytes (xs ++ ys) ≡ true
are_bytes-append [] ys p q = q
are_bytes-append (x ∷ xs) ys p q = let parts = and_parts _ _ p in and_from _ _ parts.0 (are_bytes-append xs ys parts.1 q)

number_bytes : (k n : ℕ) → are_bytes (bytes_high_first k n) ≡ true
number_bytes zero n = refl
number_bytes (suc k) n = and_from _ _ (lt-ltb (byte_at k n) 256 (omega (arith, byte_at_is k n, mod_below (n / 256 ^ k) 256 (omega arith)))) (number_bytes k n)

name_byte_fits : (b : ℕ) → is_name_byte b ≡ true → nat_lt b 256 ≡ true
name_byte_fits b e = by (or_cases _ _ e)
  where
    by : ((nat_le 7 b && nat_le b 13) ≡ true) ⊎ ((nat_le 32 b && nat_le b 126) ≡ true) → nat_lt b 256 ≡ true
    by (inl h) = let low = leb-true b 13 (and_parts (nat_le 7 b) (nat_le b 13) h).1 in lt-ltb b 256 (omega arith)
    by (inr h) = let low = leb-true b 126 (and_parts (nat_le 32 b) (nat_le b 126) h).1 in lt-ltb b 256 (omega arith)

all_name_bytes_fit : (f : List ℕ) → list_all is_name_byte f ≡ true → are_bytes f ≡ true
all_name_bytes_fit [] e = refl
all_name_bytes_fit (b ∷ f) e = let parts = and_parts _ _ e in and_from _ _ (name_byte_fits b parts.0) (all_name_bytes_fit f parts.1)

name_bytes_fit : (f : List ℕ) → is_name f ≡ true → are_bytes (name_bytes f) ≡ true
name_bytes_fit f e =
    let parts = and_parts _ _ e in
    let short = leb-true (length f) 255 parts.0 in
    and_from _ _ (lt-ltb (length f) 256 (omega arith)) (all_name_bytes_fit f parts.1)

mutual
  pub valid_bytes : (t : Tree) → is_valid t ≡ true → are_bytes (bytes_of t) ≡ true
  valid_bytes (variable n) e = number_bytes 4 n
  valid_bytes (integer z) e = number_bytes 8 (counted_from_smallest z)
  valid_bytes (atom f) e = name_bytes_fit f e
  valid_bytes (compound f ts) e =
      let parts = and_parts _ _ e in
      let shape = and_parts _ _ parts.0 in
      let name = and_parts _ _ shape.0 in
      let few = leb-true (arity ts) 255 shape.1 in
      and_from _ _ (lt-ltb (arity ts) 256 (omega arith)) (are_bytes-append (name_bytes f) (bytes_of_all ts) (name_bytes_fit f name.0)
      (valid_bytes_of_all ts parts.1))

  pub valid_bytes_of_all : (ts : Trees) → are_valid ts ≡ true → are_bytes (bytes_of_all ts) ≡ true
  valid_bytes_of_all no_trees e = refl
  valid_bytes_of_all (tree t ts) e =
      let parts = and_parts _ _ e in are_bytes-append (bytes_of t) (bytes_of_all ts) (valid_bytes t parts.0) (valid_bytes_of_all ts parts.1)
