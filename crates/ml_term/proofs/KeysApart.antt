-- Items of a file have different keys, and none begins another: the tails of their keys tell them apart.
use Rattle.std.specs.Prelude.{◌≡◌, ℕ, ◌<◌, ◌^◌, Bool, true, ℤ, pos, negsuc, List, [], ◌∷◌, ◌++◌, length}
use Rattle.std.specs.Int.{to_be_bytes, from_be_bytes, w32, w64}
use Rattle.std.specs.Ordering.{bool_cmp}
use Rattle.std.specs.Cmp.Lexicographic.{slice_cmp}
use Rattle.std.proofs.Common.{refl, sym, ap, ◌∙◌, arith, append_assoc}
use Rattle.std.proofs.lemmas.Bool.{ltb-true}
use Rattle.std.proofs.lemmas.Nat.{from_be_bytes-to_be_bytes_4, from_be_bytes-to_be_bytes_8}
use Rattle.ml_term.specs.Tree.{Tree, Trees, variable, integer, atom, compound, no_trees, tree, arity}
use Rattle.ml_term.specs.Valid.{is_in_range, is_valid, are_valid}
use Rattle.ml_term.specs.CanonicalBytes.{counted_from_smallest, name_bytes, bytes_of, bytes_of_all}
use Rattle.ml_term.specs.Codes.{bits, byte_bits}
use Rattle.ml_term.specs.Keys.{key_head, tuple_key, clause_key}
use Rattle.ml_term.specs.Patterns.{same_bit, begins}
use Rattle.ml_term.proofs.Bits.{are_bytes, bits_compare}
use Rattle.ml_term.proofs.Orderings.{equal_numbers, same}
use Rattle.ml_term.proofs.CanonicalOrder.{counted_below}
use Rattle.ml_term.proofs.ValidBytes.{valid_bytes}
use Rattle.ml_term.proofs.KeyColumns.{and_first, and_second, same_bit_equal}
use Rattle.ml_term.proofs.FittingKeys.{length_of_bits, length_of_key_head}

-- lists of one length that begin two equal ones are equal, and so is what follows
pub same_parts : (xs ys zs ws : List ℕ) → length xs ≡ length ys → xs ++ zs ≡ ys ++ ws → (xs ≡ ys) × (zs ≡ ws)
same_parts [] [] zs ws l e = (refl, e)
same_parts [] (y ∷ ys) zs ws l e = absurd (omega arith)
same_parts (x ∷ xs) [] zs ws l e = absurd (omega arith)
same_parts (x ∷ xs) (y ∷ ys) zs ws l e = let p = same_parts xs ys zs ws (omega arith) (cc e) in let h : x ≡ y = cc e in (rw (h, p.0) refl, p.1)

names_parts : (f g zs ws : List ℕ) → name_bytes f ++ zs ≡ name_bytes g ++ ws → (f ≡ g) × (zs ≡ ws)
names_parts f g zs ws e = same_parts f g zs ws (cc e) (cc e)

counted_equal : (y z : ℤ) → is_in_range y ≡ true → is_in_range z ≡ true → counted_from_smallest y ≡ counted_from_smallest z → y ≡ z
counted_equal (pos m) (pos n) p q e = ap pos (omega (arith, e))
counted_equal (pos m) (negsuc n) p q e = absurd (omega (arith, e))
counted_equal (negsuc m) (pos n) p q e = absurd (omega (arith, e))
counted_equal (negsuc m) (negsuc n) p q e = ap negsuc (omega (arith, e, ltb-true m 2305843009213693952 p, ltb-true n 2305843009213693952 q))

variables_equal : (m n : ℕ) → m < 2 ^ 32 → n < 2 ^ 32 → to_be_bytes w32 m ≡ to_be_bytes w32 n → m ≡ n
variables_equal m n p q e = sym (from_be_bytes-to_be_bytes_4 m p) ∙ (ap (from_be_bytes w32) e ∙ from_be_bytes-to_be_bytes_4 n q)

integers_equal : (y z : ℤ) → is_in_range y ≡ true → is_in_range z ≡ true →
    to_be_bytes w64 (counted_from_smallest y) ≡ to_be_bytes w64 (counted_from_smallest z) → y ≡ z
integers_equal y z p q e =
    counted_equal y z p q
    (sym (from_be_bytes-to_be_bytes_8 (counted_from_smallest y) (omega (arith, counted_below y p)))
    ∙ (ap (from_be_bytes w64) e ∙ from_be_bytes-to_be_bytes_8 (counted_from_smallest z) (omega (arith, counted_below z q))))

valid_name : (f : List ℕ) (ts : Trees) → is_valid (compound f ts) ≡ true → are_valid ts ≡ true
valid_name f ts h = and_second _ (are_valid ts) h

mutual
  -- the bytes of valid terms tell where they end
  pub read_alike : (t u : Tree) (zs ws : List ℕ) → is_valid t ≡ true → is_valid u ≡ true → bytes_of t ++ zs ≡ bytes_of u ++ ws → (t ≡ u) × (zs ≡ ws)
  read_alike (variable m) (variable n) zs ws p q e =
      let s = same_parts (to_be_bytes w32 m) (to_be_bytes w32 n) zs ws refl (cc e) in
      (ap variable (variables_equal m n (ltb-true m (2 ^ 32) p) (ltb-true n (2 ^ 32) q) s.0), s.1)
  read_alike (integer y) (integer z) zs ws p q e = let s =
      same_parts (to_be_bytes w64 (counted_from_smallest y)) (to_be_bytes w64 (counted_from_smallest z)) zs ws refl (cc e) in
      (ap integer (integers_equal y z p q s.0), s.1)
  read_alike (atom f) (atom g) zs ws p q e = let s = names_parts f g zs ws (cc e) in (ap atom s.0, s.1)
  read_alike (compound f ts) (compound g us) zs ws p q e =
      let a : arity ts ≡ arity us = cc e in
      let r : (name_bytes f ++ bytes_of_all ts) ++ zs ≡ (name_bytes g ++ bytes_of_all us) ++ ws = cc e in
      let s = names_parts f g (bytes_of_all ts ++ zs) (bytes_of_all us ++ ws)
      (sym (append_assoc (name_bytes f) (bytes_of_all ts) zs) ∙ (r ∙ append_assoc (name_bytes g) (bytes_of_all us) ws)) in
      let o = read_all_alike ts us zs ws a (valid_name f ts p) (valid_name g us q) s.1 in
      (rw (s.0, o.0) refl, o.1)
  read_alike (variable m) (integer z) zs ws p q e = absurd (cc e)
  read_alike (variable m) (atom g) zs ws p q e = absurd (cc e)
  read_alike (variable m) (compound g us) zs ws p q e = absurd (cc e)
  read_alike (integer y) (variable n) zs ws p q e = absurd (cc e)
  read_alike (integer y) (atom g) zs ws p q e = absurd (cc e)
  read_alike (integer y) (compound g us) zs ws p q e = absurd (cc e)
  read_alike (atom f) (variable n) zs ws p q e = absurd (cc e)
  read_alike (atom f) (integer z) zs ws p q e = absurd (cc e)
  read_alike (atom f) (compound g us) zs ws p q e = absurd (cc e)
  read_alike (compound f ts) (variable n) zs ws p q e = absurd (cc e)
  read_alike (compound f ts) (integer z) zs ws p q e = absurd (cc e)
  read_alike (compound f ts) (atom g) zs ws p q e = absurd (cc e)

  pub read_all_alike : (ts us : Trees) (zs ws : List ℕ) → arity ts ≡ arity us → are_valid ts ≡ true → are_valid us ≡ true →
      bytes_of_all ts ++ zs ≡ bytes_of_all us ++ ws → (ts ≡ us) × (zs ≡ ws)
  read_all_alike no_trees no_trees zs ws a p q e = (refl, e)
  read_all_alike no_trees (tree u us) zs ws a p q e = absurd (omega arith)
  read_all_alike (tree t ts) no_trees zs ws a p q e = absurd (omega arith)
  read_all_alike (tree t ts) (tree u us) zs ws a p q e =
      let s = read_alike t u (bytes_of_all ts ++ zs) (bytes_of_all us ++ ws) (and_first (is_valid t) (are_valid ts) p) (and_first (is_valid u) (are_valid us) q)
      (sym (append_assoc (bytes_of t) (bytes_of_all ts) zs) ∙ (e ∙ append_assoc (bytes_of u) (bytes_of_all us) ws)) in
      let o = read_all_alike ts us zs ws (omega arith) (and_second (is_valid t) (are_valid ts) p) (and_second (is_valid u) (are_valid us) q) s.1 in
      (rw (s.0, o.0) refl, o.1)

-- lists of bits of one length in front
begins_parts : (xs ys zs ws : List Bool) → length xs ≡ length ys → begins (xs ++ zs) (ys ++ ws) ≡ true → (xs ≡ ys) × (begins zs ws ≡ true)
begins_parts [] [] zs ws l e = (refl, e)
begins_parts [] (y ∷ ys) zs ws l e = absurd (omega arith)
begins_parts (x ∷ xs) [] zs ws l e = absurd (omega arith)
begins_parts (x ∷ xs) (y ∷ ys) zs ws l e =
    let p = begins_parts xs ys zs ws (omega arith) (and_second (same_bit x y) (begins (xs ++ zs) (ys ++ ws)) e) in
    let h : x ≡ y = same_bit_equal x y (and_first (same_bit x y) (begins (xs ++ zs) (ys ++ ws)) e) in
    (rw (h, p.0) refl, p.1)

begins_equal : (xs ys : List Bool) → length xs ≡ length ys → begins xs ys ≡ true → xs ≡ ys
begins_equal [] [] l e = refl
begins_equal [] (y ∷ ys) l e = absurd (omega arith)
begins_equal (x ∷ xs) [] l e = absurd (omega arith)
begins_equal (x ∷ xs) (y ∷ ys) l e = rw (
  same_bit_equal x y (and_first (same_bit x y) (begins xs ys) e),
  begins_equal xs ys (omega arith) (and_second (same_bit x y) (begins xs ys) e),
) refl

equal_bits : (k v w : ℕ) → v < 2 ^ k → w < 2 ^ k → bits k v ≡ bits k w → v ≡ w
equal_bits k v w p q e = equal_numbers v w (sym (bits_compare k v w p q)
    ∙ (ap (λ z. slice_cmp bool_cmp z (bits k w)) e ∙ (bits_compare k w w q q ∙ same w w refl)))

put_before : (x y : ℕ) (xs ys : List ℕ) → x ≡ y → xs ≡ ys → x ∷ xs ≡ y ∷ ys
put_before x y xs ys p q = rw (p, q) refl

bytes_begin : (xs ys : List ℕ) → are_bytes xs ≡ true → are_bytes ys ≡ true → begins (byte_bits xs) (byte_bits ys) ≡ true → (zs : List ℕ) × (ys ≡ xs ++ zs)
bytes_begin [] ys p q e = (ys, refl)
bytes_begin (x ∷ xs) [] p q e = absurd (cc e)
bytes_begin (x ∷ xs) (y ∷ ys) p q e =
    let s = begins_parts (bits 8 x) (bits 8 y) (byte_bits xs) (byte_bits ys) (length_of_bits 8 x ∙ sym (length_of_bits 8 y)) e in
    let h : y ≡ x = sym (equal_bits 8 x y (ltb-true x 256 (and_first _ (are_bytes xs) p)) (ltb-true y 256 (and_first _ (are_bytes ys) q)) s.0) in
    let r = bytes_begin xs ys (and_second _ (are_bytes xs) p) (and_second _ (are_bytes ys) q) s.1 in
    (r.0, put_before y x ys (xs ++ r.0) h r.1)

nothing_behind : (xs : List ℕ) → xs ++ [] ≡ xs
nothing_behind [] = refl
nothing_behind (x ∷ xs) = put_before x x (xs ++ []) xs refl (nothing_behind xs)

heads_as_long : (keys : List ℕ) (t u : Tree) → length (key_head keys t) ≡ length (key_head keys u)
heads_as_long keys t u = length_of_key_head keys t ∙ sym (length_of_key_head keys u)

pub tuples_apart : (keys : List ℕ) (t u : Tree) → is_valid t ≡ true → is_valid u ≡ true → begins (tuple_key keys t) (tuple_key keys u) ≡ true → t ≡ u
tuples_apart keys t u p q e =
    let s = begins_parts (key_head keys t) (key_head keys u) (byte_bits (bytes_of t)) (byte_bits (bytes_of u)) (heads_as_long keys t u) e in
    let r = bytes_begin (bytes_of t) (bytes_of u) (valid_bytes t p) (valid_bytes u q) s.1 in
    (read_alike t u r.0 [] p q (sym r.1 ∙ sym (nothing_behind (bytes_of u)))).0

pub clauses_apart : (keys : List ℕ) (h g : Tree) (m n : ℕ) → m < 2 ^ 64 → n < 2 ^ 64 → begins (clause_key keys h m) (clause_key keys g n) ≡ true → m ≡ n
clauses_apart keys h g m n p q e =
    let s = begins_parts (key_head keys h) (key_head keys g) (bits 64 m) (bits 64 n) (heads_as_long keys h g) e in
    equal_bits 64 m n p q (begins_equal (bits 64 m) (bits 64 n) (length_of_bits 64 m ∙ sym (length_of_bits 64 n)) s.1)
