-- Canonical bytes tell their term, and keys their tuple: neither begin those of another.
use Rattle.std.specs.Prelude.{◌≡◌, ℕ, ◌^◌, ◌==◌, ◌<◌, ◌⊎◌, Bool, true, false, ◌||◌, not, List, [], ◌∷◌, ◌++◌, length}
use Rattle.std.specs.declared.cmp.Ordering.TheVariants.{Equal}
use Rattle.std.specs.Ordering.{nat_cmp, bool_cmp, ordering_then}
use Rattle.std.specs.Cmp.Lexicographic.{slice_cmp}
use Rattle.std.proofs.Common.{refl, sym, ap, ◌∙◌, arith, inl, inr, append_assoc}
use Rattle.std.proofs.lemmas.Bool.{and_parts, or_cases, ltb-true, eq-eqb}
use Rattle.std.proofs.lemmas.Map.Lookups.{exact_signed}
use Rattle.ml_term.specs.Tree.{Tree, Trees, variable, integer, atom, compound, no_trees, tree, arity}
use Rattle.ml_term.specs.CanonicalBytes.{name_bytes, bytes_of, bytes_of_all}
use Rattle.ml_term.specs.Codes.{bits, byte_bits}
use Rattle.ml_term.specs.Keys.{arguments, tuple_key, clause_key}
use Rattle.ml_term.specs.inside.KeyHeads.{key_head_of}
use Rattle.ml_term.specs.Patterns.{begins, same_bit}
use Rattle.ml_term.specs.Valid.{is_valid, are_valid}
use Rattle.ml_term.proofs.Orderings.{equal_numbers, same}
use Rattle.ml_term.proofs.Bits.{are_bytes, bits_compare, length-bits}
use Rattle.ml_term.proofs.CanonicalOrder.{settled, settled_names, settled_bytes, variables_compare, integers_compare}
use Rattle.ml_term.proofs.ValidBytes.{valid_bytes}
use Rattle.ml_term.proofs.KeyOrder.{length-head_of}

-- lists of one length before others
pub parted : {A : Type 0} (cs bs xs ys : List A) → length cs ≡ length bs → cs ++ xs ≡ bs ++ ys → (cs ≡ bs) × (xs ≡ ys)
parted [] [] xs ys l e = (refl, e)
parted [] (b ∷ bs) xs ys l e = absurd (omega (arith, l))
parted (a ∷ cs) [] xs ys l e = absurd (omega (arith, l))
parted (a ∷ cs) (b ∷ bs) xs ys l e =
    let first : a ≡ b = cc in
    let others : cs ++ xs ≡ bs ++ ys = cc in
    let rest = parted cs bs xs ys (omega (arith, l)) others in
    ((λ i. first i ∷ rest.0 i), rest.1)

still_settled : (a b : ℕ) (s : Bool) → a ≡ b → (not (a == b) || s) ≡ true → s ≡ true
still_settled a b s e h = by (or_cases _ _ h)
  where
    by : (not (a == b) ≡ true) ⊎ (s ≡ true) → s ≡ true
    by (inl d) = let t : (a == b) ≡ true = eq-eqb a b e in let u : not (a == b) ≡ false = ap not t in cc
    by (inr q) = q

-- lists of which neither begins the other
pub parted_settled : (cs bs xs ys : List ℕ) → settled cs bs ≡ true → cs ++ xs ≡ bs ++ ys → (cs ≡ bs) × (xs ≡ ys)
parted_settled [] [] xs ys s e = (refl, e)
parted_settled [] (b ∷ bs) xs ys s e = cc
parted_settled (a ∷ cs) [] xs ys s e = cc
parted_settled (a ∷ cs) (b ∷ bs) xs ys s e =
    let first : a ≡ b = cc in
    let others : cs ++ xs ≡ bs ++ ys = cc in
    let rest = parted_settled cs bs xs ys (still_settled a b (settled cs bs) first s) others in
    ((λ i. first i ∷ rest.0 i), rest.1)

same_bits_compare : (bs : List Bool) → slice_cmp bool_cmp bs bs ≡ Equal
same_bits_compare [] = refl
same_bits_compare (true ∷ bs) = same_bits_compare bs
same_bits_compare (false ∷ bs) = same_bits_compare bs

same_bytes_compare : (bs : List ℕ) → slice_cmp nat_cmp bs bs ≡ Equal
same_bytes_compare [] = refl
same_bytes_compare (b ∷ bs) = ap (λ o. ordering_then o (slice_cmp nat_cmp bs bs)) (same b b refl) ∙ same_bytes_compare bs

pub bits_tell : (k x y : ℕ) → x < 2 ^ k → y < 2 ^ k → bits k x ≡ bits k y → x ≡ y
bits_tell k x y p q e =
    equal_numbers x y (sym (bits_compare k x y p q) ∙ ap (slice_cmp bool_cmp (bits k x)) (sym e) ∙ same_bits_compare (bits k x))

-- the bits of bytes of which neither begin the other
pub parted_bits : (cs bs : List ℕ) (xs ys : List Bool) → settled cs bs ≡ true → are_bytes cs ≡ true → are_bytes bs ≡ true
    → byte_bits cs ++ xs ≡ byte_bits bs ++ ys → cs ≡ bs
parted_bits [] [] xs ys s p q e = refl
parted_bits [] (b ∷ bs) xs ys s p q e = cc
parted_bits (a ∷ cs) [] xs ys s p q e = cc
parted_bits (a ∷ cs) (b ∷ bs) xs ys s p q e =
    let pa = and_parts _ _ p in
    let qb = and_parts _ _ q in
    let grouped : bits 8 a ++ (byte_bits cs ++ xs) ≡ bits 8 b ++ (byte_bits bs ++ ys) =
    sym (append_assoc (bits 8 a) (byte_bits cs) xs) ∙ e ∙ append_assoc (bits 8 b) (byte_bits bs) ys in
    let parts = parted (bits 8 a) (bits 8 b) (byte_bits cs ++ xs) (byte_bits bs ++ ys) (length-bits 8 a ∙ sym (length-bits 8 b)) grouped in
    let first : a ≡ b = bits_tell 8 a b (ltb-true a 256 pa.0) (ltb-true b 256 qb.0) parts.0 in
    let rest = parted_bits cs bs xs ys (still_settled a b (settled cs bs) first s) pa.1 qb.1 parts.1 in
    (λ i. first i ∷ rest i)

abbrev first_of : List ℕ → ℕ
first_of [] = 0
first_of (b ∷ bs) = b

abbrev rest_of : List ℕ → List ℕ
rest_of [] = []
rest_of (b ∷ bs) = bs

mutual
  pub bytes_tell : (t u : Tree) → is_valid t ≡ true → is_valid u ≡ true → bytes_of t ≡ bytes_of u → t ≡ u
  bytes_tell (variable m) (variable n) p q e =
      ap variable (equal_numbers m n
      (sym (variables_compare m n (ltb-true m 4294967296 p) (ltb-true n 4294967296 q)) ∙ ap (slice_cmp nat_cmp (bytes_of (variable m))) (sym e)
      ∙ same_bytes_compare (bytes_of (variable m))))
  bytes_tell (integer y) (integer z) p q e =
      ap integer (exact_signed y z
      (sym (integers_compare y z p q) ∙ ap (slice_cmp nat_cmp (bytes_of (integer y))) (sym e) ∙ same_bytes_compare (bytes_of (integer y))))
  bytes_tell (atom f) (atom g) p q e = ap atom (ap (λ bs. rest_of (rest_of bs)) e)
  bytes_tell (compound f ts) (compound g us) p q e =
      let arities : arity ts ≡ arity us = ap (λ bs. first_of (rest_of bs)) e in
      let parts = parted_settled (name_bytes f) (name_bytes g) (bytes_of_all ts) (bytes_of_all us) (settled_names f g) (ap (λ bs. rest_of (rest_of bs)) e) in
      let names : f ≡ g = ap rest_of parts.0 in
      let all : ts ≡ us = bytes_tell_all ts us arities (and_parts _ _ p).1 (and_parts _ _ q).1 parts.1 in
      (λ i. compound (names i) (all i))
  bytes_tell (variable n) (integer z) p q e = let f = ap first_of e in absurd (omega arith)
  bytes_tell (variable n) (atom g) p q e = let f = ap first_of e in absurd (omega arith)
  bytes_tell (variable n) (compound g us) p q e = let f = ap first_of e in absurd (omega arith)
  bytes_tell (integer z) (variable n) p q e = let f = ap first_of e in absurd (omega arith)
  bytes_tell (integer z) (atom g) p q e = let f = ap first_of e in absurd (omega arith)
  bytes_tell (integer z) (compound g us) p q e = let f = ap first_of e in absurd (omega arith)
  bytes_tell (atom f) (variable n) p q e = let f = ap first_of e in absurd (omega arith)
  bytes_tell (atom f) (integer z) p q e = let f = ap first_of e in absurd (omega arith)
  bytes_tell (atom f) (compound g us) p q e = let f = ap first_of e in absurd (omega arith)
  bytes_tell (compound f ts) (variable n) p q e = let f = ap first_of e in absurd (omega arith)
  bytes_tell (compound f ts) (integer z) p q e = let f = ap first_of e in absurd (omega arith)
  bytes_tell (compound f ts) (atom g) p q e = let f = ap first_of e in absurd (omega arith)

  bytes_tell_all : (ts us : Trees) → arity ts ≡ arity us → are_valid ts ≡ true → are_valid us ≡ true → bytes_of_all ts ≡ bytes_of_all us → ts ≡ us
  bytes_tell_all no_trees no_trees a p q e = refl
  bytes_tell_all no_trees (tree u us) a p q e = absurd (omega (arith, a))
  bytes_tell_all (tree t ts) no_trees a p q e = absurd (omega (arith, a))
  bytes_tell_all (tree t ts) (tree u us) a p q e =
      let parts = parted_settled (bytes_of t) (bytes_of u) (bytes_of_all ts) (bytes_of_all us) (settled_bytes t u) e in
      let first : t ≡ u = bytes_tell t u (and_parts _ _ p).0 (and_parts _ _ q).0 parts.0 in
      let others : ts ≡ us = bytes_tell_all ts us (omega (arith, a)) (and_parts _ _ p).1 (and_parts _ _ q).1 parts.1 in
      (λ i. tree (first i) (others i))

-- what a list that begins another is followed by
pub begun_by : (bs cs : List Bool) → begins bs cs ≡ true → (rest : List Bool) × (bs ++ rest ≡ cs)
begun_by [] cs e = (cs, refl)
begun_by (b ∷ bs) [] e = cc
begun_by (b ∷ bs) (c ∷ cs) e =
    let parts = and_parts _ _ e in
    let first : b ≡ c = one b c parts.0 in
    let others = begun_by bs cs parts.1 in
    (others.0, (λ i. first i ∷ others.1 i))
  where
    one : (b c : Bool) → same_bit b c ≡ true → b ≡ c
    one true true e = refl
    one true false e = cc
    one false true e = cc
    one false false e = refl

-- keys with anything after them
pub tuple_keys_tell : (keys : List ℕ) (t u : Tree) (xs ys : List Bool) → is_valid t ≡ true → is_valid u ≡ true →
    tuple_key keys t ++ xs ≡ tuple_key keys u ++ ys → t ≡ u
tuple_keys_tell keys t u xs ys p q e =
    let grouped : key_head_of keys (arguments t) ++ (byte_bits (bytes_of t) ++ xs) ≡ key_head_of keys (arguments u) ++ (byte_bits (bytes_of u) ++ ys) =
    sym (append_assoc (key_head_of keys (arguments t)) (byte_bits (bytes_of t)) xs) ∙ e
    ∙ append_assoc (key_head_of keys (arguments u)) (byte_bits (bytes_of u)) ys in
    let tails = (parted (key_head_of keys (arguments t)) (key_head_of keys (arguments u)) _ _ (length-head_of keys t u) grouped).1 in
    bytes_tell t u p q (parted_bits (bytes_of t) (bytes_of u) xs ys (settled_bytes t u) (valid_bytes t p) (valid_bytes u q) tails)

pub clause_keys_tell : (keys : List ℕ) (t u : Tree) (m n : ℕ) (xs ys : List Bool) → m < 2 ^ 64 → n < 2 ^ 64 →
    clause_key keys t m ++ xs ≡ clause_key keys u n ++ ys → m ≡ n
clause_keys_tell keys t u m n xs ys p q e =
    let grouped : key_head_of keys (arguments t) ++ (bits 64 m ++ xs) ≡ key_head_of keys (arguments u) ++ (bits 64 n ++ ys) =
    sym (append_assoc (key_head_of keys (arguments t)) (bits 64 m) xs) ∙ e ∙ append_assoc (key_head_of keys (arguments u)) (bits 64 n) ys in
    let tails = (parted (key_head_of keys (arguments t)) (key_head_of keys (arguments u)) _ _ (length-head_of keys t u) grouped).1 in
    bits_tell 64 m n p q (parted (bits 64 m) (bits 64 n) xs ys (length-bits 64 m ∙ sym (length-bits 64 n)) tails).0

-- lists of bits with one place in their order
pub equal_bits : (bs cs : List Bool) → slice_cmp bool_cmp bs cs ≡ Equal → bs ≡ cs
equal_bits [] [] e = refl
equal_bits [] (c ∷ cs) e = cc
equal_bits (b ∷ bs) [] e = cc
equal_bits (true ∷ bs) (true ∷ cs) e = ap (λ x. true ∷ x) (equal_bits bs cs e)
equal_bits (true ∷ bs) (false ∷ cs) e = cc
equal_bits (false ∷ bs) (true ∷ cs) e = cc
equal_bits (false ∷ bs) (false ∷ cs) e = ap (λ x. false ∷ x) (equal_bits bs cs e)
