-- The canonical bytes of two terms: neither begin the other, and what follows them comes later.
use Rattle.std.specs.Prelude.{◌≡◌, ◌≢◌, ℕ, zero, suc, ◌+◌, ◌*◌, ◌/◌, ◌%◌, ◌^◌, ◌==◌, ◌<◌, Bool, true, false, ◌||◌, not, ℤ, pos, negsuc, ◌⊎◌, List, [], ◌∷◌}
use Rattle.std.specs.Prelude.{◌++◌, length}
use Rattle.std.specs.declared.cmp.Ordering.{Ordering}
use Rattle.std.specs.declared.cmp.Ordering.TheVariants.{Less, Equal, Greater}
use Rattle.std.specs.Int.{bytes_high_first, byte_at}
use Rattle.std.specs.Ordering.{nat_cmp, int_cmp, ordering_then}
use Rattle.std.specs.Cmp.Lexicographic.{slice_cmp}
use Rattle.std.proofs.Common.{refl, sym, ap, ◌∙◌, arith, inl, inr}
use Rattle.std.proofs.Math.Arith.{mod-mul}
use Rattle.std.proofs.Math.Nat.{mod-eq_of_lt, pow-suc, mul_comm}
use Rattle.std.proofs.lemmas.Bool.{ltb-true, ne_eqb, cases_eq, or_cases}
use Rattle.std.proofs.lemmas.Bool.Decides.{nat_tests}
use Rattle.std.proofs.lemmas.Nat.{mod_below}
use Rattle.ml_term.specs.Tree.{Tree, Trees, variable, integer, atom, compound, no_trees, tree, arity}
use Rattle.ml_term.specs.CanonicalBytes.{counted_from_smallest, name_bytes, bytes_of, bytes_of_all}
use Rattle.ml_term.specs.Valid.{is_in_range}
use Rattle.ml_term.proofs.Orderings.{digits_compare, equal_numbers, same, regrouped}

-- whether two lists are the same or differ at some place of both, so that neither begins the other and is shorter
abbrev pub settled : List ℕ → List ℕ → Bool
settled [] [] = true
settled [] (y ∷ ys) = false
settled (x ∷ xs) [] = false
settled (x ∷ xs) (y ∷ ys) = not (x == y) || settled xs ys

different_firsts : (x y : ℕ) (b : Bool) → x ≢ y → (not (x == y) || b) ≡ true
different_firsts x y b n = ap (λ t. not t || b) (ne_eqb x y n)

same_firsts : (x y : ℕ) (b : Bool) → b ≡ true → (not (x == y) || b) ≡ true
same_firsts x y b e = grind (arith, nat_tests, e)

settled-same_length : (xs ys : List ℕ) → length xs ≡ length ys → settled xs ys ≡ true
settled-same_length [] [] e = refl
settled-same_length [] (y ∷ ys) e = absurd (omega (arith, e))
settled-same_length (x ∷ xs) [] e = absurd (omega (arith, e))
settled-same_length (x ∷ xs) (y ∷ ys) e = same_firsts x y (settled xs ys) (settled-same_length xs ys (omega (arith, e)))

settled-append : (xs ys zs ws : List ℕ) → settled xs ys ≡ true → settled zs ws ≡ true → settled (xs ++ zs) (ys ++ ws) ≡ true
settled-append [] [] zs ws e f = f
settled-append [] (y ∷ ys) zs ws e f = cc
settled-append (x ∷ xs) [] zs ws e f = cc
settled-append (x ∷ xs) (y ∷ ys) zs ws e f = by (λ s. settled-append xs ys zs ws s f) (or_cases _ _ e)
  where
    by : (settled xs ys ≡ true → settled (xs ++ zs) (ys ++ ws) ≡ true) → (not (x == y) ≡ true) ⊎ (settled xs ys ≡ true)
        → settled ((x ∷ xs) ++ zs) ((y ∷ ys) ++ ws) ≡ true
    by rest (inl d) = ap (λ b. b || settled (xs ++ zs) (ys ++ ws)) d
    by rest (inr s) = same_firsts x y (settled (xs ++ zs) (ys ++ ws)) (rest s)

-- an ordering that decides alone
decided : (o p q r : Ordering) → o ≢ Equal → ordering_then o p ≡ ordering_then (ordering_then o q) r
decided Less p q r n = refl
decided Greater p q r n = refl
decided Equal p q r n = absurd (n refl)

-- what follows two such lists comes later
pub settled_compare : (xs ys zs ws : List ℕ) → settled xs ys ≡ true
    → slice_cmp nat_cmp (xs ++ zs) (ys ++ ws) ≡ ordering_then (slice_cmp nat_cmp xs ys) (slice_cmp nat_cmp zs ws)
settled_compare [] [] zs ws e = refl
settled_compare [] (y ∷ ys) zs ws e = cc
settled_compare (x ∷ xs) [] zs ws e = cc
settled_compare (x ∷ xs) (y ∷ ys) zs ws e = by (λ s. settled_compare xs ys zs ws s) (or_cases _ _ e)
  where
    differ : not (x == y) ≡ true → nat_cmp x y ≡ Equal → ⊥
    differ d q = let same = equal_numbers x y q in grind (arith, nat_tests, d, same)

    by : (settled xs ys ≡ true → slice_cmp nat_cmp (xs ++ zs) (ys ++ ws) ≡ ordering_then (slice_cmp nat_cmp xs ys) (slice_cmp nat_cmp zs ws))
        → (not (x == y) ≡ true) ⊎ (settled xs ys ≡ true)
        → slice_cmp nat_cmp ((x ∷ xs) ++ zs) ((y ∷ ys) ++ ws) ≡ ordering_then (slice_cmp nat_cmp (x ∷ xs) (y ∷ ys)) (slice_cmp nat_cmp zs ws)
    by rest (inl d) = decided (nat_cmp x y) (slice_cmp nat_cmp (xs ++ zs) (ys ++ ws)) (slice_cmp nat_cmp xs ys) (slice_cmp nat_cmp zs ws) (differ d)
    by rest (inr s) = ap (ordering_then (nat_cmp x y)) (rest s) ∙ sym (regrouped (nat_cmp x y) (slice_cmp nat_cmp xs ys) (slice_cmp nat_cmp zs ws))

length-bytes_high_first : (k n : ℕ) → length (bytes_high_first k n) ≡ k
length-bytes_high_first zero n = refl
length-bytes_high_first (suc k) n = omega (arith, length-bytes_high_first k n)

pub settled_names : (f g : List ℕ) → settled (name_bytes f) (name_bytes g) ≡ true
settled_names f g = by (cases_eq (length f) (length g))
  where
    by : (length f ≡ length g) ⊎ (length f ≡ length g → ⊥) → settled (name_bytes f) (name_bytes g) ≡ true
    by (inl e) = same_firsts _ _ (settled f g) (settled-same_length f g e)
    by (inr n) = different_firsts _ _ (settled f g) n

settled_compounds : (f g : List ℕ) (ts us : Trees) → (arity ts ≡ arity us → settled (bytes_of_all ts) (bytes_of_all us) ≡ true)
    → (arity ts ≡ arity us) ⊎ (arity ts ≡ arity us → ⊥) → settled (bytes_of (compound f ts)) (bytes_of (compound g us)) ≡ true
settled_compounds f g ts us all (inl e) =
    same_firsts (arity ts) (arity us) _ (settled-append (name_bytes f) (name_bytes g) (bytes_of_all ts) (bytes_of_all us) (settled_names f g) (all e))
settled_compounds f g ts us all (inr n) = different_firsts (arity ts) (arity us) _ n

mutual
  -- the bytes of two terms are the same or differ before either end
  pub settled_bytes : (t u : Tree) → settled (bytes_of t) (bytes_of u) ≡ true
  settled_bytes (variable m) (variable n) = settled-same_length (bytes_high_first 4 m) (bytes_high_first 4 n)
      (length-bytes_high_first 4 m ∙ sym (length-bytes_high_first 4 n))
  settled_bytes (integer y) (integer z) = settled-same_length (bytes_high_first 8 (counted_from_smallest y)) (bytes_high_first 8 (counted_from_smallest z))
      (length-bytes_high_first 8 (counted_from_smallest y) ∙ sym (length-bytes_high_first 8 (counted_from_smallest z)))
  settled_bytes (atom f) (atom g) = settled_names f g
  settled_bytes (compound f ts) (compound g us) = settled_compounds f g ts us (λ e. settled_bytes_of_all ts us e) (cases_eq (arity ts) (arity us))
  settled_bytes (variable n) (integer z) = refl
  settled_bytes (variable n) (atom g) = refl
  settled_bytes (variable n) (compound g us) = refl
  settled_bytes (integer z) (variable n) = refl
  settled_bytes (integer z) (atom g) = refl
  settled_bytes (integer z) (compound g us) = refl
  settled_bytes (atom f) (variable n) = refl
  settled_bytes (atom f) (integer z) = refl
  settled_bytes (atom f) (compound g us) = refl
  settled_bytes (compound f ts) (variable n) = refl
  settled_bytes (compound f ts) (integer z) = refl
  settled_bytes (compound f ts) (atom g) = refl

  pub settled_bytes_of_all : (ts us : Trees) → arity ts ≡ arity us → settled (bytes_of_all ts) (bytes_of_all us) ≡ true
  settled_bytes_of_all no_trees no_trees e = refl
  settled_bytes_of_all no_trees (tree u us) e = absurd (omega (arith, e))
  settled_bytes_of_all (tree t ts) no_trees e = absurd (omega (arith, e))
  settled_bytes_of_all (tree t ts) (tree u us) e =
      settled-append (bytes_of t) (bytes_of u) (bytes_of_all ts) (bytes_of_all us) (settled_bytes t u) (settled_bytes_of_all ts us (omega (arith, e)))

-- the order of one more term's bytes
pub trees_compare : (t u : Tree) (ts us : Trees)
    → slice_cmp nat_cmp (bytes_of_all (tree t ts)) (bytes_of_all (tree u us))
    ≡ ordering_then (slice_cmp nat_cmp (bytes_of t) (bytes_of u)) (slice_cmp nat_cmp (bytes_of_all ts) (bytes_of_all us))
trees_compare t u ts us = settled_compare (bytes_of t) (bytes_of u) (bytes_of_all ts) (bytes_of_all us) (settled_bytes t u)

-- the order of two compounds' bytes
pub compounds_compare : (f g : List ℕ) (ts us : Trees)
    → slice_cmp nat_cmp (bytes_of (compound f ts)) (bytes_of (compound g us))
    ≡ ordering_then (nat_cmp (arity ts) (arity us)) (ordering_then (slice_cmp nat_cmp (name_bytes f) (name_bytes g))
    (slice_cmp nat_cmp (bytes_of_all ts) (bytes_of_all us)))
compounds_compare f g ts us =
    ap (ordering_then (nat_cmp (arity ts) (arity us))) (settled_compare (name_bytes f) (name_bytes g) (bytes_of_all ts) (bytes_of_all us) (settled_names f g))

byte_power : (k : ℕ) → 0 < 256 ^ k
byte_power zero = omega arith
byte_power (suc k) = omega (arith, pow-suc 256 k, byte_power k)

pub byte_at_is : (k n : ℕ) → byte_at k n ≡ n / 256 ^ k % 256
byte_at_is zero n = omega arith
byte_at_is (suc k) n = refl

-- a number's lowest bytes are the highest of them and the others
one_byte_more : (k n : ℕ) → n % 256 ^ suc k ≡ byte_at k n * 256 ^ k + n % 256 ^ k
one_byte_more k n =
    let e : 256 ^ suc k ≡ 256 * 256 ^ k = pow-suc 256 k ∙ mul_comm (256 ^ k) 256 in
    ap (λ m. n % m) e ∙ mod-mul n (omega arith) (byte_power k) ∙ ap (λ b. b * 256 ^ k + n % 256 ^ k) (sym (byte_at_is k n))

-- the order of numbers' bytes is that of the numbers
high_bytes_compare : (k x y : ℕ) → slice_cmp nat_cmp (bytes_high_first k x) (bytes_high_first k y) ≡ nat_cmp (x % 256 ^ k) (y % 256 ^ k)
high_bytes_compare zero x y = sym (same (x % 256 ^ 0) (y % 256 ^ 0) (omega (arith, mod_below x 1 (omega arith), mod_below y 1 (omega arith))))
high_bytes_compare (suc k) x y =
    ap (ordering_then (nat_cmp (byte_at k x) (byte_at k y))) (high_bytes_compare k x y)
    ∙ digits_compare (256 ^ k) (byte_at k x) (byte_at k y) (x % 256 ^ k) (y % 256 ^ k) (mod_below x (256 ^ k) (byte_power k))
    (mod_below y (256 ^ k) (byte_power k))
    ∙ ap (λ n. nat_cmp n (byte_at k y * 256 ^ k + y % 256 ^ k)) (sym (one_byte_more k x))
    ∙ ap (nat_cmp (x % 256 ^ suc k)) (sym (one_byte_more k y))

pub variables_compare : (m n : ℕ) → m < 2 ^ 32 → n < 2 ^ 32 → slice_cmp nat_cmp (bytes_of (variable m)) (bytes_of (variable n)) ≡ nat_cmp m n
variables_compare m n p q =
    let e : m % 256 ^ 4 ≡ m = mod-eq_of_lt p in
    let f : n % 256 ^ 4 ≡ n = mod-eq_of_lt q in
    high_bytes_compare 4 m n ∙ ap (λ k. nat_cmp k (n % 256 ^ 4)) e ∙ ap (nat_cmp m) f

pub counted_below : (z : ℤ) → is_in_range z ≡ true → counted_from_smallest z < 2 ^ 62
counted_below (pos n) e = omega (arith, ltb-true n 2305843009213693952 e)
counted_below (negsuc n) e = omega (arith, ltb-true n 2305843009213693952 e)

counted_compare : (y z : ℤ) → is_in_range y ≡ true → is_in_range z ≡ true → nat_cmp (counted_from_smallest y) (counted_from_smallest z) ≡ int_cmp y z
counted_compare (pos a) (pos b) p q = grind (arith, nat_tests)
counted_compare (pos a) (negsuc b) p q = let within = ltb-true b 2305843009213693952 q in grind (arith, nat_tests)
counted_compare (negsuc a) (pos b) p q = let within = ltb-true a 2305843009213693952 p in grind (arith, nat_tests)
counted_compare (negsuc a) (negsuc b) p q =
    let within_a = ltb-true a 2305843009213693952 p in
    let within_b = ltb-true b 2305843009213693952 q in
    grind (arith, nat_tests)

pub integers_compare : (y z : ℤ) → is_in_range y ≡ true → is_in_range z ≡ true → slice_cmp nat_cmp (bytes_of (integer y)) (bytes_of (integer z)) ≡ int_cmp y z
integers_compare y z p q =
    let below_y = counted_below y p in
    let below_z = counted_below z q in
    let e : counted_from_smallest y % 256 ^ 8 ≡ counted_from_smallest y = mod-eq_of_lt (omega arith) in
    let f : counted_from_smallest z % 256 ^ 8 ≡ counted_from_smallest z = mod-eq_of_lt (omega arith) in
    high_bytes_compare 8 (counted_from_smallest y) (counted_from_smallest z) ∙ ap (λ k. nat_cmp k (counted_from_smallest z % 256 ^ 8)) e
    ∙ ap (nat_cmp (counted_from_smallest y)) f ∙ counted_compare y z p q
