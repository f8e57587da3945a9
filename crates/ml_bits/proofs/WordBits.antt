-- The bits of a number, as a list.
use Rattle.std.proofs.Common.{◌≡◌, ℕ, zero, suc, ◌+◌, ◌-◌, ◌*◌, ◌/◌, ◌%◌, ◌^◌, ◌<◌, ◌≤◌, Bool, true, false, eqb, List, [], ◌∷◌, ◌++◌, length, get_or, take}
use Rattle.std.proofs.Common.{replicate, refl, sym, ap, ◌∙◌, arith, zero-add}
use Rattle.std.specs.Int.{bit_at}
use Rattle.std.proofs.lemmas.Nat.{shr_split, mod_below, pow_pos, shl_whole, or_shifted, pow-add}
use Rattle.std.proofs.lemmas.List.{append-nil, take_more}
use Rattle.std.proofs.lemmas.List.Concat.{flat_map-append}
use Rattle.std.specs.Int.RustNames.{bit_or}
use mir.Val.{bool_byte}
use Rattle.std.proofs.lemmas.Nat.Bits.{bit_at_cat_low, bit_at_cat_high, bit_at-zero}
use Rattle.ml_bits.specs.BitList.{bits_of, byte_bits}

pub bits_of-suc : (k n : ℕ) → bits_of (suc k) n ≡ eqb (bit_at n k) 1 ∷ bits_of k n
unfolding bits_of
bits_of-suc k n = refl

pub bits_of-none : (n : ℕ) → bits_of 0 n ≡ []
unfolding bits_of
bits_of-none n = refl

pub length-bits_of : (k n : ℕ) → length (bits_of k n) ≡ k
unfolding bits_of
length-bits_of zero n = refl
length-bits_of (suc k) n = ap suc (length-bits_of k n)

-- the bit at place i is the one of weight 2 ^ m
pub get_or-bits_of : (k n i m : ℕ) (d : Bool) → i + suc m ≡ k → get_or (bits_of k n) i d ≡ eqb (bit_at n m) 1
unfolding bits_of
get_or-bits_of zero n i m d e = absurd (omega arith)
get_or-bits_of (suc k) n zero m d e = let same : k ≡ m = omega arith in ap (λ x. eqb (bit_at n x) 1) same
get_or-bits_of (suc k) n (suc i) m d e = get_or-bits_of k n i m d (omega arith)

-- the lowest bits of a number don't show what is above them
pub bits_of_low : (j k a b : ℕ) → j ≤ k → bits_of j (a * 2 ^ k + b) ≡ bits_of j b
unfolding bits_of
bits_of_low zero k a b h = refl
bits_of_low (suc j) k a b h =
    let head : bit_at (a * 2 ^ k + b) j ≡ bit_at b j = bit_at_cat_low a k b j (omega arith) in
    let tail : bits_of j (a * 2 ^ k + b) ≡ bits_of j b = bits_of_low j k a b (omega arith) in
    cc

-- the bits of a, and then k bits of b
pub bits_of_cat : (j k a b : ℕ) → b < 2 ^ k → bits_of (j + k) (a * 2 ^ k + b) ≡ bits_of j a ++ bits_of k b
unfolding bits_of
bits_of_cat zero k a b h = rw zero-add (bits_of_low k k a b (omega arith))
bits_of_cat (suc j) k a b h =
    let more : suc j + k ≡ suc (j + k) = omega arith in
    let head : bit_at (a * 2 ^ k + b) (j + k) ≡ bit_at a (j + k - k) = bit_at_cat_high a k b (j + k) h (omega arith) in
    let place : j + k - k ≡ j = omega arith in
    let tail : bits_of (j + k) (a * 2 ^ k + b) ≡ bits_of j a ++ bits_of k b = bits_of_cat j k a b h in
    rw more (cc)

-- a number's bits are those above place k, and then the k lowest
pub bits_of_split : (j k n : ℕ) → bits_of (j + k) n ≡ bits_of j (n / 2 ^ k) ++ bits_of k (n % 2 ^ k)
bits_of_split j k n =
    let whole : n / 2 ^ k * 2 ^ k + n % 2 ^ k ≡ n = shr_split n k in
    let cut : bits_of (j + k) (n / 2 ^ k * 2 ^ k + n % 2 ^ k) ≡ bits_of j (n / 2 ^ k) ++ bits_of k (n % 2 ^ k) =
    bits_of_cat j k (n / 2 ^ k) (n % 2 ^ k) (mod_below n (2 ^ k) (pow_pos k)) in
    rw whole at cut

pub bits_of_zero : (k : ℕ) → bits_of k 0 ≡ replicate k false
unfolding bits_of
bits_of_zero zero = refl
bits_of_zero (suc k) = let head : bit_at 0 k ≡ 0 = bit_at-zero k in let tail : bits_of k 0 ≡ replicate k false = bits_of_zero k in rw (head, tail)

-- the k lowest bits of what is left at k bits
pub bits_of_mod : (k n : ℕ) → bits_of k (n % 2 ^ k) ≡ bits_of k n
bits_of_mod k n =
    let whole : n / 2 ^ k * 2 ^ k + n % 2 ^ k ≡ n = shr_split n k in
    sym (bits_of_low k k (n / 2 ^ k) (n % 2 ^ k) (omega arith)) ∙ ap (bits_of k) whole

-- a number followed by zeros
pub bits_of_shifted : (j k a : ℕ) → bits_of (j + k) (a * 2 ^ k) ≡ bits_of j a ++ replicate k false
bits_of_shifted j k a =
    let sum : a * 2 ^ k ≡ a * 2 ^ k + 0 = omega arith in
    ap (bits_of (j + k)) sum ∙ bits_of_cat j k a 0 (pow_pos k) ∙ ap (λ r. bits_of j a ++ r) (bits_of_zero k)

-- ---- a number made of bytes

-- a number whose bits are those of the first bytes
pub record IsNumberOf (bytes : List ℕ) (count n : ℕ) : Type 0 where
  pub below : n < 2 ^ (8 * count)
  pub bits : bits_of (8 * count) n ≡ byte_bits (take count bytes)

byte_more : (n k b : ℕ) → n < 2 ^ k → b < 2 ^ 8 → n * 2 ^ 8 + b < 2 ^ (k + 8)
byte_more n k b l g = let split : 2 ^ (k + 8) ≡ 2 ^ k * 2 ^ 8 = pow-add 2 k 8 in omega (arith, split)

-- one more byte
pub number_more : (bytes : List ℕ) (i n b m : ℕ) → i < length bytes → i < 8 → b ≡ get_or bytes i 0 → b < 256
    → n < 2 ^ (8 * i) → bits_of (8 * i) n ≡ byte_bits (take i bytes) → m ≡ bit_or (n * 256 % 2 ^ 64) b → IsNumberOf bytes (i + 1) m
number_more bytes i n b m here short read g l e m_is =
    let k : ℕ = 8 * i in
    let fits : k + 8 ≤ 64 = omega arith in
    let whole : n * 2 ^ 8 % 2 ^ 64 ≡ n * 2 ^ 8 = shl_whole n k 8 64 l fits in
    let value : m ≡ n * 2 ^ 8 + b = m_is ∙ ap (λ x. bit_or x b) whole ∙ or_shifted n 8 b g in
    let width : 8 * (i + 1) ≡ k + 8 = omega arith in
    let more : take (i + 1) bytes ≡ take i bytes ++ b ∷ [] = take_more bytes i 0 here ∙ ap (λ x. take i bytes ++ x ∷ []) (sym read) in
    let last : byte_bits (take (i + 1) bytes) ≡ byte_bits (take i bytes) ++ bits_of 8 b =
    ap byte_bits more ∙ flat_map-append (bits_of 8) (take i bytes) (b ∷ []) ∙ ap (λ r. byte_bits (take i bytes) ++ r) (append-nil (bits_of 8 b)) in
    record {
      below = rw (width, value) (byte_more n k b l g);
      bits = rw (width, value) (bits_of_cat k 8 n b g ∙ ap (λ r. r ++ bits_of 8 b) e ∙ sym last);
    }

-- one bit
pub bits_of_one : (b : Bool) → bits_of 1 (bool_byte b) ≡ b ∷ []
unfolding bits_of
bits_of_one true = refl
bits_of_one false = refl
