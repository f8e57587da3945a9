-- The bits of a code's fields, put together.
use Rattle.std.specs.Prelude.{◌≡◌, ℕ, zero, suc, ◌+◌, ◌*◌, ◌^◌, ◌<◌, ◌≤◌, min, true, false, List, [], ◌∷◌, ◌++◌, length, take, replicate}
use Rattle.std.proofs.Common.{refl, sym, ap, ◌∙◌, arith, get_or}
use Rattle.std.proofs.lemmas.Grind.{flat_map-append}
use Rattle.std.proofs.lemmas.List.{append-nil}
use Rattle.std.proofs.lemmas.Nat.{pow-add}
use Rattle.std.proofs.Math.Nat.{pow-le-pow_right}
use Rattle.ml_term.specs.Codes.{bits, byte_bits, pad, length_bits}
use Rattle.ml_term.proofs.Bits.{joined_bits}

-- the first bytes of a name and zero bytes after its end
abbrev first_bytes : ℕ → List ℕ → List ℕ
first_bytes zero f = []
first_bytes (suc k) [] = 0 ∷ first_bytes k []
first_bytes (suc k) (b ∷ f) = b ∷ first_bytes k f

padded_with : (k n : ℕ) (f : List ℕ) → k ≤ n → take k (f ++ replicate n 0) ≡ first_bytes k f
padded_with zero n f below = refl
padded_with (suc k) zero [] below = absurd (omega arith)
padded_with (suc k) (suc n) [] below = ap (λ bs. 0 ∷ bs) (padded_with k n [] (omega arith))
padded_with (suc k) n (b ∷ f) below = ap (λ bs. b ∷ bs) (padded_with k n f (omega arith))

one_byte_more : (k : ℕ) (f : List ℕ) → first_bytes (suc k) f ≡ first_bytes k f ++ get_or f k 0 ∷ []
one_byte_more zero [] = refl
one_byte_more zero (b ∷ f) = refl
one_byte_more (suc k) [] = ap (λ bs. 0 ∷ bs) (one_byte_more k [])
one_byte_more (suc k) (b ∷ f) = ap (λ bs. b ∷ bs) (one_byte_more k f)

padded-suc : (k : ℕ) (f : List ℕ) → pad (suc k) f ≡ pad k f ++ get_or f k 0 ∷ []
padded-suc k f =
    padded_with (suc k) (suc k) f (omega arith) ∙ one_byte_more k f ∙ ap (λ bs. bs ++ get_or f k 0 ∷ []) (sym (padded_with k k f (omega arith)))

byte_bits-more : (bs : List ℕ) (b : ℕ) → byte_bits (bs ++ b ∷ []) ≡ byte_bits bs ++ bits 8 b
byte_bits-more bs b = flat_map-append (bits 8) bs (b ∷ []) ∙ ap (λ xs. byte_bits bs ++ xs) (append-nil (bits 8 b))

-- one byte more of a name in a word
pub word_more : (k w b : ℕ) (f : List ℕ) → b < 256 → b ≡ get_or f k 0 → bits (8 * k) w ≡ byte_bits (pad k f)
    → bits (8 * (k + 1)) (w * 2 ^ 8 + b) ≡ byte_bits (pad (k + 1) f)
word_more k w b f below is_b before =
    let longer : 8 * (k + 1) ≡ 8 * k + 8 = omega arith in
    let next : k + 1 ≡ suc k = omega arith in
    ap (λ n. bits n (w * 2 ^ 8 + b)) longer
    ∙ joined_bits (8 * k) 8 w b below
    ∙ ap (λ xs. xs ++ bits 8 b) before
    ∙ sym (byte_bits-more (pad k f) b)
    ∙ ap (λ c. byte_bits (pad k f ++ c ∷ [])) is_b
    ∙ ap byte_bits (sym (padded-suc k f))
    ∙ sym (ap (λ j. byte_bits (pad j f)) next)

pub integer_word : (n : ℕ) → n < 2 ^ 62 → bits 64 (1 * 2 ^ 62 + n) ≡ false ∷ true ∷ bits 62 n
integer_word n below = joined_bits 2 62 1 n below

pub atom_word : (w n : ℕ) (f : List ℕ) → bits 56 w ≡ byte_bits (pad 7 f) → w < 2 ^ 56 → n ≡ min (length f) 63
    → bits 64 ((2 * 2 ^ 56 + w) * 2 ^ 6 + n) ≡ true ∷ false ∷ byte_bits (pad 7 f) ++ length_bits f
atom_word w n f is_name below is_length =
    joined_bits 58 6 (2 * 2 ^ 56 + w) n (omega arith)
    ∙ ap (λ bs. bs ++ bits 6 n) (joined_bits 2 56 2 w below ∙ ap (λ bs. true ∷ false ∷ bs) is_name)
    ∙ ap (λ k. true ∷ false ∷ byte_bits (pad 7 f) ++ bits 6 k) is_length

pub compound_word : (k w n : ℕ) (f : List ℕ) → k < 2 ^ 8 → bits 48 w ≡ byte_bits (pad 6 f) → w < 2 ^ 48 → n ≡ min (length f) 63
    → bits 64 (((3 * 2 ^ 8 + k) * 2 ^ 48 + w) * 2 ^ 6 + n) ≡ true ∷ true ∷ bits 8 k ++ byte_bits (pad 6 f) ++ length_bits f
compound_word k w n f is_arity is_name below is_length =
    joined_bits 58 6 ((3 * 2 ^ 8 + k) * 2 ^ 48 + w) n (omega arith)
    ∙ ap (λ bs. bs ++ bits 6 n) (joined_bits 10 48 (3 * 2 ^ 8 + k) w below)
    ∙ ap (λ bs. (bs ++ bits 48 w) ++ bits 6 n) (joined_bits 2 8 3 k is_arity)
    ∙ ap (λ bs. ((true ∷ true ∷ bits 8 k) ++ bs) ++ bits 6 n) is_name
    ∙ ap (λ j. (true ∷ true ∷ bits 8 k ++ byte_bits (pad 6 f)) ++ bits 6 j) is_length

-- a word of up to six bytes has room for another
pub has_room : (k w : ℕ) → k < 7 → w < 2 ^ (8 * k) → w < 2 ^ 56
has_room k w below fits =
    let few : 8 * k ≤ 56 = omega arith in
    let more : 2 ^ (8 * k) ≤ 2 ^ 56 = pow-le-pow_right {n = 2} (omega arith) few in
    omega arith

pub one_byte_fits : (k w b : ℕ) → w < 2 ^ (8 * k) → b < 256 → w * 2 ^ 8 + b < 2 ^ (8 * (k + 1))
one_byte_fits k w b fits below =
    let longer : 8 * (k + 1) ≡ 8 * k + 8 = omega arith in
    let e : 2 ^ (8 * (k + 1)) ≡ 2 ^ (8 * k) * 2 ^ 8 = ap (λ n. 2 ^ n) longer ∙ pow-add 2 (8 * k) 8 in
    omega arith
