-- The bits of bytes, in parts.
use Rattle.std.proofs.Common.{◌≡◌, ℕ, ◌+◌, ◌-◌, ◌*◌, ◌/◌, ◌%◌, ◌^◌, ◌<◌, ◌≤◌, Bool, List, [], ◌∷◌, ◌++◌, length, get_or, take, drop, refl, sym, ap, ◌∙◌, arith}
use Rattle.std.proofs.Common.{append_assoc, length-append}
use Rattle.std.proofs.lemmas.List.{take-append-drop, take_at, length-take-le, drop_more}
use Rattle.std.proofs.lemmas.List.Concat.{flat_map-append}
use Rattle.ml_bits.specs.BitList.{bits_of, byte_bits}
use Rattle.ml_bits.proofs.WordBits.{length-bits_of, bits_of_split}

pub length-byte_bits : (bs : List ℕ) → length (byte_bits bs) ≡ 8 * length bs
length-byte_bits [] = refl
length-byte_bits (b ∷ bs) = omega (arith, length-append (bits_of 8 b) (byte_bits bs), length-bits_of 8 b, length-byte_bits bs)

pub byte_bits-append : (bs cs : List ℕ) → byte_bits (bs ++ cs) ≡ byte_bits bs ++ byte_bits cs
byte_bits-append bs cs = flat_map-append (bits_of 8) bs cs

-- the bits of the first bytes
pub byte_bits_take : (n : ℕ) (bs : List ℕ) → n ≤ length bs → byte_bits (take n bs) ≡ take (8 * n) (byte_bits bs)
byte_bits_take n bs h =
    let whole : byte_bits (take n bs) ++ byte_bits (drop n bs) ≡ byte_bits bs =
    sym (byte_bits-append (take n bs) (drop n bs)) ∙ ap byte_bits (take-append-drop n bs) in
    let long : length (byte_bits (take n bs)) ≡ 8 * n = length-byte_bits (take n bs) ∙ ap (λ x. 8 * x) (length-take-le n bs h) in
    sym (take_at (byte_bits (take n bs)) (byte_bits (drop n bs)) (8 * n) long) ∙ ap (take (8 * n)) whole

-- the bits of the first bytes, and r bits of the next
pub byte_bits_part : (n r : ℕ) (bs : List ℕ) → n < length bs → r < 8
    → byte_bits (take n bs) ++ bits_of r (get_or bs n 0 / 2 ^ (8 - r)) ≡ take (8 * n + r) (byte_bits bs)
byte_bits_part n r bs h l =
    let b : ℕ = get_or bs n 0 in
    let front : List Bool = byte_bits (take n bs) in
    let high : List Bool = bits_of r (b / 2 ^ (8 - r)) in
    let low : List Bool = bits_of (8 - r) (b % 2 ^ (8 - r)) in
    let rest : List Bool = byte_bits (drop (n + 1) bs) in
    let width : 8 ≡ r + (8 - r) = omega arith in
    let byte : bits_of 8 b ≡ high ++ low = ap (λ k. bits_of k b) width ∙ bits_of_split r (8 - r) b in
    let whole : byte_bits bs ≡ (front ++ high) ++ (low ++ rest) =
    sym (ap byte_bits (take-append-drop n bs)) ∙ byte_bits-append (take n bs) (drop n bs)
    ∙ ap (λ cs. front ++ byte_bits cs) (drop_more bs n 0 h)
    ∙ ap (λ ds. front ++ (ds ++ rest)) byte
    ∙ ap (λ ds. front ++ ds) (append_assoc high low rest)
    ∙ sym (append_assoc front high (low ++ rest)) in
    let long : length (front ++ high) ≡ 8 * n + r =
    omega (arith, length-append front high, length-bits_of r (b / 2 ^ (8 - r)), length-byte_bits (take n bs), length-take-le n bs (omega arith)) in
    sym (ap (take (8 * n + r)) whole ∙ take_at (front ++ high) (low ++ rest) (8 * n + r) long)
