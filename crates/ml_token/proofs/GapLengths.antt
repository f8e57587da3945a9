-- Layout and comments, piece by piece.
use Rattle.std.proofs.Common.{◌≡◌, ℕ, zero, suc, ◌+◌, ◌≤◌, ◌≢◌, List, [], ◌∷◌, length, drop, refl, arith}
use Rattle.ml_token.specs.inside.Gap.{piece_len, gap_len}

-- the bytes of a comment that was begun are passed over
pub gap_len-skip : (k : ℕ) (bs : List ℕ) → k ≤ length bs → gap_len k bs ≡ k + gap_len 0 (drop k bs)
gap_len-skip zero bs within = omega arith
gap_len-skip (suc k) [] within = absurd (omega arith)
gap_len-skip (suc k) (b ∷ bs) within =
    let shorter : k ≤ length bs = omega arith in omega (arith, gap_len-skip k bs shorter)

-- the first piece, and those behind it
pub gap_len-piece : (bs : List ℕ) → piece_len bs ≢ 0 → piece_len bs ≤ length bs
    → gap_len 0 bs ≡ piece_len bs + gap_len 0 (drop (piece_len bs) bs)
gap_len-piece [] some within = absurd (some refl)
gap_len-piece (b ∷ bs) some within =
    elim (piece_len (b ∷ bs)) as (λ n. n ≢ 0 → n ≤ length (b ∷ bs)
    → elim n [ zero ↦ 0 | suc k ↦ 1 + gap_len k bs ] ≡ n + gap_len 0 (drop n (b ∷ bs))) [
      | zero ↦ λ none w. absurd (none refl)
      | suc k ↦ λ s w. let shorter : k ≤ length bs = omega arith in omega (arith, gap_len-skip k bs shorter)
    ] some within

-- a gap stands within its text
pub gap_len-within : (k : ℕ) (bs : List ℕ) → gap_len k bs ≤ length bs
gap_len-within k [] = omega arith
gap_len-within (suc k) (b ∷ bs) = omega (arith, gap_len-within k bs)
gap_len-within zero (b ∷ bs) = elim (piece_len (b ∷ bs)) as (λ n. elim n [ zero ↦ 0 | suc k ↦ 1 + gap_len k bs ] ≤ length (b ∷ bs)) [
  | zero ↦ omega arith
  | suc k ↦ omega (arith, gap_len-within k bs)
]
