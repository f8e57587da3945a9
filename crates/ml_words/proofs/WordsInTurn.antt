-- The walk over the words, one after another.
use Rattle.std.specs.Prelude.{◌≡◌, ℕ, zero, suc, ◌+◌, ◌<◌, List, [], ◌∷◌, length, drop, slice_index_or}
use Rattle.std.specs.Borrow.{Bor}
use Rattle.std.proofs.Common.{refl, ap, arith, ◌∙◌}
use Rattle.ml_words.specs.Seen.{texts}
use Rattle.ml_words.specs.Walks.{Walk, behind_word, behind_words}

word_first : (words : List (Bor (List ℕ))) (i place : ℕ) (w : Walk) (d : Bor (List ℕ)) → i < length words
    → behind_words (place + 1) (drop (suc i) (texts words)) (behind_word place (slice_index_or words i d).now w) ≡ behind_words place (drop i (texts words)) w
word_first [] i place w d lt = absurd (omega arith)
word_first (x ∷ xs) zero place w d lt = refl
word_first (x ∷ xs) (suc i) place w d lt = word_first xs i place w d (omega arith)

-- a word, and then the words behind it
pub word_then : (words : List (Bor (List ℕ))) (i place : ℕ) (w : Walk) (d : Bor (List ℕ)) → i < length words
    → behind_words (place + 1) (drop (i + 1) (texts words)) (behind_word place (slice_index_or words i d).now w) ≡ behind_words place (drop i (texts words)) w
word_then words i place w d lt =
    let next : i + 1 ≡ suc i = omega arith in
    ap (λ k. behind_words (place + 1) (drop k (texts words)) (behind_word place (slice_index_or words i d).now w)) next ∙ word_first words i place w d lt
