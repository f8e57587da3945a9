-- The line of an entry shows it, and no other line of a session shows anything.
use Rattle.std.specs.Prelude.{◌≡◌, ℕ, ◌<◌, ◌≤◌, Bool, true, false, List, [], ◌∷◌, ◌++◌, Some, codes}
use Rattle.std.specs.Str.{bytes_eq}
use Rattle.std.proofs.Common.{refl, ap, sym, ◌∙◌}
use Rattle.std.proofs.Math.Seq.{drop-append_seam}
use Rattle.std.proofs.lemmas.List.{append_assoc, append-nil}
use Rattle.std.proofs.lemmas.Slice.Eq.{bytes_eq-Decides}
use Rattle.ml_term.specs.Decimal.{decimal_text}
use Rattle.ml_search.specs.declared.ending.Ending.{Ending}
use Rattle.ml_search.specs.declared.ending.Ending.TheVariants.{Failed}
use Rattle.ml_search.specs.Printed.{ending_text, digits, shown_ending, shown_entry, shown_session}
use Rattle.ml_search.proofs.DecimalsReadBack.{digits_pass, digits_found, decimal_is_number, decimal_read}

-- the digits of a number, whatever else follows
decimal_found : (k : ℕ) (b : ℕ) (rest : List ℕ) → digits (decimal_text k ++ 32 ∷ rest) ≡ decimal_text k
decimal_found k b rest = digits_found (decimal_text k) (32 ∷ rest) (digits_pass 20 k) refl

decimal_alone : (k : ℕ) → digits (decimal_text k) ≡ decimal_text k
decimal_alone k = ap digits (sym (append-nil (decimal_text k))) ∙ digits_found (decimal_text k) [] (digits_pass 20 k) refl

same_bytes : (xs : List ℕ) → bytes_eq xs xs ≡ true
same_bytes xs = (bytes_eq-Decides xs xs).1 refl

-- what follows the number and the space
entry_shown : (k : ℕ) (ending : List ℕ) (out : Bool) → 1 ≤ k → k < 10000000000 → shown_ending ending ≡ Some out →
    shown_entry (decimal_text k ++ 32 ∷ ending) ≡ Some (k, out)
entry_shown k ending out l h e =
    rw (decimal_found k 0 ending, decimal_is_number k l h, decimal_read k h, drop-append_seam (decimal_text k) (32 ∷ ending), e) refl

-- an entry's line shows its number and whether it was out of memory
pub line_shown : (k : ℕ) (ending : List ℕ) (out : Bool) → 1 ≤ k → k < 10000000000 → shown_ending ending ≡ Some out →
    shown_session (codes "session " ++ decimal_text k ++ codes " " ++ ending) ≡ Some (k, out)
line_shown k ending out l h e =
    ap (λ bs. shown_session (codes "session " ++ bs)) (append_assoc (decimal_text k) (codes " ") ending) ∙ entry_shown k ending out l h e

-- the text of each ending
pub ending_shown : (e : Ending) → (j : ℕ) → e ≡ Failed j → 1 ≤ j → j < 10000000000 → shown_ending (ending_text e) ≡ Some false
ending_shown e j q l h = ap (λ e. shown_ending (ending_text e)) q ∙ by
  where
    by : shown_ending (ending_text (Failed j)) ≡ Some false
    by = rw (decimal_is_number j l h, decimal_alone j, same_bytes (decimal_text j)) refl
