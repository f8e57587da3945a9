-- Bytes cut into lines by their lengths: all of them together, with more text, and with one line more.
use Rattle.std.specs.Prelude.{◌≡◌, ℕ, ◌+◌, ◌-◌, ◌≤◌, List, [], ◌∷◌, ◌++◌, length, take, drop, sum}
use Rattle.std.specs.List.{flat_map}
use Rattle.std.proofs.Common.{refl, ap, ◌∙◌, arith, append_assoc, length-append, length-drop}
use Rattle.std.proofs.lemmas.List.Sums.{sum_by-cons}
use Rattle.std.proofs.lemmas.Grind.{common_steps}
use Rattle.ml_writer.specs.Output.{Output, bytes_of, with_text, with_line, with_counted}
use Rattle.ml_writer.specs.inside.Layout.{lines_in, bytes_behind_lines, output_of, IsLaidOut}

pub all_bytes : (ns bytes : List ℕ) (answers : ℕ) → bytes_of (output_of bytes ns answers) ≡ bytes
all_bytes [] bytes answers = refl
all_bytes (n ∷ ns) bytes answers =
    append_assoc (take n bytes) (flat_map (λ l. l) (lines_in ns (drop n bytes))) (bytes_behind_lines ns (drop n bytes))
    ∙ (ap (λ z. take n bytes ++ z) (all_bytes ns (drop n bytes) answers) ∙ grind (arith, common_steps))

lines_stay : (ns bytes more : List ℕ) → sum ns ≤ length bytes → lines_in ns (bytes ++ more) ≡ lines_in ns bytes
lines_stay [] bytes more h = refl
lines_stay (n ∷ ns) bytes more h =
    let first : take n (bytes ++ more) ≡ take n bytes = grind (arith, common_steps) in
    let rest : drop n (bytes ++ more) ≡ drop n bytes ++ more = grind (arith, common_steps) in
    ap (λ z. z ∷ lines_in ns (drop n (bytes ++ more))) first
    ∙ ap (λ z. take n bytes ∷ z) (ap (lines_in ns) rest ∙ lines_stay ns (drop n bytes) more (omega (arith, sum_by-cons (λ x. x) n ns, length-drop n bytes)))

behind_more : (ns bytes more : List ℕ) → sum ns ≤ length bytes → bytes_behind_lines ns (bytes ++ more) ≡ bytes_behind_lines ns bytes ++ more
behind_more [] bytes more h = refl
behind_more (n ∷ ns) bytes more h =
    let rest : drop n (bytes ++ more) ≡ drop n bytes ++ more = grind (arith, common_steps) in
    ap (bytes_behind_lines ns) rest ∙ behind_more ns (drop n bytes) more (omega (arith, sum_by-cons (λ x. x) n ns, length-drop n bytes))

pub text_more : (ns bytes more : List ℕ) (answers : ℕ) → sum ns ≤ length bytes
    → output_of (bytes ++ more) ns answers ≡ with_text more (output_of bytes ns answers)
text_more ns bytes more answers h =
    ap (λ z. record { lines = z; unfinished = bytes_behind_lines ns (bytes ++ more); answer_bytes = answers }) (lines_stay ns bytes more h)
    ∙ ap (λ z. record { lines = lines_in ns bytes; unfinished = z; answer_bytes = answers }) (behind_more ns bytes more h)

-- what is behind all lines, as one line more
lines_with_last : (ns bytes : List ℕ) (n : ℕ) → sum ns ≤ length bytes → n ≡ length bytes - sum ns
    → lines_in (ns ++ n ∷ []) bytes ≡ lines_in ns bytes ++ bytes_behind_lines ns bytes ∷ []
lines_with_last [] bytes n h e =
    let all : take n bytes ≡ bytes = grind (arith, common_steps) in
    ap (λ z. z ∷ []) all
lines_with_last (m ∷ ns) bytes n h e =
    ap (λ z. take m bytes ∷ z) (lines_with_last ns (drop m bytes) n (omega (arith, sum_by-cons (λ x. x) m ns, length-drop m bytes))
    (omega (arith, e, sum_by-cons (λ x. x) m ns, length-drop m bytes)))

behind_last : (ns bytes : List ℕ) (n : ℕ) → sum ns ≤ length bytes → n ≡ length bytes - sum ns → bytes_behind_lines (ns ++ n ∷ []) bytes ≡ []
behind_last [] bytes n h e = grind (arith, common_steps)
behind_last (m ∷ ns) bytes n h e = behind_last ns (drop m bytes) n (omega (arith, sum_by-cons (λ x. x) m ns, length-drop m bytes))
    (omega (arith, e, sum_by-cons (λ x. x) m ns, length-drop m bytes))

pub line_more : (ns bytes more : List ℕ) (answers n : ℕ) → sum ns ≤ length bytes → n ≡ length (bytes ++ more) - sum ns
    → output_of (bytes ++ more) (ns ++ n ∷ []) answers ≡ with_line more (output_of bytes ns answers)
line_more ns bytes more answers n h e =
    let longer : sum ns ≤ length (bytes ++ more) = omega (arith, length-append bytes more) in
    ap (λ z. record { lines = z; unfinished = bytes_behind_lines (ns ++ n ∷ []) (bytes ++ more); answer_bytes = answers })
    (lines_with_last ns (bytes ++ more) n longer e)
    ∙ (ap (λ z. record { lines = lines_in ns (bytes ++ more) ++ bytes_behind_lines ns (bytes ++ more) ∷ []; unfinished = z; answer_bytes = answers })
    (behind_last ns (bytes ++ more) n longer e)
    ∙ (ap (λ z. record { lines = z ++ bytes_behind_lines ns (bytes ++ more) ∷ []; unfinished = []; answer_bytes = answers }) (lines_stay ns bytes more h)
    ∙ ap (λ z. record { lines = lines_in ns bytes ++ z ∷ []; unfinished = []; answer_bytes = answers }) (behind_more ns bytes more h)))

-- what the code keeps after a text, and after a line
pub text_added : (ns bytes all text : List ℕ) (finished answers : ℕ) (o : Output) → IsLaidOut bytes ns finished answers → output_of bytes ns answers ≡ o
    → all ≡ bytes ++ text
    → output_of all ns answers ≡ with_text text o
text_added ns bytes all text finished answers o kept is more =
    ap (λ z. output_of z ns answers) more ∙ (text_more ns bytes text answers kept.within ∙ ap (with_text text) is)

pub line_added : (ns same more bytes all text : List ℕ) (finished answers : ℕ) (o : Output) → IsLaidOut bytes ns finished answers
    → output_of bytes ns answers ≡ o → all ≡ bytes ++ text
    → same ≡ ns → more ≡ same ++ (length all - finished) ∷ [] → output_of all more answers ≡ with_line text o
line_added ns same more bytes all text finished answers o kept is longer e f =
    let n : length all - finished ≡ length (bytes ++ text) - sum ns = ap (λ z. length z - finished) longer
    ∙ ap (λ z. length (bytes ++ text) - z) kept.together in
    ap (λ z. output_of all z answers) (f ∙ ap (λ z. z ++ (length all - finished) ∷ []) e)
    ∙ (ap (λ z. output_of z (ns ++ (length all - finished) ∷ []) answers) longer ∙ (line_more ns bytes text answers (length all - finished) kept.within n
    ∙ ap (with_line text) is))

-- and with its bytes counted
pub counted : (bytes ns text : List ℕ) (answers n : ℕ) (o : Output) → output_of bytes ns answers ≡ o → n ≡ length text
    → output_of bytes ns (answers + n) ≡ with_counted text o
counted bytes ns text answers n o is e = ap (λ z. output_of bytes ns (answers + z)) e ∙ ap (with_counted text) is
