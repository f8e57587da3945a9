-- A token stands within its text, its value keeps to the limits, and a fault has its place in the text.
use Rattle.std.proofs.Common.{◌≡◌, ◌≢◌, ℕ, zero, suc, ◌+◌, ◌-◌, ◌<◌, ◌≤◌, Bool, true, ◌&&◌, ◌||◌, ◌==◌, nat_le, List, [], ◌∷◌, length, take, drop, refl, sym}
use Rattle.std.proofs.Common.{arith, subst, leb-true, zero-add, codes, Result, Ok, Err, IsTrue, Option, Some, None, IfOk, IfErr}
use Rattle.std.specs.List.{list_all, prefix_len}
use Rattle.std.proofs.Math.Nat.{add-sub_cancel_left}
use Rattle.std.proofs.lemmas.List.{length-take-le, drop-drop, length-drop}
use Rattle.std.proofs.lemmas.List.Sums.{prefix_len-le-length}
use Rattle.std.proofs.lemmas.Bool.Decides.{nat_tests}
use Rattle.ml_token.specs.Limits.{max_name_bytes, max_number}
use Rattle.ml_token.specs.declared.bytes.Run.TheVariants.{Alphanumeric, Digit, Symbol}
use Rattle.ml_token.specs.declared.bytes.TokenStart.{TokenStart}
use Rattle.ml_token.specs.declared.bytes.TokenStart.TheVariants as begun
use Rattle.ml_token.specs.declared.quoted.Ending.{Ending}
use Rattle.ml_token.specs.declared.quoted.Ending.TheVariants.{Closed, LeftOpen, Broken}
use Rattle.ml_token.specs.declared.tokens.Token.{Token}
use Rattle.ml_token.specs.declared.tokens.TokenFault.{TokenFault}
use Rattle.ml_token.specs.declared.tokens.TokenKind.{TokenKind}
use Rattle.ml_token.specs.declared.tokens.TokenKind.TheVariants.{Name, Variable, Number, Punct, End, Eof}
use Rattle.ml_token.specs.declared.tokens.TokenFaultKind.{TokenFaultKind}
use Rattle.ml_token.specs.Bytes.{is_lowercase, is_capital, is_digit, is_alphanumeric, is_symbol, is_one_of, in_run, token_start, begins_with, ends_clause}
use Rattle.ml_token.specs.inside.Gap.{gap_len}
use Rattle.ml_token.specs.Number.{value_of}
use Rattle.ml_token.specs.Quoted.{IsWithin, part_of, behind_quote, behind_backslash, escape_part, escape_of, Inside, inside, with_byte, quoted_end}
use Rattle.ml_token.specs.Quoted.{quoted_token}
use Rattle.ml_token.specs.declared.quoted.Part.{Part}
use Rattle.ml_token.specs.declared.quoted.Part.TheVariants.{Spelled, Last}
use Rattle.ml_token.specs.inside.Tokens.{token_of_len, fault_of, name_of_len, number_at, symbols_at, token_from_start, token_at, first_token}
use Rattle.ml_token.specs.Values.{is_name_byte, is_name, HasValue, StandsIn}
use Rattle.ml_token.proofs.GapLengths.{gap_len-within}
use Rattle.ml_token.proofs.NameBytes.{both_hold, if_cases, is_one_of-passes, symbol-is_name_byte, alphanumeric-is_name_byte, run-passes, inside-passes}

-- what stands at the place of this text
abbrev pub Fits : ℕ → List ℕ → Result Token TokenFault → Type 0
Fits from text (Ok t) = (t.from ≡ from) × (from ≤ t.to) × (t.to ≤ from + length text) × (t.kind ≢ Eof → from < t.to) × HasValue t.kind text (t.to - from)
Fits from text (Err f) = (from ≤ f.place) × (f.place < from + length text)

fits-sized : (kind : TokenKind) (from len : ℕ) (text : List ℕ) → len ≤ length text → (kind ≢ Eof → 0 < len) → HasValue kind text len
    → Fits from text (token_of_len kind from len)
fits-sized kind from len text within some value = (
  refl,
  omega arith,
  omega arith,
  λ other. let filled : 0 < len = some other in omega arith,
  subst (λ (n : ℕ). HasValue kind text n) (sym (add-sub_cancel_left from len)) value,
)

fits-faulty : (kind : TokenFaultKind) (from place : ℕ) (text : List ℕ) → from ≤ place → place < from + length text → Fits from text (fault_of kind place)
fits-faulty kind from place text after before = (after, before)

is_name-short : (bytes : List ℕ) → nat_le (length bytes) max_name_bytes ≡ true → list_all is_name_byte bytes ≡ true → IsTrue (is_name bytes)
is_name-short bytes short all = both_hold (nat_le (length bytes) max_name_bytes) (list_all is_name_byte bytes) short all

-- a name that stands in the text as it is
fits-name : (kind : TokenKind) (from len : ℕ) (text : List ℕ) → len ≤ length text → 0 < len → list_all is_name_byte (take len text) ≡ true
    → (IsTrue (is_name (take len text)) → HasValue kind text len) → Fits from text (name_of_len kind from len)
fits-name kind from len text within some all value =
    if_cases (Fits from text) (nat_le len max_name_bytes) _ _
    (λ short. fits-sized kind from len text within (λ other. some)
    (value (is_name-short (take len text) (subst (λ (n : ℕ). nat_le n max_name_bytes ≡ true) (sym (length-take-le len text within)) short) all)))
    (λ long. (omega arith, omega arith))

-- a run takes some of the text, and no more than there is
run-some : (p : ℕ → Bool) (b : ℕ) (bs : List ℕ) → p b ≡ true → 0 < prefix_len p (b ∷ bs)
run-some p b bs passes = rw passes (omega arith)

run-within : (p : ℕ → Bool) (bs : List ℕ) → prefix_len p bs ≤ length bs
run-within p bs = prefix_len-le-length p bs

fits-number : (from b : ℕ) (bs : List ℕ) → is_digit b ≡ true → Fits from (b ∷ bs) (number_at from (b ∷ bs))
fits-number from b bs digit =
    let text : List ℕ = b ∷ bs in
    let len : ℕ = prefix_len (in_run Digit) text in
    let some : 0 < len = run-some (in_run Digit) b bs digit in
    if_cases (Fits from text) (nat_le (value_of (take len text)) max_number) _ _
    (λ small. fits-sized Number from len text (run-within (in_run Digit) text) (λ other. some) (leb-true (value_of (take len text)) max_number small))
    (λ large. (omega arith, omega arith))

-- a name of letters, digits and low lines
fits-bare : (kind : TokenKind) (from b : ℕ) (bs : List ℕ) → is_alphanumeric b ≡ true
    → (IsTrue (is_name (take (prefix_len (in_run Alphanumeric) (b ∷ bs)) (b ∷ bs))) → HasValue kind (b ∷ bs) (prefix_len (in_run Alphanumeric) (b ∷ bs)))
    → Fits from (b ∷ bs) (name_of_len kind from (prefix_len (in_run Alphanumeric) (b ∷ bs)))
fits-bare kind from b bs letter value =
    fits-name kind from (prefix_len (in_run Alphanumeric) (b ∷ bs)) (b ∷ bs) (run-within (in_run Alphanumeric) (b ∷ bs))
    (run-some (in_run Alphanumeric) b bs letter)
    (run-passes (in_run Alphanumeric) is_name_byte alphanumeric-is_name_byte (b ∷ bs)) value

fits-symbols : (from b : ℕ) (bs : List ℕ) → is_symbol b ≡ true → Fits from (b ∷ bs) (symbols_at from b bs)
fits-symbols from b bs symbol =
    let text : List ℕ = b ∷ bs in
    let len : ℕ = 1 + prefix_len (in_run Symbol) bs in
    let all : prefix_len (in_run Symbol) text ≡ len = rw symbol refl in
    let within : len ≤ length text = omega (arith, run-within (in_run Symbol) bs) in
    if_cases (Fits from text) (b == 46 && ends_clause bs) _ _
    (λ ends. fits-sized End from 1 text (omega arith) (λ other. omega arith) refl)
    (λ goes_on. if_cases (Fits from text) (b == 47 && begins_with 42 bs) _ _
    (λ opens. (omega arith, omega arith))
    (λ name. fits-name Name from len text within (omega arith)
    (subst (λ (n : ℕ). list_all is_name_byte (take n text) ≡ true) all
    (run-passes (in_run Symbol) is_name_byte symbol-is_name_byte text))
    (λ value. value)))

-- an ending leaves this much of the text
abbrev EndsWithin : Ending → ℕ → ℕ → Type 0
EndsWithin Closed n len = n < len
EndsWithin LeftOpen n len = n ≤ len
EndsWithin (Broken kind) n len = n < len

ends_within-suc : (e : Ending) (n m len : ℕ) → m ≡ 1 + n → EndsWithin e n len → EndsWithin e m (suc len)
ends_within-suc Closed n m len is h = omega arith
ends_within-suc LeftOpen n m len is h = omega arith
ends_within-suc (Broken kind) n m len is h = omega arith

ends_within-zero : (e : Ending) (m len : ℕ) → m ≡ 0 → EndsWithin e m (suc len)
ends_within-zero Closed m len is = omega arith
ends_within-zero LeftOpen m len is = omega arith
ends_within-zero (Broken kind) m len is = omega arith

-- a part takes some of the text, and no more than there is
escaped-within : (o : Option ℕ) (len : ℕ) → 2 ≤ len → IsWithin (escape_part o) len
escaped-within None len room = tt
escaped-within (Some v) len room = (omega arith, room)

quote-within : (bs : List ℕ) → IsWithin (behind_quote bs) (suc (length bs))
quote-within [] = omega arith
quote-within (b ∷ bs) =
    if_cases (λ (p : Part). IsWithin p (suc (length (b ∷ bs)))) (b == 39) _ _ (λ is. (omega arith, omega arith)) (λ is. omega arith)

backslash-within : (bs : List ℕ) → IsWithin (behind_backslash bs) (suc (length bs))
backslash-within [] = tt
backslash-within (b ∷ bs) = escaped-within (escape_of b) (suc (length (b ∷ bs))) (omega arith)

part-within : (bs : List ℕ) → IsWithin (part_of bs) (length bs)
part-within [] = tt
part-within (b ∷ bs) =
    let P : Part → Type 0 = λ p. IsWithin p (length (b ∷ bs)) in
    if_cases P (b == 39) _ _ (λ is. quote-within bs) (λ is.
    if_cases P (b == 92) _ _ (λ is. backslash-within bs) (λ is.
    if_cases P (b == 10) _ _ (λ is. tt) (λ is.
    if_cases P (nat_le 32 b && nat_le b 126) _ _ (λ is. (omega arith, omega arith)) (λ is. tt))))

inside_by : (p : Part) (b : ℕ) (bs : List ℕ) → IsWithin p (length (b ∷ bs))
    → ((k : ℕ) → k ≤ length bs → EndsWithin (inside k bs).ending (k + (inside k bs).width) (length bs))
    → EndsWithin (let i : Inside = elim p [
      | Spelled v n ↦ with_byte v n (inside (n - 1) bs)
      | Last ending ↦ record { name = []; width = 0; ending = ending }
    ] in i.ending) (0 + (let i : Inside = elim p [
      | Spelled v n ↦ with_byte v n (inside (n - 1) bs)
      | Last ending ↦ record { name = []; width = 0; ending = ending }
    ] in i.width)) (length (b ∷ bs))
inside_by (Spelled v n) b bs within rest =
    let after : Inside = inside (n - 1) bs in
    ends_within-suc after.ending (n - 1 + after.width) (0 + (n + after.width)) (length bs) (omega arith) (rest (n - 1) (omega arith))
inside_by (Last ending) b bs within rest = ends_within-zero ending (0 + 0) (length bs) refl

inside-within : (k : ℕ) (bs : List ℕ) → k ≤ length bs → EndsWithin (inside k bs).ending (k + (inside k bs).width) (length bs)
inside-within k [] within = omega arith
inside-within (suc k) (b ∷ bs) within =
    let after : Inside = inside k bs in
    ends_within-suc after.ending (k + after.width) (suc k + after.width) (length bs) (omega arith) (inside-within k bs (omega arith))
inside-within zero (b ∷ bs) within = inside_by (part_of (b ∷ bs)) b bs (part-within (b ∷ bs)) (λ k. inside-within k bs)

fits-end : (from b width : ℕ) (bs : List ℕ) (e : Ending) → EndsWithin e width (length bs) → IsTrue (is_name (inside 0 bs).name)
    → Fits from (b ∷ bs) (quoted_end from width e)
fits-end from b width bs Closed within value = (refl, omega arith, omega arith, λ other. omega arith, value)
fits-end from b width bs LeftOpen within value = (omega arith, omega arith)
fits-end from b width bs (Broken kind) within value = (omega arith, omega arith)

fits-quoted : (from b : ℕ) (bs : List ℕ) → Fits from (b ∷ bs) (quoted_token from bs)
fits-quoted from b bs =
    if_cases (Fits from (b ∷ bs)) (nat_le (length (inside 0 bs).name) max_name_bytes) _ _
    (λ short. fits-end from b (inside 0 bs).width bs (inside 0 bs).ending
    (subst (λ (n : ℕ). EndsWithin (inside 0 bs).ending n (length bs)) (zero-add (inside 0 bs).width) (inside-within 0 bs (omega arith)))
    (is_name-short (inside 0 bs).name short (inside-passes 0 bs)))
    (λ long. (omega arith, omega arith))

-- what is known of a byte by what it may begin
abbrev Tells : ℕ → TokenStart → Type 0
Tells b begun.Name = is_alphanumeric b ≡ true
Tells b begun.Variable = is_alphanumeric b ≡ true
Tells b begun.Number = is_digit b ≡ true
Tells b begun.Symbol = is_symbol b ≡ true
Tells b begun.Solo = is_name_byte b ≡ true
Tells b kind = Unit {0}

small-is_alphanumeric : (b : ℕ) → is_lowercase b ≡ true → is_alphanumeric b ≡ true
small-is_alphanumeric b is = grind (arith, nat_tests)

capital-is_alphanumeric : (b : ℕ) → (is_capital b || b == 95) ≡ true → is_alphanumeric b ≡ true
capital-is_alphanumeric b is = grind (arith, nat_tests)

begun-tells : (b : ℕ) → Tells b (token_start b)
begun-tells b =
    let P : TokenStart → Type 0 = Tells b in
    if_cases P (is_lowercase b) _ _ (λ is. small-is_alphanumeric b is) (λ is.
    if_cases P (is_capital b || b == 95) _ _ (λ is. capital-is_alphanumeric b is) (λ is.
    if_cases P (is_digit b) _ _ (λ is. is) (λ is.
    if_cases P (is_symbol b) _ _ (λ is. is) (λ is.
    if_cases P (b == 39) _ _ (λ is. tt) (λ is.
    if_cases P (is_one_of (codes "!;") b) _ _ (λ is. is_one_of-passes is_name_byte (codes "!;") b is refl) (λ is.
    if_cases P (is_one_of (codes "()[]{},|") b) _ _ (λ is. tt) (λ is.
    if_cases P (is_one_of (codes "\"`") b) _ _ (λ is. tt) (λ is. tt))))))))

fits-begun : (from : ℕ) (k : TokenStart) (b : ℕ) (bs : List ℕ) → Tells b k → Fits from (b ∷ bs) (token_from_start from k b bs)
fits-begun from begun.Name b bs tells = fits-bare Name from b bs tells (λ value. value)
fits-begun from begun.Variable b bs tells = fits-bare Variable from b bs tells (λ value. value)
fits-begun from begun.Number b bs tells = fits-number from b bs tells
fits-begun from begun.Symbol b bs tells = fits-symbols from b bs tells
fits-begun from begun.Quote b bs tells = fits-quoted from b bs
fits-begun from begun.Solo b bs tells =
    fits-sized Name from 1 (b ∷ bs) (omega arith) (λ other. omega arith) (both_hold (is_name_byte b) true tells refl)
fits-begun from begun.Punct b bs tells = fits-sized Punct from 1 (b ∷ bs) (omega arith) (λ other. omega arith) refl
fits-begun from begun.LeftOutQuote b bs tells = (omega arith, omega arith)
fits-begun from begun.Nothing b bs tells = (omega arith, omega arith)

pub fits-token_at : (from : ℕ) (text : List ℕ) → Fits from text (token_at from text)
fits-token_at from [] = fits-sized Eof from 0 [] (omega arith) (λ other. absurd (other refl)) (refl, refl)
fits-token_at from (b ∷ bs) = fits-begun from (token_start b) b bs (begun-tells b)

-- the token or the fault at or after a place
pub fits-first_token : (bytes : List ℕ) (at gap : ℕ)
    → Fits (at + gap) (drop (at + gap) bytes) (token_at (at + gap) (drop gap (drop at bytes)))
fits-first_token bytes at gap =
    subst (λ (text : List ℕ). Fits (at + gap) (drop (at + gap) bytes) (token_at (at + gap) text)) (sym (drop-drop gap at bytes))
    (fits-token_at (at + gap) (drop (at + gap) bytes))

-- what fits stands in the bytes
stands-in : (bytes : List ℕ) (at gap : ℕ) (t : Token) → at + gap ≤ length bytes → Fits (at + gap) (drop (at + gap) bytes) (Ok t) → StandsIn bytes at t
stands-in bytes at gap t within fits = record {
  behind = omega arith;
  ordered = omega arith;
  within = omega (arith, length-drop (at + gap) bytes);
  some = λ other. omega (arith, fits.3 other);
  value = subst (λ (from : ℕ). HasValue t.kind (drop from bytes) (t.to - from)) (sym fits.0) fits.4;
}

pub token-stands : (bytes : List ℕ) (at gap : ℕ) (r : Result Token TokenFault) → at + gap ≤ length bytes
    → Fits (at + gap) (drop (at + gap) bytes) r → IfOk r (StandsIn bytes at)
token-stands bytes at gap (Ok t) within fits = stands-in bytes at gap t within fits
token-stands bytes at gap (Err f) within fits = tt

pub fault-stands : (bytes : List ℕ) (at gap : ℕ) (r : Result Token TokenFault) → at + gap ≤ length bytes
    → Fits (at + gap) (drop (at + gap) bytes) r → IfErr r (λ f. (at ≤ f.place) × (f.place < length bytes))
fault-stands bytes at gap (Ok t) within fits = tt
fault-stands bytes at gap (Err f) within fits = (omega arith, omega (arith, length-drop (at + gap) bytes))

-- a gap from a place in the text on ends in the text
gap-ends : (bytes : List ℕ) (at : ℕ) → at ≤ length bytes → at + gap_len 0 (drop at bytes) ≤ length bytes
gap-ends bytes at within = omega (arith, gap_len-within 0 (drop at bytes), length-drop at bytes)

pub first-stands : (bytes : List ℕ) (at : ℕ) (t : Token) → at ≤ length bytes → first_token bytes at ≡ Ok t → StandsIn bytes at t
unfolding first_token
first-stands bytes at t within is =
    let gap : ℕ = gap_len 0 (drop at bytes) in
    stands-in bytes at gap t (gap-ends bytes at within) (subst (λ r. Fits (at + gap) (drop (at + gap) bytes) r) is (fits-first_token bytes at gap))

pub first-fails : (bytes : List ℕ) (at : ℕ) (f : TokenFault) → at ≤ length bytes → first_token bytes at ≡ Err f → (at ≤ f.place) × (f.place < length bytes)
unfolding first_token
first-fails bytes at f within is =
    let gap : ℕ = gap_len 0 (drop at bytes) in
    let ends = gap-ends bytes at within in
    let fits = subst (λ r. Fits (at + gap) (drop (at + gap) bytes) r) is (fits-first_token bytes at gap) in
    (omega arith, omega (arith, length-drop (at + gap) bytes))
