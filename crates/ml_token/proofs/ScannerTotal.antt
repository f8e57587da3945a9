-- Each text has a token or a first defect.
use Rattle.std.proofs.Common.{◌≡◌, ℕ, zero, suc, ◌+◌, ◌<◌, ◌≤◌, Bool, true, false, cond, leb, ◌&&◌, ◌||◌, ◌==◌, nat_le, List, [], ◌∷◌, ◌++◌, length, take, drop}
use Rattle.std.proofs.Common.{refl, sym, ap, ◌∙◌, arith, subst, eqb-true, Option, Some, None, Result, Ok, Err, append_assoc, length-append, codes, ◌⊎◌, inl}
use Rattle.std.proofs.Common.{inr}
use Rattle.std.specs.List.{prefix_len}
use Rattle.std.proofs.lemmas.List.{take-append-drop}
use Rattle.std.proofs.lemmas.Bool.Decides.{nat_tests, leb_tells}
use Rattle.ml_token.specs.Limits.{max_name_bytes, max_number}
use Rattle.ml_token.specs.declared.tokens.Token.{Token}
use Rattle.ml_token.specs.declared.tokens.TokenFault.{TokenFault}
use Rattle.ml_token.specs.declared.tokens.TokenKind.{TokenKind}
use Rattle.ml_token.specs.declared.tokens.TokenKind.TheVariants.{Name, QuotedName, Variable, Number, Punct, End, Eof}
use Rattle.ml_token.specs.declared.tokens.TokenFaultKind.{TokenFaultKind}
use Rattle.ml_token.specs.declared.tokens.TokenFaultKind.TheVariants.{BadCharacter, OpenQuote, OpenComment, BadEscape, NumberTooLarge, NameTooLong}
use Rattle.ml_token.specs.declared.tokens.TokenFaultKind.TheVariants.{LeftOutQuote}
use Rattle.ml_token.specs.Bytes.{is_one_of, is_layout, is_lowercase, is_capital, is_digit, is_alphanumeric, is_symbol, begins_with, ends_clause}
use Rattle.ml_token.specs.Number.{value_of}
use Rattle.ml_token.specs.Quoted.{escape_of}
use Rattle.ml_token.specs.inside.Tokens.{first_token}
use Rattle.ml_token.specs.Language as language
use Rattle.ml_token.specs.Language.{IsRun, StopsAt, is_in_line, IsGap, no_gap, layout, line_comment, block_comment, is_plain, Spells, nothing, plain}
use Rattle.ml_token.specs.Language.{two_quotes, escape, IsToken, IsFault, HasToken, HasFault, holds_close, leaves_open, begins_something}
use Rattle.ml_token.proofs.NameBytes.{run-passes}
use Rattle.ml_token.proofs.ScannedRuns.{neither}
use Rattle.ml_token.proofs.ScannerComplete.{token-only, fault-only}

-- a run that stands first
stops_by : (p : ℕ → Bool) (x : ℕ) (xs : List ℕ) (r : Bool) → p x ≡ r → StopsAt p (drop (prefix_len p xs) xs)
    → StopsAt p (drop (cond r (1 + prefix_len p xs) 0) (x ∷ xs))
stops_by p x xs true is rest =
    let more : 1 + prefix_len p xs ≡ suc (prefix_len p xs) = omega arith in subst (λ (n : ℕ). StopsAt p (drop n (x ∷ xs))) (sym more) rest
stops_by p x xs false is rest = is

run-stops : (p : ℕ → Bool) (xs : List ℕ) → StopsAt p (drop (prefix_len p xs) xs)
run-stops p [] = tt
run-stops p (x ∷ xs) = stops_by p x xs (p x) refl (run-stops p xs)

run-first : (p : ℕ → Bool) (xs : List ℕ) → IsRun p (take (prefix_len p xs) xs) (drop (prefix_len p xs) xs)
run-first p xs = record { all = run-passes p p (λ b is. is) xs; longest = run-stops p xs }

run-whole : (p : ℕ → Bool) (xs : List ℕ) → xs ≡ take (prefix_len p xs) xs ++ drop (prefix_len p xs) xs
run-whole p xs = sym (take-append-drop (prefix_len p xs) xs)

-- a text that begins with this byte
record Begins (b : ℕ) (xs : List ℕ) : Type 0 where
  rest : List ℕ
  is : xs ≡ b ∷ rest

begins-with : (b : ℕ) (xs : List ℕ) → begins_with b xs ≡ true → Begins b xs
begins-with b [] is = absurd (let clash : false ≡ true = is in cc)
begins-with b (x ∷ xs) is = record { rest = xs; is = ap (λ (n : ℕ). n ∷ xs) (eqb-true x b is) }

-- a comment's text, where it closes
record Closes (bs : List ℕ) : Type 0 where
  text : List ℕ
  after : List ℕ
  whole : bs ≡ text ++ 42 ∷ 47 ∷ after
  none : holds_close text ≡ false

closes_sooner : (same : Bool) (text after : List ℕ) → (same && begins_with 47 (text ++ 42 ∷ 47 ∷ after)) ≡ false → (same && begins_with 47 text) ≡ false
closes_sooner true [] after is = refl
closes_sooner true (b ∷ bs) after is = is
closes_sooner false text after is = refl

or_false : (a b : Bool) → a ≡ false → b ≡ false → (a || b) ≡ false
or_false a b e f = cc

closes_behind : (b : ℕ) (bs : List ℕ) → (b == 42 && begins_with 47 bs) ≡ false → Closes bs → Closes (b ∷ bs)
closes_behind b bs later c = record {
  text = b ∷ c.text;
  after = c.after;
  whole = ap (λ (xs : List ℕ). b ∷ xs) c.whole;
  none = or_false (b == 42 && begins_with 47 c.text) (holds_close c.text)
      (closes_sooner (b == 42) c.text c.after (subst (λ (xs : List ℕ). (b == 42 && begins_with 47 xs) ≡ false) c.whole later)) c.none;
}

both-true : (a b : Bool) → (a && b) ≡ true → (a ≡ true) × (b ≡ true)
both-true true b is = (refl, is)
both-true false b is = absurd (let clash : false ≡ true = is in cc)

closes_now : (b : ℕ) (bs : List ℕ) → (b == 42 && begins_with 47 bs) ≡ true → Closes (b ∷ bs)
closes_now b bs is =
    let tests = both-true (b == 42) (begins_with 47 bs) is in
    let next : Begins 47 bs = begins-with 47 bs tests.1 in
    record { text = []; after = next.rest; whole = ap (λ (n : ℕ). n ∷ bs) (eqb-true b 42 tests.0) ∙ ap (λ (xs : List ℕ). 42 ∷ xs) next.is; none = refl }

closes_or_not : (b : ℕ) (bs : List ℕ) (now : Bool) → (b == 42 && begins_with 47 bs) ≡ now → Closes bs ⊎ (holds_close bs ≡ false) → Closes (b ∷ bs)
    ⊎ (holds_close (b ∷ bs) ≡ false)
closes_or_not b bs true is later = inl (closes_now b bs is)
closes_or_not b bs false is (inl c) = inl (closes_behind b bs is c)
closes_or_not b bs false is (inr none) = inr (or_false (b == 42 && begins_with 47 bs) (holds_close bs) is none)

-- a comment closes, or it doesn't
close_or_none : (bs : List ℕ) → Closes bs ⊎ (holds_close bs ≡ false)
close_or_none [] = inr refl
close_or_none (b ∷ bs) = closes_or_not b bs (b == 42 && begins_with 47 bs) refl (close_or_none bs)

-- what a text begins with: layout, a comment, or a token or a defect
data Piece (bs : List ℕ) : Type 0 where
  a_byte : (b : ℕ) (rest : List ℕ) → bs ≡ b ∷ rest → is_layout b ≡ true → Piece bs
  a_line : (text rest : List ℕ) → bs ≡ 37 ∷ (text ++ rest) → IsRun is_in_line text rest → Piece bs
  a_block : (text rest : List ℕ) → bs ≡ 47 ∷ 42 ∷ (text ++ 42 ∷ 47 ∷ rest) → holds_close text ≡ false → Piece bs
  a_token : (kind : TokenKind) (text rest : List ℕ) → bs ≡ text ++ rest → IsToken kind text rest → Piece bs
  a_fault : (kind : TokenFaultKind) (text rest : List ℕ) → bs ≡ text ++ rest → IsFault kind text rest → Piece bs

line-piece : (b : ℕ) (bs : List ℕ) → (b == 37) ≡ true → Piece (b ∷ bs)
line-piece b bs is =
    let n : ℕ = prefix_len is_in_line bs in
    a_line (take n bs) (drop n bs) (ap (λ (x : ℕ). x ∷ bs) (eqb-true b 37 is) ∙ ap (λ (xs : List ℕ). 37 ∷ xs) (run-whole is_in_line bs))
    (run-first is_in_line bs)

comment-piece : (bs : List ℕ) → Closes bs ⊎ (holds_close bs ≡ false) → Piece (47 ∷ 42 ∷ bs)
comment-piece bs (inl c) = a_block c.text c.after (ap (λ (xs : List ℕ). 47 ∷ 42 ∷ xs) c.whole) c.none
comment-piece bs (inr none) = a_fault OpenComment [] (47 ∷ 42 ∷ bs) refl (language.open_comment none)

swap_sides : (n m : ℕ) → ((leb m n ≡ true) × (m ≤ n)) ⊎ ((leb m n ≡ false) × (n < m)) → (n < m) ⊎ (m ≤ n)
swap_sides n m (inl (is, le)) = inr le
swap_sides n m (inr (is, lt)) = inl lt

short_or_long : (n m : ℕ) → (n < m) ⊎ (m ≤ n)
short_or_long n m = swap_sides n m (leb_tells m n)

-- either way a test comes out
choose : {A : Type 0} (c : Bool) → (c ≡ true → A) → (c ≡ false → A) → A
choose true yields other = yields refl
choose false yields other = other refl

behind_first : (p : ℕ → Bool) (b : ℕ) (bs : List ℕ) → b ∷ bs ≡ b ∷ (take (prefix_len p bs) bs ++ drop (prefix_len p bs) bs)
behind_first p b bs = ap (λ (xs : List ℕ). b ∷ xs) (run-whole p bs)

bare_by : (kind : TokenKind) (b : ℕ) (bs text rest : List ℕ) → b ∷ bs ≡ b ∷ (text ++ rest) → (is_lowercase b || is_capital b || b == 95) ≡ true
    → IsRun is_alphanumeric text rest → (length text < max_name_bytes → IsToken kind (b ∷ text) rest)
    → (length text < max_name_bytes) ⊎ (max_name_bytes ≤ length text) → Piece (b ∷ bs)
bare_by kind b bs text rest whole letter run make (inl short) = a_token kind (b ∷ text) rest whole (make short)
bare_by kind b bs text rest whole letter run make (inr long) = a_fault NameTooLong [] (b ∷ (text ++ rest)) whole (language.long_name text rest letter run long)

bare-piece : (kind : TokenKind) (b : ℕ) (bs : List ℕ) → (is_lowercase b || is_capital b || b == 95) ≡ true
    → ((text rest : List ℕ) → IsRun is_alphanumeric text rest → length text < max_name_bytes → IsToken kind (b ∷ text) rest)
    → Piece (b ∷ bs)
bare-piece kind b bs letter make =
    let text : List ℕ = take (prefix_len is_alphanumeric bs) bs in
    let rest : List ℕ = drop (prefix_len is_alphanumeric bs) bs in
    let run : IsRun is_alphanumeric text rest = run-first is_alphanumeric bs in
    bare_by kind b bs text rest (behind_first is_alphanumeric b bs) letter run (make text rest run) (short_or_long (length text) max_name_bytes)

number_by : (b : ℕ) (bs text rest : List ℕ) → b ∷ bs ≡ b ∷ (text ++ rest) → is_digit b ≡ true → IsRun is_digit text rest
    → (max_number < value_of (b ∷ text)) ⊎ (value_of (b ∷ text) ≤ max_number) → Piece (b ∷ bs)
number_by b bs text rest whole is run (inl large) = a_fault NumberTooLarge [] (b ∷ (text ++ rest)) whole (language.large_number text rest is run large)
number_by b bs text rest whole is run (inr small) = a_token Number (b ∷ text) rest whole (language.number is run small)

number-piece : (b : ℕ) (bs : List ℕ) → is_digit b ≡ true → Piece (b ∷ bs)
number-piece b bs is =
    let text : List ℕ = take (prefix_len is_digit bs) bs in
    number_by b bs text (drop (prefix_len is_digit bs) bs) (behind_first is_digit b bs) is (run-first is_digit bs)
    (short_or_long max_number (value_of (b ∷ text)))

symbol_by : (b : ℕ) (bs text rest : List ℕ) → bs ≡ text ++ rest → is_symbol b ≡ true → (b == 46 && ends_clause bs) ≡ false
    → (b == 47 && begins_with 42 bs) ≡ false → IsRun is_symbol text rest
    → (length text < max_name_bytes) ⊎ (max_name_bytes ≤ length text) → Piece (b ∷ bs)
symbol_by b bs text rest whole is end comment run (inl short) =
    a_token Name (b ∷ text) rest (ap (λ (xs : List ℕ). b ∷ xs) whole)
    (language.symbol_name is run (subst (λ (xs : List ℕ). (b == 46 && ends_clause xs) ≡ false) whole end)
    (subst (λ (xs : List ℕ). (b == 47 && begins_with 42 xs) ≡ false) whole comment) short)
symbol_by b bs text rest whole is end comment run (inr long) =
    a_fault NameTooLong [] (b ∷ (text ++ rest)) (ap (λ (xs : List ℕ). b ∷ xs) whole)
    (language.long_symbol_name text rest is run (subst (λ (xs : List ℕ). (b == 47 && begins_with 42 xs) ≡ false) whole comment) long)

comment-begins : (b : ℕ) (bs : List ℕ) → (b == 47 && begins_with 42 bs) ≡ true → Piece (b ∷ bs)
comment-begins b bs is =
    let tests = both-true (b == 47) (begins_with 42 bs) is in
    let next : Begins 42 bs = begins-with 42 bs tests.1 in
    let same : b ∷ bs ≡ 47 ∷ 42 ∷ next.rest = ap (λ (n : ℕ). n ∷ bs) (eqb-true b 47 tests.0) ∙ ap (λ (xs : List ℕ). 47 ∷ xs) next.is in
    subst Piece (sym same) (comment-piece next.rest (close_or_none next.rest))

end-piece : (b : ℕ) (bs : List ℕ) → (b == 46 && ends_clause bs) ≡ true → Piece (b ∷ bs)
end-piece b bs is =
    let tests = both-true (b == 46) (ends_clause bs) is in
    a_token End (46 ∷ []) bs (ap (λ (n : ℕ). n ∷ bs) (eqb-true b 46 tests.0)) (language.end tests.1)

symbols-piece : (b : ℕ) (bs : List ℕ) → is_symbol b ≡ true → Piece (b ∷ bs)
symbols-piece b bs is =
    choose (b == 46 && ends_clause bs) (λ end. end-piece b bs end) (λ end.
    choose (b == 47 && begins_with 42 bs) (λ comment. comment-begins b bs comment) (λ comment.
    let text : List ℕ = take (prefix_len is_symbol bs) bs in
    symbol_by b bs text (drop (prefix_len is_symbol bs) bs) (run-whole is_symbol bs) is end comment (run-first is_symbol bs)
    (short_or_long (length text) max_name_bytes)))

-- what ends the text between the quotes
data Ended (rest : List ℕ) : Type 0 where
  closed : (after : List ℕ) → rest ≡ 39 ∷ after → begins_with 39 after ≡ false → Ended rest
  left_open : leaves_open rest ≡ true → Ended rest
  odd : (b : ℕ) (after : List ℕ) → rest ≡ b ∷ after → (nat_le 32 b && nat_le b 126 || b == 10) ≡ false → Ended rest
  bad : (b : ℕ) (after : List ℕ) → rest ≡ 92 ∷ b ∷ after → escape_of b ≡ None → Ended rest

-- what comes next between the quotes
data Next (bs : List ℕ) : Type 0 where
  one_byte : (b : ℕ) (rest : List ℕ) → bs ≡ b ∷ rest → is_plain b ≡ true → Next bs
  quotes : (rest : List ℕ) → bs ≡ 39 ∷ 39 ∷ rest → Next bs
  escaped : (b v : ℕ) (rest : List ℕ) → bs ≡ 92 ∷ b ∷ rest → escape_of b ≡ Some v → Next bs
  last : Ended bs → Next bs

first-is : (b c : ℕ) (bs : List ℕ) → (b == c) ≡ true → b ∷ bs ≡ c ∷ bs
first-is b c bs is = ap (λ (n : ℕ). n ∷ bs) (eqb-true b c is)

quote-next : (b : ℕ) (bs : List ℕ) → (b == 39) ≡ true → Next (b ∷ bs)
quote-next b [] is = last (closed [] (first-is b 39 [] is) refl)
quote-next b (c ∷ cs) is =
    choose (c == 39)
    (λ also. quotes cs (first-is b 39 (c ∷ cs) is ∙ ap (λ (xs : List ℕ). 39 ∷ xs) (first-is c 39 cs also)))
    (λ other. last (closed (c ∷ cs) (first-is b 39 (c ∷ cs) is) other))

escape-next : (b c : ℕ) (cs : List ℕ) (o : Option ℕ) → escape_of c ≡ o → (b == 92) ≡ true → Next (b ∷ c ∷ cs)
escape-next b c cs (Some v) spells is = escaped c v cs (first-is b 92 (c ∷ cs) is) spells
escape-next b c cs None spells is = last (bad c cs (first-is b 92 (c ∷ cs) is) spells)

backslash-next : (b : ℕ) (bs : List ℕ) → (b == 92) ≡ true → Next (b ∷ bs)
backslash-next b [] is = last (left_open (subst (λ (n : ℕ). leaves_open (n ∷ []) ≡ true) (sym (eqb-true b 92 is)) refl))
backslash-next b (c ∷ cs) is = escape-next b c cs (escape_of c) refl is

printing-plain : (b : ℕ) → (b == 39) ≡ false → (b == 92) ≡ false → (nat_le 32 b && nat_le b 126) ≡ true → is_plain b ≡ true
printing-plain b quote backslash prints = grind (arith, nat_tests)

next : (bs : List ℕ) → Next bs
next [] = last (left_open refl)
next (b ∷ bs) =
    choose (b == 39) (λ is. quote-next b bs is) (λ quote.
    choose (b == 92) (λ is. backslash-next b bs is) (λ backslash.
    choose (b == 10) (λ is. last (left_open (subst (λ (n : ℕ). leaves_open (n ∷ bs) ≡ true) (sym (eqb-true b 10 is)) refl))) (λ feed.
    choose (nat_le 32 b && nat_le b 126) (λ prints. one_byte b bs refl (printing-plain b quote backslash prints))
    (λ prints. last (odd b bs refl (or_false (nat_le 32 b && nat_le b 126) (b == 10) prints feed))))))

-- all that stands between the quotes
record Quoted (bs : List ℕ) : Type 0 where
  text : List ℕ
  name : List ℕ
  rest : List ℕ
  whole : bs ≡ text ++ rest
  spells : Spells text name
  ended : Ended rest

quoted_from : (fuel : ℕ) (bs : List ℕ) → Next bs → length bs ≤ suc fuel → ((xs : List ℕ) → length xs ≤ fuel → Quoted xs) → Quoted bs
quoted_from fuel bs (one_byte b rest is passes) small more =
    let q : Quoted rest = more rest (omega (arith, ap length is)) in
    record {
      text = b ∷ q.text;
      name = b ∷ q.name;
      rest = q.rest;
      whole = is ∙ ap (λ (xs : List ℕ). b ∷ xs) q.whole;
      spells = plain passes q.spells;
      ended =
          q.ended;
    }
quoted_from fuel bs (quotes rest is) small more =
    let q : Quoted rest = more rest (omega (arith, ap length is)) in
    record {
      text = 39 ∷ 39 ∷ q.text;
      name = 39 ∷ q.name;
      rest = q.rest;
      whole = is ∙ ap (λ (xs : List ℕ). 39 ∷ 39 ∷ xs) q.whole;
      spells = two_quotes q.spells;
      ended = q.ended;
    }
quoted_from fuel bs (escaped b v rest is spells) small more =
    let q : Quoted rest = more rest (omega (arith, ap length is)) in
    record {
      text = 92 ∷ b ∷ q.text;
      name = v ∷ q.name;
      rest = q.rest;
      whole = is ∙ ap (λ (xs : List ℕ). 92 ∷ b ∷ xs) q.whole;
      spells = escape spells q.spells;
      ended = q.ended;
    }
quoted_from fuel bs (last ended) small more = record { text = []; name = []; rest = bs; whole = refl; spells = nothing; ended = ended }

quoted : (fuel : ℕ) (bs : List ℕ) → length bs ≤ fuel → Quoted bs
quoted zero [] small = record { text = []; name = []; rest = []; whole = refl; spells = nothing; ended = left_open refl }
quoted zero (b ∷ bs) small = absurd (omega arith)
quoted (suc fuel) bs small = quoted_from fuel bs (next bs) small (λ xs less. quoted fuel xs less)

quoted-ended : (bs text name rest : List ℕ) → bs ≡ text ++ rest → Spells text name → length name ≤ max_name_bytes → Ended rest → Piece (39 ∷ bs)
quoted-ended bs text name rest whole spells short (closed after is stops) =
    a_token QuotedName (39 ∷ (text ++ 39 ∷ [])) after
    (ap (λ (xs : List ℕ). 39 ∷ xs) (whole ∙ ap (λ (xs : List ℕ). text ++ xs) is ∙ sym (append_assoc text (39 ∷ []) after)))
    (language.quoted_name text name spells short stops)
quoted-ended bs text name rest whole spells short (left_open open_) =
    a_fault OpenQuote [] (39 ∷ (text ++ rest)) (ap (λ (xs : List ℕ). 39 ∷ xs) whole) (language.open_quote text name rest spells short open_)
quoted-ended bs text name rest whole spells short (odd b after is test) =
    a_fault BadCharacter (39 ∷ text) (b ∷ after) (ap (λ (xs : List ℕ). 39 ∷ xs) (whole ∙ ap (λ (xs : List ℕ). text ++ xs) is))
    (language.not_in_quotes name spells short test)
quoted-ended bs text name rest whole spells short (bad b after is none) =
    a_fault BadEscape (39 ∷ text) (92 ∷ b ∷ after) (ap (λ (xs : List ℕ). 39 ∷ xs) (whole ∙ ap (λ (xs : List ℕ). text ++ xs) is))
    (language.no_escape name spells short none)

quoted-sized : (bs : List ℕ) (q : Quoted bs) → (max_name_bytes < length q.name) ⊎ (length q.name ≤ max_name_bytes) → Piece (39 ∷ bs)
quoted-sized bs q (inl long) =
    a_fault NameTooLong [] (39 ∷ (q.text ++ q.rest)) (ap (λ (xs : List ℕ). 39 ∷ xs) q.whole) (language.long_quoted_name q.text q.name q.rest q.spells long)
quoted-sized bs q (inr short) = quoted-ended bs q.text q.name q.rest q.whole q.spells short q.ended

quoted-piece : (b : ℕ) (bs : List ℕ) → (b == 39) ≡ true → Piece (b ∷ bs)
quoted-piece b bs is =
    let q : Quoted bs = quoted (length bs) bs (omega arith) in
    subst Piece (sym (first-is b 39 bs is)) (quoted-sized bs q (short_or_long max_name_bytes (length q.name)))

-- none of these bytes, nor of those
none-of-both : (xs ys : List ℕ) (b : ℕ) → is_one_of xs b ≡ false → is_one_of ys b ≡ false → is_one_of (xs ++ ys) b ≡ false
none-of-both [] ys b none others = others
none-of-both (x ∷ xs) ys b none others =
    let split = neither (b == x) (is_one_of xs b) none in or_false (b == x) (is_one_of (xs ++ ys) b) split.0 (none-of-both xs ys b split.1 others)

small-letter : (b : ℕ) → is_lowercase b ≡ true → (is_lowercase b || is_capital b || b == 95) ≡ true
small-letter b is = grind (arith, nat_tests)

capital-letter : (b : ℕ) → (is_capital b || b == 95) ≡ true → (is_lowercase b || is_capital b || b == 95) ≡ true
capital-letter b is = grind (arith, nat_tests)

no-letter : (b : ℕ) → is_lowercase b ≡ false → (is_capital b || b == 95) ≡ false → is_digit b ≡ false → is_alphanumeric b ≡ false
no-letter b small capital digit = grind (arith, nat_tests)

one-none : (b c : ℕ) → (b == c) ≡ false → is_one_of (c ∷ []) b ≡ false
one-none b c is = or_false (b == c) false is refl

-- each text begins with one of these
piece : (bs : List ℕ) → Piece bs
piece [] = a_token Eof [] [] refl language.eof
piece (b ∷ bs) =
    choose (is_layout b) (λ is. a_byte b bs refl is) (λ layout.
    choose (b == 37) (λ is. line-piece b bs is) (λ percent.
    choose (is_lowercase b) (λ is. bare-piece Name b bs (small-letter b is) (λ text rest run short. language.small_name is run short)) (λ small.
    choose (is_capital b || b == 95) (λ is. bare-piece Variable b bs (capital-letter b is) (λ text rest run short. language.variable is run short)) (λ capital.
    choose (is_digit b) (λ is. number-piece b bs is) (λ digit.
    choose (is_symbol b) (λ is. symbols-piece b bs is) (λ symbol.
    choose (b == 39) (λ is. quoted-piece b bs is) (λ quote.
    choose (is_one_of (codes "!;") b) (λ is. a_token Name (b ∷ []) bs refl (language.solo_name is)) (λ solo.
    choose (is_one_of (codes "()[]{},|") b) (λ is. a_token Punct (b ∷ []) bs refl (language.punct is)) (λ punct.
    choose (is_one_of (codes "\"`") b) (λ is. a_fault LeftOutQuote [] (b ∷ bs) refl (language.left_out is)) (λ left_out.
    let ends : is_one_of (codes "\"`%") b ≡ false = none-of-both (codes "\"`") (codes "%") b left_out (one-none b 37 percent) in
    let behind_quote : is_one_of (codes "'\"`%") b ≡ false = none-of-both (codes "'") (codes "\"`%") b (one-none b 39 quote) ends in
    let behind_punct : is_one_of (codes "()[]{},|'\"`%") b ≡ false = none-of-both (codes "()[]{},|") (codes "'\"`%") b punct behind_quote in
    let all : is_one_of (codes "!;()[]{},|'\"`%") b ≡ false = none-of-both (codes "!;") (codes "()[]{},|'\"`%") b solo behind_punct in
    let low : (is_layout b || is_alphanumeric b) ≡ false = or_false (is_layout b) (is_alphanumeric b) layout (no-letter b small capital digit) in
    let middle : (is_layout b || is_alphanumeric b || is_symbol b) ≡ false = or_false (is_layout b || is_alphanumeric b) (is_symbol b) low symbol in
    a_fault BadCharacter [] (b ∷ bs) refl
    (language.no_token (or_false (is_layout b || is_alphanumeric b || is_symbol b) (is_one_of (codes "!;()[]{},|'\"`%") b) middle all))))))))))))

-- what stands behind the gap that a text begins with
data Behind (bs : List ℕ) : Type 0 where
  token_behind : (kind : TokenKind) (gap text rest : List ℕ) → bs ≡ gap ++ (text ++ rest) → IsGap gap (text ++ rest) → IsToken kind text rest → Behind bs
  fault_behind : (kind : TokenFaultKind) (gap text rest : List ℕ) → bs ≡ gap ++ (text ++ rest) → IsGap gap (text ++ rest) → IsFault kind text rest → Behind bs

-- a piece of layout or a comment before what stands behind a gap
widened : (bs piece rest : List ℕ) → bs ≡ piece ++ rest → ((gap tail : List ℕ) → rest ≡ gap ++ tail → IsGap gap tail → IsGap (piece ++ gap) tail) → Behind rest
    → Behind bs
widened bs piece rest whole adds (token_behind kind gap text after is before token) =
    token_behind kind (piece ++ gap) text after (whole ∙ ap (λ (xs : List ℕ). piece ++ xs) is ∙ sym (append_assoc piece gap (text ++ after)))
    (adds gap (text ++ after) is before) token
widened bs piece rest whole adds (fault_behind kind gap text after is before defect) =
    fault_behind kind (piece ++ gap) text after (whole ∙ ap (λ (xs : List ℕ). piece ++ xs) is ∙ sym (append_assoc piece gap (text ++ after)))
    (adds gap (text ++ after) is before) defect

behind_from : (fuel : ℕ) (bs : List ℕ) → Piece bs → length bs ≤ suc fuel → ((xs : List ℕ) → length xs ≤ fuel → Behind xs) → Behind bs
behind_from fuel bs (a_byte b rest is passes) small more =
    widened bs (b ∷ []) rest is (λ gap tail whole before. layout passes before) (more rest (omega (arith, ap length is)))
behind_from fuel bs (a_line text rest is run) small more =
    widened bs (37 ∷ text) rest is
    (λ gap tail whole before. line_comment text (subst (λ (xs : List ℕ). IsRun is_in_line text xs) whole run) before)
    (more rest (omega (arith, ap length is, length-append text rest)))
behind_from fuel bs (a_block text rest is none) small more =
    widened bs (47 ∷ 42 ∷ (text ++ 42 ∷ 47 ∷ [])) rest
    (is ∙ ap (λ (xs : List ℕ). 47 ∷ 42 ∷ xs) (sym (append_assoc text (42 ∷ 47 ∷ []) rest)))
    (λ gap tail whole before. subst (λ (xs : List ℕ). IsGap (47 ∷ 42 ∷ xs) tail) (sym (append_assoc text (42 ∷ 47 ∷ []) gap)) (block_comment text none before))
    (more rest (omega (arith, ap length is, length-append text (42 ∷ 47 ∷ rest))))
behind_from fuel bs (a_token kind text rest is token) small more = token_behind kind [] text rest is no_gap token
behind_from fuel bs (a_fault kind text rest is defect) small more = fault_behind kind [] text rest is no_gap defect

behind_all : (fuel : ℕ) (bs : List ℕ) → length bs ≤ fuel → Behind bs
behind_all zero [] small = token_behind Eof [] [] [] refl no_gap language.eof
behind_all zero (b ∷ bs) small = absurd (omega arith)
behind_all (suc fuel) bs small = behind_from fuel bs (piece bs) small (λ xs less. behind_all fuel xs less)

-- from each place on there is a token, or a first defect
data Outcome (bytes : List ℕ) (at : ℕ) : Type 0 where
  found : (t : Token) → HasToken bytes at t → Outcome bytes at
  refused : (f : TokenFault) → HasFault bytes at f → Outcome bytes at

outcome_by : (bytes : List ℕ) (at : ℕ) → Behind (drop at bytes) → Outcome bytes at
outcome_by bytes at (token_behind kind gap text rest whole before token) =
    found (record { kind = kind; from = at + length gap; to = at + length gap + length text })
    (record { gap = gap; text = text; rest = rest; whole = whole; before = before; token = token; from = refl; to = refl })
outcome_by bytes at (fault_behind kind gap text rest whole before defect) =
    refused (record { place = at + length gap + length text; kind = kind })
    (record { gap = gap; text = text; rest = rest; whole = whole; before = before; defect = defect; place = refl })

outcome : (bytes : List ℕ) (at : ℕ) → Outcome bytes at
outcome bytes at = outcome_by bytes at (behind_all (length (drop at bytes)) (drop at bytes) (omega arith))

token_by : (bytes : List ℕ) (at : ℕ) (t : Token) → first_token bytes at ≡ Ok t → Outcome bytes at → HasToken bytes at t
token_by bytes at t is (found u has) =
    let both : (let r : Result Token TokenFault = Ok u in r) ≡ Ok t = sym (token-only bytes at u has) ∙ is in
    let same : u ≡ t = cc in subst (λ (x : Token). HasToken bytes at x) same has
token_by bytes at t is (refused f has) =
    absurd (let clash : (let r : Result Token TokenFault = Err f in r) ≡ Ok t = sym (fault-only bytes at f has) ∙ is in cc)

fault_by : (bytes : List ℕ) (at : ℕ) (f : TokenFault) → first_token bytes at ≡ Err f → Outcome bytes at → HasFault bytes at f
fault_by bytes at f is (refused g has) =
    let both : (let r : Result Token TokenFault = Err g in r) ≡ Err f = sym (fault-only bytes at g has) ∙ is in
    let same : g ≡ f = cc in subst (λ (x : TokenFault). HasFault bytes at x) same has
fault_by bytes at f is (found t has) =
    absurd (let clash : (let r : Result Token TokenFault = Ok t in r) ≡ Err f = sym (token-only bytes at t has) ∙ is in cc)

-- the token that is found is in the language, and so is the defect
pub token-found : (bytes : List ℕ) (at : ℕ) (t : Token) → first_token bytes at ≡ Ok t → HasToken bytes at t
token-found bytes at t is = token_by bytes at t is (outcome bytes at)

pub fault-found : (bytes : List ℕ) (at : ℕ) (f : TokenFault) → first_token bytes at ≡ Err f → HasFault bytes at f
fault-found bytes at f is = fault_by bytes at f is (outcome bytes at)
