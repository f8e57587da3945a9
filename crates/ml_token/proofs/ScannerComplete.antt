-- What the language says of a text is what the function on its bytes finds.
use Rattle.std.proofs.Common.{◌≡◌, ℕ, suc, ◌+◌, ◌<◌, ◌≤◌, Bool, true, false, ◌&&◌, ◌||◌, ◌==◌, nat_le, List, [], ◌∷◌, ◌++◌, length, take, drop, refl, sym, ap}
use Rattle.std.proofs.Common.{◌∙◌, arith, subst, eqb-true, Option, Result, Ok, Err, option_map, unwrap_or, append_assoc, append-nil, add-zero, length-append}
use Rattle.std.proofs.Common.{codes, if◌then◌else◌}
use Rattle.std.specs.List.{list_all, prefix_len}
use Rattle.std.proofs.Math.Seq.{drop-append_seam, take-append_seam}
use Rattle.std.proofs.lemmas.Bool.Decides.{nat_tests}
use Rattle.ml_token.specs.Limits.{max_name_bytes, max_number}
use Rattle.ml_token.specs.declared.bytes.Run.TheVariants.{Digit, Symbol}
use Rattle.ml_token.specs.declared.bytes.TokenStart.{TokenStart}
use Rattle.ml_token.specs.declared.bytes.TokenStart.TheVariants as begun
use Rattle.ml_token.specs.declared.quoted.Part.TheVariants.{Last}
use Rattle.ml_token.specs.declared.quoted.Ending.{Ending}
use Rattle.ml_token.specs.declared.quoted.Ending.TheVariants.{Closed, LeftOpen, Broken}
use Rattle.ml_token.specs.declared.tokens.Token.{Token}
use Rattle.ml_token.specs.declared.tokens.TokenFault.{TokenFault}
use Rattle.ml_token.specs.declared.tokens.TokenKind.{TokenKind}
use Rattle.ml_token.specs.declared.tokens.TokenKind.TheVariants.{Name, QuotedName, Variable, Number}
use Rattle.ml_token.specs.declared.tokens.TokenFaultKind.{TokenFaultKind}
use Rattle.ml_token.specs.declared.tokens.TokenFaultKind.TheVariants.{BadCharacter, OpenQuote, OpenComment, BadEscape, NumberTooLarge, NameTooLong}
use Rattle.ml_token.specs.declared.tokens.TokenFaultKind.TheVariants.{LeftOutQuote}
use Rattle.ml_token.specs.Bytes.{is_one_of, is_layout, is_lowercase, is_capital, is_digit, is_alphanumeric, is_symbol, in_run, token_start, begins_with}
use Rattle.ml_token.specs.Bytes.{ends_clause}
use Rattle.ml_token.specs.inside.Gap.{slash_len, piece_len, gap_len}
use Rattle.ml_token.specs.Number.{value_of}
use Rattle.ml_token.specs.Quoted.{part_of, escape_part, Inside, inside, quoted_end, quoted_token}
use Rattle.ml_token.specs.inside.Tokens.{token_of_len, fault_of, name_of_len, number_at, symbols_at, token_from_start, token_at, first_token}
use Rattle.ml_token.specs.Language as language
use Rattle.ml_token.specs.Language.{IsRun, IsGap, Spells, IsToken, IsFault, HasToken, HasFault, holds_close, leaves_open, is_nothing, begins_something}
use Rattle.ml_token.proofs.NameBytes.{both}
use Rattle.ml_token.proofs.ScannedRuns.{Each, is_one_of-each, prefix_len-run, block_comment_len-open, gap_len-gap, neither, inside-spells, inside-last, behind}

-- a byte that is no layout and begins no comment
abbrev IsQuiet : ℕ → Type 0
IsQuiet b = (is_layout b ≡ false) × ((b == 37) ≡ false) × ((b == 47) ≡ false)

piece_len-quiet : (b : ℕ) (bs : List ℕ) → IsQuiet b → piece_len (b ∷ bs) ≡ 0
piece_len-quiet b bs quiet = rw (quiet.0, quiet.1, quiet.2) refl

slash_len-other : (bs : List ℕ) → begins_with 42 bs ≡ false → slash_len bs ≡ 0
slash_len-other [] is = refl
slash_len-other (b ∷ bs) is = rw is refl

slash_by : (same : Bool) (bs : List ℕ) → (same && begins_with 42 bs) ≡ false → (if same then slash_len bs else 0) ≡ 0
slash_by true bs is = slash_len-other bs is
slash_by false bs is = refl

piece_len-symbol : (b : ℕ) (bs : List ℕ) → is_symbol b ≡ true → (b == 47 && begins_with 42 bs) ≡ false → piece_len (b ∷ bs) ≡ 0
piece_len-symbol b bs symbol other =
    let quiet : (is_layout b ≡ false) × ((b == 37) ≡ false) =
    is_one_of-each (λ (x : ℕ). (is_layout x ≡ false) × ((x == 37) ≡ false)) (codes "+-*/\\^<>=~:.?@#&$") b symbol (
      (refl, refl),
      (
        (refl, refl),
        (
          (refl, refl),
          (
            (refl, refl),
            (
              (refl, refl),
              (
                (refl, refl),
                (
                  (refl, refl),
                  (
                    (refl, refl),
                    (
                      (refl, refl),
                      ((refl, refl), ((refl, refl), ((refl, refl), ((refl, refl), ((refl, refl), ((refl, refl), ((refl, refl), ((refl, refl), tt)))))))),
                    ),
                  ),
                ),
              ),
            ),
          ),
        ),
      ),
    ) in
    rw (quiet.0, quiet.1) (slash_by (b == 47) bs other)

small-quiet : (b : ℕ) → is_lowercase b ≡ true → IsQuiet b
small-quiet b is = (grind (arith, nat_tests), grind (arith, nat_tests), grind (arith, nat_tests))

capital-quiet : (b : ℕ) → (is_capital b || b == 95) ≡ true → IsQuiet b
capital-quiet b is = (grind (arith, nat_tests), grind (arith, nat_tests), grind (arith, nat_tests))

digit-quiet : (b : ℕ) → is_digit b ≡ true → IsQuiet b
digit-quiet b is = (grind (arith, nat_tests), grind (arith, nat_tests), grind (arith, nat_tests))

begun-small : (b : ℕ) → is_lowercase b ≡ true → token_start b ≡ begun.Name
begun-small b is = rw is refl

begun-capital : (b : ℕ) → (is_capital b || b == 95) ≡ true → token_start b ≡ begun.Variable
begun-capital b is = let small : is_lowercase b ≡ false = grind (arith, nat_tests) in rw (small, is) refl

begun-digit : (b : ℕ) → is_digit b ≡ true → token_start b ≡ begun.Number
begun-digit b is =
    let small : is_lowercase b ≡ false = grind (arith, nat_tests) in
    let capital : (is_capital b || b == 95) ≡ false = grind (arith, nat_tests) in
    rw (small, capital, is) refl

begun-symbol : (b : ℕ) → is_symbol b ≡ true → token_start b ≡ begun.Symbol
begun-symbol b is = is_one_of-each (λ (x : ℕ). token_start x ≡ begun.Symbol) (codes "+-*/\\^<>=~:.?@#&$") b is
    (refl, (refl, (refl, (refl, (refl, (refl, (refl, (refl, (refl, (refl, (refl, (refl, (refl, (refl, (refl, (refl, (refl, tt)))))))))))))))))

solo-byte : (b : ℕ) → is_one_of (codes "!;") b ≡ true → (token_start b ≡ begun.Solo) × IsQuiet b
solo-byte b is =
    is_one_of-each (λ (x : ℕ). (token_start x ≡ begun.Solo) × IsQuiet x) (codes "!;") b is ((refl, (refl, refl, refl)), ((refl, (refl, refl, refl)), tt))

punct-byte : (b : ℕ) → is_one_of (codes "()[]{},|") b ≡ true → (token_start b ≡ begun.Punct) × IsQuiet b
punct-byte b is = is_one_of-each (λ (x : ℕ). (token_start x ≡ begun.Punct) × IsQuiet x) (codes "()[]{},|") b is (
  (refl, (refl, refl, refl)),
  (
    (refl, (refl, refl, refl)),
    (
      (refl, (refl, refl, refl)),
      (
        (refl, (refl, refl, refl)),
        ((refl, (refl, refl, refl)), ((refl, (refl, refl, refl)), ((refl, (refl, refl, refl)), ((refl, (refl, refl, refl)), tt)))),
      ),
    ),
  ),
)

left_out-byte : (b : ℕ) → is_one_of (codes "\"`") b ≡ true → (token_start b ≡ begun.LeftOutQuote) × IsQuiet b
left_out-byte b is = is_one_of-each (λ (x : ℕ). (token_start x ≡ begun.LeftOutQuote) × IsQuiet x) (codes "\"`") b is (
  (refl, (refl, refl, refl)),
  ((refl, (refl, refl, refl)), tt),
)

-- a longest run behind a first byte that belongs to it
run_behind : (p : ℕ → Bool) (b : ℕ) (text rest : List ℕ) → p b ≡ true → IsRun p text rest → prefix_len p (b ∷ (text ++ rest)) ≡ suc (length text)
run_behind p b text rest first is = rw (first, prefix_len-run p text rest is) (omega arith)

short-name : (kind : TokenKind) (from len m : ℕ) → len ≡ m → m ≤ max_name_bytes → name_of_len kind from len ≡ token_of_len kind from m
short-name kind from len m is short =
    let fits : nat_le m max_name_bytes ≡ true = grind (arith, nat_tests) in
    ap (λ (n : ℕ). name_of_len kind from n) is ∙ rw fits refl

long-name : (kind : TokenKind) (from len m : ℕ) → len ≡ m → max_name_bytes < m → name_of_len kind from len ≡ fault_of NameTooLong from
long-name kind from len m is long =
    let fits : nat_le m max_name_bytes ≡ false = grind (arith, nat_tests) in
    ap (λ (n : ℕ). name_of_len kind from n) is ∙ rw fits refl

begun-is : (from b : ℕ) (bs : List ℕ) (k : TokenStart) → token_start b ≡ k → token_at from (b ∷ bs) ≡ token_from_start from k b bs
begun-is from b bs k is = ap (λ (x : TokenStart). token_from_start from x b bs) is

-- what quoted text gives, by what its parts spell and what ends it
abbrev quoted_by : ℕ → Inside → Result Token TokenFault
quoted_by from q = if nat_le (length q.name) max_name_bytes then quoted_end from q.width q.ending else Err (record { place = from; kind = NameTooLong })

pub inside-ends : {text name : List ℕ} (rest : List ℕ) (e : Ending) → Spells text name → part_of rest ≡ Last e
    → inside 0 (text ++ rest) ≡ record { name = name; width = length text; ending = e }
inside-ends {text = text} {name = name} rest e spells last =
    let nothing : Inside = record { name = []; width = 0; ending = e } in
    inside-spells spells rest ∙ ap (λ (q : Inside). behind name (length text) q) (inside-last rest e last)
    ∙ ap (λ (xs : List ℕ). let q : Inside = record { name = xs; width = length text + 0; ending = e } in q) (append-nil name)
    ∙ ap (λ (n : ℕ). let q : Inside = record { name = name; width = n; ending = e } in q) (add-zero (length text))

quoted-ends : {text name : List ℕ} (from : ℕ) (rest : List ℕ) (e : Ending) → Spells text name → length name ≤ max_name_bytes → part_of rest ≡ Last e
    → quoted_token from (text ++ rest) ≡ quoted_end from (length text) e
quoted-ends {text = text} {name = name} from rest e spells short last =
    let fits : nat_le (length name) max_name_bytes ≡ true = grind (arith, nat_tests) in
    ap (λ (q : Inside). quoted_by from q) (inside-ends rest e spells last) ∙ rw fits refl

quoted-long : {text name : List ℕ} (from : ℕ) (rest : List ℕ) → Spells text name → max_name_bytes < length name
    → quoted_token from (text ++ rest) ≡ fault_of NameTooLong from
quoted-long {text = text} {name = name} from rest spells long =
    let all : ℕ = length (name ++ (inside 0 rest).name) in
    let longer : max_name_bytes < all = omega (arith, length-append name (inside 0 rest).name) in
    let fits : nat_le all max_name_bytes ≡ false = grind (arith, nat_tests) in
    ap (λ (q : Inside). quoted_by from q) (inside-spells spells rest) ∙ rw fits refl

same_end : (kind : TokenKind) (from m n : ℕ) → m ≡ n → (let r : Result Token TokenFault = Ok (record { kind = kind; from = from; to = m }) in r)
    ≡ Ok (record { kind = kind; from = from; to = n })
same_end kind from m n is = ap (λ (k : ℕ). let r : Result Token TokenFault = Ok (record { kind = kind; from = from; to = k }) in r) is

same_place : (kind : TokenFaultKind) (m n : ℕ) → m ≡ n → fault_of kind m ≡ fault_of kind n
same_place kind m n is = ap (λ (k : ℕ). fault_of kind k) is

symbols-name : (from b : ℕ) (bs : List ℕ) → (b == 46 && ends_clause bs) ≡ false → (b == 47 && begins_with 42 bs) ≡ false
    → symbols_at from b bs ≡ name_of_len Name from (1 + prefix_len (in_run Symbol) bs)
symbols-name from b bs end comment = rw (end, comment) refl

-- what begins with a token begins no gap
pub piece_len-token : {kind : TokenKind} {text rest : List ℕ} → IsToken kind text rest → piece_len (text ++ rest) ≡ 0
piece_len-token {rest = rest} (language.small_name {b = b} {text = text} is run short) = piece_len-quiet b (text ++ rest) (small-quiet b is)
piece_len-token {rest = rest} (language.symbol_name {b = b} {text = text} is run end comment short) = piece_len-symbol b (text ++ rest) is comment
piece_len-token {rest = rest} (language.solo_name {b = b} is) = piece_len-quiet b rest (solo-byte b is).1
piece_len-token (language.quoted_name text name spells short stops) = refl
piece_len-token {rest = rest} (language.variable {b = b} {text = text} is run short) = piece_len-quiet b (text ++ rest) (capital-quiet b is)
piece_len-token {rest = rest} (language.number {b = b} {text = text} is run small) = piece_len-quiet b (text ++ rest) (digit-quiet b is)
piece_len-token {rest = rest} (language.punct {b = b} is) = piece_len-quiet b rest (punct-byte b is).1
piece_len-token (language.end is) = refl
piece_len-token language.eof = refl

number-is : (from b : ℕ) (text rest : List ℕ) → is_digit b ≡ true → IsRun is_digit text rest
    → number_at from (b ∷ (text ++ rest)) ≡ (if nat_le (value_of (b ∷ text)) max_number then token_of_len Number from (suc (length text)) else fault_of
    NumberTooLarge from)
number-is from b text rest is run =
    let len : prefix_len (in_run Digit) (b ∷ (text ++ rest)) ≡ suc (length text) = run_behind is_digit b text rest is run in
    let front : take (suc (length text)) (b ∷ (text ++ rest)) ≡ b ∷ text = ap (λ (xs : List ℕ). b ∷ xs) (take-append_seam text rest) in
    ap (λ (n : ℕ). if nat_le (value_of (take n (b ∷ (text ++ rest)))) max_number then token_of_len Number from n else fault_of NumberTooLarge from) len
    ∙ ap (λ (xs : List ℕ). if nat_le (value_of xs) max_number then token_of_len Number from (suc (length text)) else fault_of NumberTooLarge from) front

alphanumeric-small : (b : ℕ) → is_lowercase b ≡ true → is_alphanumeric b ≡ true
alphanumeric-small b is = grind (arith, nat_tests)

alphanumeric-capital : (b : ℕ) → (is_capital b || b == 95) ≡ true → is_alphanumeric b ≡ true
alphanumeric-capital b is = grind (arith, nat_tests)

pub quote-closed : (rest : List ℕ) → begins_with 39 rest ≡ false → part_of (39 ∷ rest) ≡ Last Closed
quote-closed [] is = refl
quote-closed (b ∷ bs) is = rw is refl

-- the token of the language is the one that the function finds
pub token_at-token : {kind : TokenKind} {text rest : List ℕ} → IsToken kind text rest → (from : ℕ)
    → token_at from (text ++ rest) ≡ token_of_len kind from (length text)
token_at-token {rest = rest} (language.small_name {b = b} {text = text} is run short) from =
    begun-is from b (text ++ rest) begun.Name (begun-small b is)
    ∙ short-name Name from _ (suc (length text)) (run_behind is_alphanumeric b text rest (alphanumeric-small b is) run) (omega arith)
token_at-token {rest = rest} (language.symbol_name {b = b} {text = text} is run end comment short) from =
    begun-is from b (text ++ rest) begun.Symbol (begun-symbol b is) ∙ symbols-name from b (text ++ rest) end comment
    ∙ short-name Name from _ (suc (length text)) (omega (arith, prefix_len-run is_symbol text rest run)) (omega arith)
token_at-token {rest = rest} (language.solo_name {b = b} is) from = begun-is from b rest begun.Solo (solo-byte b is).0
token_at-token {rest = rest} (language.quoted_name text name spells short stops) from =
    ap (λ (xs : List ℕ). quoted_token from xs) (append_assoc text (39 ∷ []) rest)
    ∙ quoted-ends from (39 ∷ rest) Closed spells short (quote-closed rest stops)
    ∙ same_end QuotedName from (from + length text + 2) (from + suc (length (text ++ 39 ∷ []))) (omega (arith, length-append text (39 ∷ [])))
token_at-token {rest = rest} (language.variable {b = b} {text = text} is run short) from =
    begun-is from b (text ++ rest) begun.Variable (begun-capital b is)
    ∙ short-name Variable from _ (suc (length text)) (run_behind is_alphanumeric b text rest (alphanumeric-capital b is) run) (omega arith)
token_at-token {rest = rest} (language.number {b = b} {text = text} is run small) from =
    let fits : nat_le (value_of (b ∷ text)) max_number ≡ true = grind (arith, nat_tests) in
    begun-is from b (text ++ rest) begun.Number (begun-digit b is) ∙ number-is from b text rest is run ∙ rw fits refl
token_at-token {rest = rest} (language.punct {b = b} is) from = begun-is from b rest begun.Punct (punct-byte b is).0
token_at-token {rest = rest} (language.end is) from = rw is refl
token_at-token language.eof from = refl

-- a byte of these is one of those
absent_by : (xs ys : List ℕ) (b : ℕ) (r : Bool) → is_one_of xs b ≡ r → Each (λ (x : ℕ). is_one_of ys x ≡ true) xs → is_one_of ys b ≡ false → r ≡ false
absent_by xs ys b true is each none = absurd (let clash : true ≡ false = sym (is_one_of-each (λ (x : ℕ). is_one_of ys x ≡ true) xs b is each) ∙ none in cc)
absent_by xs ys b false is each none = refl

absent : (xs ys : List ℕ) (b : ℕ) → Each (λ (x : ℕ). is_one_of ys x ≡ true) xs → is_one_of ys b ≡ false → is_one_of xs b ≡ false
absent xs ys b each none = absent_by xs ys b (is_one_of xs b) refl each none

-- what a byte is not that begins nothing
record BeginsNothing (b : ℕ) : Type 0 where
  quiet : (is_layout b ≡ false) × ((b == 37) ≡ false)
  letter : is_alphanumeric b ≡ false
  symbol : is_symbol b ≡ false
  other : is_one_of (codes "!;()[]{},|'\"`%") b ≡ false

nothing-begins : (b : ℕ) → begins_something b ≡ false → BeginsNothing b
nothing-begins b none =
    let last = neither (is_layout b || is_alphanumeric b || is_symbol b) (is_one_of (codes "!;()[]{},|'\"`%") b) none in
    let third = neither (is_layout b || is_alphanumeric b) (is_symbol b) last.0 in
    let second = neither (is_layout b) (is_alphanumeric b) third.0 in
    let percent : is_one_of (37 ∷ []) b ≡ false = absent (37 ∷ []) (codes "!;()[]{},|'\"`%") b (refl, tt) last.1 in
    record {
      quiet = (second.0, (neither (b == 37) false percent).0);
      letter = second.1;
      symbol = third.1;
      other = last.1;
    }

begun-nothing : (b : ℕ) → BeginsNothing b → token_start b ≡ begun.Nothing
begun-nothing b none =
    let letter : is_alphanumeric b ≡ false = none.letter in
    let low = neither (is_lowercase b || is_capital b || is_digit b) (b == 95) letter in
    let digit = neither (is_lowercase b || is_capital b) (is_digit b) low.0 in
    let both = neither (is_lowercase b) (is_capital b) digit.0 in
    let quote : is_one_of (39 ∷ []) b ≡ false = absent (39 ∷ []) (codes "!;()[]{},|'\"`%") b (refl, tt) none.other in
    let solo : is_one_of (codes "!;") b ≡ false = absent (codes "!;") (codes "!;()[]{},|'\"`%") b (refl, (refl, tt)) none.other in
    let punct : is_one_of (codes "()[]{},|") b ≡ false =
    absent (codes "()[]{},|") (codes "!;()[]{},|'\"`%") b (refl, (refl, (refl, (refl, (refl, (refl, (refl, (refl, tt)))))))) none.other in
    let left_out : is_one_of (codes "\"`") b ≡ false = absent (codes "\"`") (codes "!;()[]{},|'\"`%") b (refl, (refl, tt)) none.other in
    rw (both.0, both.1, low.1, digit.1, none.symbol, (neither (b == 39) false quote).0, solo, punct, left_out) refl

piece_len-nothing : (b : ℕ) (bs : List ℕ) → BeginsNothing b → piece_len (b ∷ bs) ≡ 0
piece_len-nothing b bs none =
    let slash : is_one_of (47 ∷ []) b ≡ false = absent (47 ∷ []) (codes "+-*/\\^<>=~:.?@#&$") b (refl, tt) none.symbol in
    piece_len-quiet b bs (none.quiet.0, none.quiet.1, (neither (b == 47) false slash).0)

long-byte : (b : ℕ) → (is_lowercase b || is_capital b || b == 95) ≡ true → IsQuiet b
long-byte b is = (grind (arith, nat_tests), grind (arith, nat_tests), grind (arith, nat_tests))

-- what begins with a defect begins no gap
pub piece_len-fault : {kind : TokenFaultKind} {text rest : List ℕ} → IsFault kind text rest → piece_len (text ++ rest) ≡ 0
piece_len-fault (language.no_token {b = b} {rest = bs} none) = piece_len-nothing b bs (nothing-begins b none)
piece_len-fault (language.not_in_quotes name spells short odd) = refl
piece_len-fault (language.open_quote text name bs spells short open_) = refl
piece_len-fault (language.open_comment {rest = bs} none) = ap (λ (o : Option ℕ). unwrap_or (option_map (λ (n : ℕ). 2 + n) o) 0) (block_comment_len-open bs none)
piece_len-fault (language.no_escape name spells short none) = refl
piece_len-fault (language.large_number {b = b} text bs is run large) = piece_len-quiet b (text ++ bs) (digit-quiet b is)
piece_len-fault (language.long_name {b = b} text bs is run long) = piece_len-quiet b (text ++ bs) (long-byte b is)
piece_len-fault (language.long_symbol_name {b = b} text bs is run comment long) = piece_len-symbol b (text ++ bs) is comment
piece_len-fault (language.long_quoted_name text name bs spells long) = refl
piece_len-fault (language.left_out {b = b} {rest = bs} is) = piece_len-quiet b bs (left_out-byte b is).1

odd-part : (b : ℕ) (bs : List ℕ) → (nat_le 32 b && nat_le b 126 || b == 10) ≡ false → part_of (b ∷ bs) ≡ Last (Broken BadCharacter)
odd-part b bs odd =
    let quote : (b == 39) ≡ false = grind (arith, nat_tests) in
    let backslash : (b == 92) ≡ false = grind (arith, nat_tests) in
    let feed : (b == 10) ≡ false = grind (arith, nat_tests) in
    let prints : (nat_le 32 b && nat_le b 126) ≡ false = grind (arith, nat_tests) in
    rw (quote, backslash, feed, prints) refl

open-at : (b : ℕ) (bs : List ℕ) (feed backslash : Bool) → (b == 10) ≡ feed → (b == 92) ≡ backslash → (feed || (backslash && is_nothing bs)) ≡ true
    → part_of (b ∷ bs) ≡ Last LeftOpen
open-at b bs true backslash is also open_ = subst (λ (x : ℕ). part_of (x ∷ bs) ≡ Last LeftOpen) (sym (eqb-true b 10 is)) refl
open-at b [] false true is also open_ = subst (λ (x : ℕ). part_of (x ∷ []) ≡ Last LeftOpen) (sym (eqb-true b 92 also)) refl
open-at b (c ∷ cs) false true is also open_ = absurd (let clash : false ≡ true = open_ in cc)
open-at b bs false false is also open_ = absurd (let clash : false ≡ true = open_ in cc)

open-part : (bs : List ℕ) → leaves_open bs ≡ true → part_of bs ≡ Last LeftOpen
open-part [] open_ = refl
open-part (b ∷ bs) open_ = open-at b bs (b == 10) (b == 92) refl refl open_

long-run : (from b : ℕ) (text rest : List ℕ) (small : Bool) → is_lowercase b ≡ small → (is_lowercase b || is_capital b || b == 95) ≡ true
    → IsRun is_alphanumeric text rest → max_name_bytes ≤ length text
    → token_at from (b ∷ (text ++ rest)) ≡ fault_of NameTooLong from
long-run from b text rest true small is run long =
    begun-is from b (text ++ rest) begun.Name (begun-small b small)
    ∙ long-name Name from _ (suc (length text)) (run_behind is_alphanumeric b text rest (alphanumeric-small b small) run) (omega arith)
long-run from b text rest false small is run long =
    let capital : (is_capital b || b == 95) ≡ true = grind (arith, nat_tests) in
    begun-is from b (text ++ rest) begun.Variable (begun-capital b capital)
    ∙ long-name Variable from _ (suc (length text)) (run_behind is_alphanumeric b text rest (alphanumeric-capital b capital) run) (omega arith)

and_false : (a b : Bool) → b ≡ false → (a && b) ≡ false
and_false true b is = is
and_false false b is = refl

-- no clause ends before a symbol character
no-end : (b : ℕ) (text rest : List ℕ) → list_all is_symbol text ≡ true → max_name_bytes ≤ length text → (b == 46 && ends_clause (text ++ rest)) ≡ false
no-end b [] rest all long = absurd (omega arith)
no-end b (c ∷ cs) rest all long =
    and_false (b == 46) (is_layout c || c == 37)
    (is_one_of-each (λ (x : ℕ). (is_layout x || x == 37) ≡ false) (codes "+-*/\\^<>=~:.?@#&$") c (both (is_symbol c) (list_all is_symbol cs) all).0
    (refl, (refl, (refl, (refl, (refl, (refl, (refl, (refl, (refl, (refl, (refl, (refl, (refl, (refl, (refl, (refl, (refl, tt))))))))))))))))))

-- the first defect of the language is the one that the function finds
pub token_at-fault : {kind : TokenFaultKind} {text rest : List ℕ} → IsFault kind text rest → (from : ℕ)
    → token_at from (text ++ rest) ≡ fault_of kind (from + length text)
token_at-fault (language.no_token {b = b} {rest = bs} none) from =
    begun-is from b bs begun.Nothing (begun-nothing b (nothing-begins b none)) ∙ same_place BadCharacter from (from + 0) (sym (add-zero from))
token_at-fault (language.not_in_quotes {b = b} {text = text} {rest = bs} name spells short odd) from =
    quoted-ends from (b ∷ bs) (Broken BadCharacter) spells short (odd-part b bs odd)
    ∙ same_place BadCharacter (from + 1 + length text) (from + suc (length text)) (omega arith)
token_at-fault (language.open_quote text name bs spells short open_) from =
    quoted-ends from bs LeftOpen spells short (open-part bs open_) ∙ same_place OpenQuote from (from + 0) (sym (add-zero from))
token_at-fault (language.open_comment {rest = bs} none) from = same_place OpenComment from (from + 0) (sym (add-zero from))
token_at-fault (language.no_escape {b = b} {text = text} {rest = bs} name spells short none) from =
    quoted-ends from (92 ∷ b ∷ bs) (Broken BadEscape) spells short (ap escape_part none)
    ∙ same_place BadEscape (from + 1 + length text) (from + suc (length text)) (omega arith)
token_at-fault (language.large_number {b = b} text bs is run large) from =
    let fits : nat_le (value_of (b ∷ text)) max_number ≡ false = grind (arith, nat_tests) in
    begun-is from b (text ++ bs) begun.Number (begun-digit b is) ∙ number-is from b text bs is run
    ∙ rw fits (same_place NumberTooLarge from (from + 0) (sym (add-zero from)))
token_at-fault (language.long_name {b = b} text bs is run long) from =
    long-run from b text bs (is_lowercase b) refl is run long ∙ same_place NameTooLong from (from + 0) (sym (add-zero from))
token_at-fault (language.long_symbol_name {b = b} text bs is run comment long) from =
    begun-is from b (text ++ bs) begun.Symbol (begun-symbol b is) ∙ symbols-name from b (text ++ bs) (no-end b text bs run.all long) comment
    ∙ long-name Name from _ (suc (length text)) (omega (arith, prefix_len-run is_symbol text bs run)) (omega arith)
    ∙ same_place NameTooLong from (from + 0) (sym (add-zero from))
token_at-fault (language.long_quoted_name text name bs spells long) from =
    quoted-long from bs spells long ∙ same_place NameTooLong from (from + 0) (sym (add-zero from))
token_at-fault (language.left_out {b = b} {rest = bs} is) from =
    begun-is from b bs begun.LeftOutQuote (left_out-byte b is).0 ∙ same_place LeftOutQuote from (from + 0) (sym (add-zero from))

-- what stands behind a gap comes first
pub first_token-behind : (bytes : List ℕ) (at : ℕ) (gap tail : List ℕ) → drop at bytes ≡ gap ++ tail → IsGap gap tail → piece_len tail ≡ 0
    → first_token bytes at ≡ token_at (at + length gap) tail
unfolding first_token
first_token-behind bytes at gap tail whole is stops =
    let len : gap_len 0 (drop at bytes) ≡ length gap = ap (λ (xs : List ℕ). gap_len 0 xs) whole ∙ gap_len-gap is stops in
    ap (λ (n : ℕ). token_at (at + n) (drop n (drop at bytes))) len
    ∙ ap (λ (xs : List ℕ). token_at (at + length gap) (drop (length gap) xs)) whole
    ∙ ap (λ (xs : List ℕ). token_at (at + length gap) xs) (drop-append_seam gap tail)

same_token : (t : Token) (from to : ℕ) → t.from ≡ from → t.to ≡ to
    → (let r : Result Token TokenFault = Ok (record { kind = t.kind; from = from; to = to }) in r) ≡ Ok t
same_token t from to e f =
    ap (λ (k : ℕ). let r : Result Token TokenFault = Ok (record { kind = t.kind; from = k; to = to }) in r) (sym e)
    ∙ ap (λ (k : ℕ). let r : Result Token TokenFault = Ok (record { kind = t.kind; from = t.from; to = k }) in r) (sym f)

pub token-only : (bytes : List ℕ) (at : ℕ) (t : Token) → HasToken bytes at t → first_token bytes at ≡ Ok t
token-only bytes at t has =
    first_token-behind bytes at has.gap (has.text ++ has.rest) has.whole has.before (piece_len-token has.token)
    ∙ token_at-token has.token (at + length has.gap)
    ∙ same_token t (at + length has.gap) (at + length has.gap + length has.text) has.from (has.to ∙ ap (λ (n : ℕ). n + length has.text) has.from)

pub fault-only : (bytes : List ℕ) (at : ℕ) (f : TokenFault) → HasFault bytes at f → first_token bytes at ≡ Err f
fault-only bytes at f has =
    first_token-behind bytes at has.gap (has.text ++ has.rest) has.whole has.before (piece_len-fault has.defect)
    ∙ token_at-fault has.defect (at + length has.gap)
    ∙ ap (λ (n : ℕ). fault_of f.kind n) (sym has.place)
