-- Names, integers and variables as canonical text writes them, each with the tokens behind it up to the text's end.
use Rattle.std.specs.Prelude.{◌≡◌, ℕ, suc, ◌+◌, ◌^◌, ◌<◌, ◌≤◌, Bool, true, false, not, nat_le, ℤ, pos, negsuc, List, [], ◌∷◌, ◌++◌, length, cond, codes}
use Rattle.std.specs.List.{list_all, flat_map}
use Rattle.std.specs.Str.{bytes_eq}
use Rattle.std.proofs.Common.{refl, sym, ◌∙◌, arith, subst}
use Rattle.std.proofs.lemmas.Bool.{ltb-true}
use Rattle.std.proofs.lemmas.Bool.Decides.{nat_tests}
use Rattle.ml_token.specs.Limits.{max_number}
use Rattle.ml_token.specs.declared.tokens.TokenKind.TheVariants.{Name, Variable, Number}
use Rattle.ml_token.specs.Bytes.{is_digit, is_alphanumeric, is_symbol}
use Rattle.ml_token.specs.Language as language
use Rattle.ml_token.specs.Language.{StopsAt, IsRun, IsToken}
use Rattle.ml_token.proofs.NameBytes.{is_one_of-passes}
use Rattle.ml_term.specs.Names.{is_name_byte, is_name}
use Rattle.ml_term.specs.Decimal.{decimal_text, integer_text}
use Rattle.ml_term.specs.Valid.{is_in_range}
use Rattle.ml_term.specs.CanonicalBytes.{integer_offset}
use Rattle.ml_term.specs.Text.{is_bare, quoted_byte, atom_text}
use Rattle.ml_reader.specs.Lexemes.{Lexeme, name, variable_lexeme, number, open_list, close_list, open_curly, close_curly, brackets_name, braces_name}
use Rattle.ml_round_trip.specs.CanonicalTokens.{name_tokens, integer_tokens}
use Rattle.ml_round_trip.specs.ReadBack.{variable_name}
use Rattle.ml_round_trip.proofs.BooleanTests.{cond_cases, both, both_hold, le_holds, same_bytes}
use Rattle.ml_round_trip.proofs.DecimalDigits.{IsDecimal, decimal_is}
use Rattle.ml_round_trip.proofs.VariableNames.{found, not_found, not_anonymous}
use Rattle.ml_round_trip.proofs.TokensInText.{EndsAs, bare_name, decimal_number}
use Rattle.ml_round_trip.proofs.NamedTokens.{punctuation, quoted_name, known_variable, new_variable}
use Rattle.ml_round_trip.proofs.BareNames.{StopsFirst, no_letter, no_digit, no_quote, bare_token}
use Rattle.ml_round_trip.proofs.QuotedNames.{spells_name}

digit_no_symbol : (b : ℕ) → is_digit b ≡ true → is_symbol b ≡ false
digit_no_symbol b e = by_test (is_symbol b) refl
  where
    by_test : (k : Bool) → is_symbol b ≡ k → k ≡ false
    by_test true h = absurd (let d : not (is_digit b) ≡ true = is_one_of-passes (λ x. not (is_digit x)) (codes "+-*/\\^<>=~:.?@#&$") b h refl in cc)
    by_test false h = refl

digit_letter : (b : ℕ) → is_digit b ≡ true → is_alphanumeric b ≡ true
digit_letter b e = grind (arith, nat_tests)

all_letters : (ds : List ℕ) → list_all is_digit ds ≡ true → list_all is_alphanumeric ds ≡ true
all_letters [] e = refl
all_letters (d ∷ ds) e =
    let h = both (is_digit d) (list_all is_digit ds) e in both_hold (is_alphanumeric d) (list_all is_alphanumeric ds) (digit_letter d h.0) (all_letters ds h.1)

number_token : (n : ℕ) (ds rest : List ℕ) → IsDecimal n ds → n ≤ max_number → StopsFirst rest → IsToken Number ds rest
number_token n [] rest d small stops = absurd (omega (arith, d.some))
number_token n (b ∷ ds) rest d small stops =
    let h = both (is_digit b) (list_all is_digit ds) d.digits in
    language.number h.0 (record { all = h.1; longest = no_digit rest stops }) (omega (arith, d.spells))

minus_token : (n : ℕ) (ds rest : List ℕ) → IsDecimal n ds → IsToken Name (codes "-") (ds ++ rest)
minus_token n [] rest d = absurd (omega (arith, d.some))
minus_token n (b ∷ ds) rest d =
    language.symbol_name refl (record { all = refl; longest = digit_no_symbol b (both (is_digit b) (list_all is_digit ds) d.digits).0 }) refl refl (omega arith)

variable_token : (n : ℕ) (ds rest : List ℕ) → IsDecimal n ds → StopsFirst rest → IsToken Variable (95 ∷ ds) rest
variable_token n ds rest d stops = language.variable refl (record { all = all_letters ds d.digits; longest = no_letter rest stops }) (omega (arith, d.few))

module _ (bytes : List ℕ) where
  name_by : (v : ℕ) (f rest : List ℕ) (ys : List Lexeme) → is_name f ≡ true → bytes_eq f brackets_name ≡ false → bytes_eq f braces_name ≡ false
      → StopsFirst rest
      → EndsAs bytes v rest ys → (b : Bool) → is_bare f ≡ b → EndsAs bytes v (cond b f (39 ∷ flat_map quoted_byte f ++ 39 ∷ []) ++ rest) (name (not b) f ∷ ys)
  name_by v f rest ys e one other stops ends true bare =
      bare_name bytes v f rest ys (bare_token f rest bare one other (le_holds _ _ (both (nat_le (length f) 255) (list_all is_name_byte f) e).0) stops) ends
  name_by v f rest ys e one other stops ends false bare =
      let h = both (nat_le (length f) 255) (list_all is_name_byte f) e in
      quoted_name bytes v (flat_map quoted_byte f) f rest ys (spells_name f h.1) (le_holds _ _ h.0) (no_quote rest stops) ends

  in_two : (f g rest : List ℕ) (xs : List Lexeme) (v : ℕ) → bytes_eq f g ≡ true → EndsAs bytes v (atom_text g ++ rest) xs
      → EndsAs bytes v (atom_text f ++ rest) xs
  in_two f g rest xs v e ends = subst (λ h. EndsAs bytes v (atom_text h ++ rest) xs) (sym (same_bytes f g e)) ends

  pub name_ends : (v : ℕ) (f rest : List ℕ) (ys : List Lexeme) → is_name f ≡ true → StopsFirst rest → EndsAs bytes v rest ys
      → EndsAs bytes v (atom_text f ++ rest) (name_tokens f ys)
  name_ends v f rest ys e stops ends =
      cond_cases (λ xs. EndsAs bytes v (atom_text f ++ rest) xs) (bytes_eq f brackets_name) _ _
      (λ h. in_two f brackets_name rest (open_list ∷ close_list ∷ ys) v h
      (punctuation bytes v 91 (93 ∷ rest) (close_list ∷ ys) refl (punctuation bytes v 93 rest ys refl ends)))
      (λ h. cond_cases (λ xs. EndsAs bytes v (atom_text f ++ rest) xs) (bytes_eq f braces_name) _ _
      (λ k. in_two f braces_name rest (open_curly ∷ close_curly ∷ ys) v k
      (punctuation bytes v 123 (125 ∷ rest) (close_curly ∷ ys) refl (punctuation bytes v 125 rest ys refl ends)))
      (λ k. name_by v f rest ys e h k stops ends (is_bare f) refl))

  pub integer_ends : (v : ℕ) (z : ℤ) (rest : List ℕ) (ys : List Lexeme) → is_in_range z ≡ true → StopsFirst rest → EndsAs bytes v rest ys
      → EndsAs bytes v (integer_text z ++ rest) (integer_tokens z ys)
  integer_ends v (pos n) rest ys e stops ends =
      let small : n < integer_offset = ltb-true n integer_offset e in
      let d = decimal_is n (omega arith) in
      decimal_number bytes v n (decimal_text n) rest ys (number_token n (decimal_text n) rest d (omega arith) stops) d.spells ends
  integer_ends v (negsuc n) rest ys e stops ends =
      let small : n < integer_offset = ltb-true n integer_offset e in
      let d = decimal_is (n + 1) (omega arith) in
      let m : n + 1 ≡ suc n = omega arith in
      bare_name bytes v (codes "-") (decimal_text (n + 1) ++ rest) (number true (suc n) ∷ ys) (minus_token (n + 1) (decimal_text (n + 1)) rest d)
      (decimal_number bytes v (suc n) (decimal_text (n + 1)) rest ys (number_token (n + 1) (decimal_text (n + 1)) rest d (omega arith) stops)
      (d.spells ∙ m) ends)

  -- a variable that stands before
  pub known_ends : (v p : ℕ) (rest : List ℕ) (ys : List Lexeme) → p < v → 1 + v < 10 ^ 20 → StopsFirst rest → EndsAs bytes v rest ys
      → EndsAs bytes v (variable_name p ++ rest) (variable_lexeme p ∷ ys)
  known_ends v p rest ys l few stops ends =
      known_variable bytes v p (variable_name p) rest ys (variable_token (1 + p) (decimal_text (1 + p)) rest (decimal_is (1 + p) (omega arith)) stops)
      (not_anonymous p (omega arith)) (found v p l few) ends

  -- a variable that doesn't
  pub new_ends : (v : ℕ) (rest : List ℕ) (ys : List Lexeme) → 1 + v < 10 ^ 20 → StopsFirst rest → EndsAs bytes (suc v) rest ys
      → EndsAs bytes v (variable_name v ++ rest) (variable_lexeme v ∷ ys)
  new_ends v rest ys few stops ends =
      new_variable bytes v (variable_name v) rest ys (variable_token (1 + v) (decimal_text (1 + v)) rest (decimal_is (1 + v) few) stops)
      (not_anonymous v few) (not_found v v (omega arith) few) refl ends
