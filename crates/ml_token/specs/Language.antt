-- The language of tokens as a grammar, and the first defect where there is none. It speaks of whole
-- lists of bytes, and knows nothing of how a text is read.
use Rattle.std.specs.Prelude.{◌≡◌, ◌≢◌, ◌<◌, ◌≤◌, ℕ, ◌+◌, Bool, true, false, ◌||◌, ◌&&◌, ◌==◌, not}
use Rattle.std.specs.Prelude.{nat_le, List, [], ◌∷◌, ◌++◌, length, drop, Some, None, codes}
use Rattle.std.specs.List.{list_all}
use Rattle.ml_token.specs.Limits.{max_name_bytes, max_number}
use Rattle.ml_token.specs.declared.tokens.Token.{Token}
use Rattle.ml_token.specs.declared.tokens.TokenFault.{TokenFault}
use Rattle.ml_token.specs.declared.tokens.TokenKind.{TokenKind}
use Rattle.ml_token.specs.declared.tokens.TokenKind.TheVariants.{Name, QuotedName, Variable, Number}
use Rattle.ml_token.specs.declared.tokens.TokenKind.TheVariants.{Punct, End, Eof}
use Rattle.ml_token.specs.declared.tokens.TokenFaultKind.{TokenFaultKind}
use Rattle.ml_token.specs.declared.tokens.TokenFaultKind.TheVariants.{BadCharacter, OpenQuote}
use Rattle.ml_token.specs.declared.tokens.TokenFaultKind.TheVariants.{OpenComment, BadEscape}
use Rattle.ml_token.specs.declared.tokens.TokenFaultKind.TheVariants.{NumberTooLarge, NameTooLong}
use Rattle.ml_token.specs.declared.tokens.TokenFaultKind.TheVariants.{LeftOutQuote}
use Rattle.ml_token.specs.Bytes.{is_one_of, is_layout, is_lowercase, is_capital, is_digit}
use Rattle.ml_token.specs.Bytes.{is_alphanumeric, is_symbol, begins_with, ends_clause}
use Rattle.ml_token.specs.Number.{value_of}
use Rattle.ml_token.specs.Quoted.{escape_of}

-- another byte than a line feed
abbrev pub is_in_line : ℕ → Bool
is_in_line b = not (b == 10)

-- the bytes don't begin with one that passes the test
abbrev pub StopsAt : (ℕ → Bool) → List ℕ → Type 0
StopsAt p [] = Unit {0}
StopsAt p (b ∷ bs) = p b ≡ false

-- all bytes of the run pass the test, and what follows doesn't go on with one that does
pub record IsRun (p : ℕ → Bool) (run rest : List ℕ) : Type 0 where
  pub all : list_all p run ≡ true
  pub longest : StopsAt p rest

-- `*/` stands somewhere in these bytes
abbrev pub holds_close : List ℕ → Bool
holds_close [] = false
holds_close (b ∷ bs) = (b == 42 && begins_with 47 bs) || holds_close bs

-- the gap is layout and comments, each whole, and the rest follows it. A comment runs from `%` to
-- the end of the line or of the text, or from `/*` to the next `*/`
pub data IsGap : List ℕ → List ℕ → Type 0 where
  no_gap : {rest : List ℕ} → IsGap [] rest
  layout : {b : ℕ} {gap rest : List ℕ} → is_layout b ≡ true → IsGap gap rest → IsGap (b ∷ gap) rest
  line_comment : {gap rest : List ℕ} (text : List ℕ) → IsRun is_in_line text (gap ++ rest)
      → IsGap gap rest → IsGap (37 ∷ (text ++ gap)) rest
  block_comment : {gap rest : List ℕ} (text : List ℕ) → holds_close text ≡ false → IsGap gap rest
      → IsGap (47 ∷ 42 ∷ (text ++ 42 ∷ 47 ∷ gap)) rest

-- a printing byte but the quote and the backslash
abbrev pub is_plain : ℕ → Bool
is_plain b = nat_le 32 b && nat_le b 126 && not (b == 39) && not (b == 92)

-- the text between two quotes spells the name: each byte itself, two quotes one, a backslash and a
-- byte what the escape stands for
pub data Spells : List ℕ → List ℕ → Type 0 where
  nothing : Spells [] []
  plain : {b : ℕ} {text name : List ℕ} → is_plain b ≡ true → Spells text name
      → Spells (b ∷ text) (b ∷ name)
  two_quotes : {text name : List ℕ} → Spells text name → Spells (39 ∷ 39 ∷ text) (39 ∷ name)
  escape : {b v : ℕ} {text name : List ℕ} → escape_of b ≡ Some v → Spells text name
      → Spells (92 ∷ b ∷ text) (v ∷ name)

-- a token's text spells the name: a quoted name's what stands between its quotes, any other token's
-- itself
pub data SpellsName : TokenKind → List ℕ → List ℕ → Type 0 where
  bare : {kind : TokenKind} {text : List ℕ} → kind ≢ QuotedName → SpellsName kind text text
  between_quotes : {text name : List ℕ} → Spells text name
      → SpellsName QuotedName (39 ∷ (text ++ 39 ∷ [])) name

-- the text is a token of the kind where the rest follows
pub data IsToken : TokenKind → List ℕ → List ℕ → Type 0 where
  small_name : {b : ℕ} {text rest : List ℕ} → is_lowercase b ≡ true
      → IsRun is_alphanumeric text rest
      → length text < max_name_bytes → IsToken Name (b ∷ text) rest
  symbol_name : {b : ℕ} {text rest : List ℕ} → is_symbol b ≡ true → IsRun is_symbol text rest
      → (b == 46 && ends_clause (text ++ rest)) ≡ false
      → (b == 47 && begins_with 42 (text ++ rest)) ≡ false
      → length text < max_name_bytes → IsToken Name (b ∷ text) rest
  solo_name : {b : ℕ} {rest : List ℕ} → is_one_of (codes "!;") b ≡ true → IsToken Name (b ∷ []) rest
  quoted_name : {rest : List ℕ} (text name : List ℕ) → Spells text name
      → length name ≤ max_name_bytes → begins_with 39 rest ≡ false
      → IsToken QuotedName (39 ∷ (text ++ 39 ∷ [])) rest
  variable : {b : ℕ} {text rest : List ℕ} → (is_capital b || b == 95) ≡ true
      → IsRun is_alphanumeric text rest
      → length text < max_name_bytes → IsToken Variable (b ∷ text) rest
  number : {b : ℕ} {text rest : List ℕ} → is_digit b ≡ true → IsRun is_digit text rest
      → value_of (b ∷ text) ≤ max_number → IsToken Number (b ∷ text) rest
  punct : {b : ℕ} {rest : List ℕ} → is_one_of (codes "()[]{},|") b ≡ true
      → IsToken Punct (b ∷ []) rest
  end : {rest : List ℕ} → ends_clause rest ≡ true → IsToken End (46 ∷ []) rest
  eof : IsToken Eof [] []

-- there are no bytes
abbrev pub is_nothing : List ℕ → Bool
is_nothing [] = true
is_nothing (b ∷ bs) = false

-- behind a quote and what it spells so far, these bytes leave the name open: the text ends, also
-- behind a backslash, or the line does
abbrev pub leaves_open : List ℕ → Bool
leaves_open [] = true
leaves_open (b ∷ bs) = b == 10 || (b == 92 && is_nothing bs)

-- a byte that is layout, or begins a token or a comment
abbrev pub begins_something : ℕ → Bool
begins_something b =
    is_layout b || is_alphanumeric b || is_symbol b || is_one_of (codes "!;()[]{},|'\"`%") b

-- the first defect of a token that begins with these bytes stands behind them, where the rest
-- begins
pub data IsFault : TokenFaultKind → List ℕ → List ℕ → Type 0 where
  no_token : {b : ℕ} {rest : List ℕ} → begins_something b ≡ false
      → IsFault BadCharacter [] (b ∷ rest)
  not_in_quotes : {b : ℕ} {text rest : List ℕ} (name : List ℕ) → Spells text name
      → length name ≤ max_name_bytes
      → (nat_le 32 b && nat_le b 126 || b == 10) ≡ false
      → IsFault BadCharacter (39 ∷ text) (b ∷ rest)
  open_quote : (text name rest : List ℕ) → Spells text name → length name ≤ max_name_bytes
      → leaves_open rest ≡ true
      → IsFault OpenQuote [] (39 ∷ (text ++ rest))
  open_comment : {rest : List ℕ} → holds_close rest ≡ false
      → IsFault OpenComment [] (47 ∷ 42 ∷ rest)
  no_escape : {b : ℕ} {text rest : List ℕ} (name : List ℕ) → Spells text name
      → length name ≤ max_name_bytes → escape_of b ≡ None
      → IsFault BadEscape (39 ∷ text) (92 ∷ b ∷ rest)
  large_number : {b : ℕ} (text rest : List ℕ) → is_digit b ≡ true → IsRun is_digit text rest
      → max_number < value_of (b ∷ text) → IsFault NumberTooLarge [] (b ∷ (text ++ rest))
  long_name : {b : ℕ} (text rest : List ℕ) → (is_lowercase b || is_capital b || b == 95) ≡ true
      → IsRun is_alphanumeric text rest
      → max_name_bytes ≤ length text → IsFault NameTooLong [] (b ∷ (text ++ rest))
  long_symbol_name : {b : ℕ} (text rest : List ℕ) → is_symbol b ≡ true → IsRun is_symbol text rest
      → (b == 47 && begins_with 42 (text ++ rest)) ≡ false → max_name_bytes ≤ length text
      → IsFault NameTooLong [] (b ∷ (text ++ rest))
  long_quoted_name : (text name rest : List ℕ) → Spells text name → max_name_bytes < length name
      → IsFault NameTooLong [] (39 ∷ (text ++ rest))
  left_out : {b : ℕ} {rest : List ℕ} → is_one_of (codes "\"`") b ≡ true
      → IsFault LeftOutQuote [] (b ∷ rest)

-- behind layout and comments from `at` on stands this token
pub record HasToken (bytes : List ℕ) (at : ℕ) (t : Token) : Type 0 where
  pub gap : List ℕ
  pub text : List ℕ
  pub rest : List ℕ
  pub whole : drop at bytes ≡ gap ++ (text ++ rest)
  pub before : IsGap gap (text ++ rest)
  pub token : IsToken t.kind text rest
  pub from : t.from ≡ at + length gap
  pub to : t.to ≡ t.from + length text

-- behind layout and comments from `at` on begins a token that has this first defect
pub record HasFault (bytes : List ℕ) (at : ℕ) (fault : TokenFault) : Type 0 where
  pub gap : List ℕ
  pub text : List ℕ
  pub rest : List ℕ
  pub whole : drop at bytes ≡ gap ++ (text ++ rest)
  pub before : IsGap gap (text ++ rest)
  pub defect : IsFault fault.kind text rest
  pub place : fault.place ≡ at + length gap + length text
