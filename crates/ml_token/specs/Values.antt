-- What tokens stand for: names and numbers.
use Rattle.std.specs.Prelude.{◌≡◌, ◌≢◌, ◌≤◌, ◌<◌, ℕ, ◌-◌, Bool, ◌&&◌, ◌||◌, nat_le, IsTrue, List}
use Rattle.std.specs.Prelude.{length, take, drop}
use Rattle.std.specs.List.{list_all}
use Rattle.ml_token.specs.Limits.{max_name_bytes, max_number}
use Rattle.ml_token.specs.declared.tokens.Token.{Token}
use Rattle.ml_token.specs.declared.tokens.TokenKind.{TokenKind}
use Rattle.ml_token.specs.declared.tokens.TokenKind.TheVariants.{Name, QuotedName, Variable, Number}
use Rattle.ml_token.specs.declared.tokens.TokenKind.TheVariants.{Punct, End, Eof}
use Rattle.ml_token.specs.Number.{value_of}
use Rattle.ml_token.specs.Quoted.{inside}

-- 7 to 13, which have escapes, and the printing bytes
abbrev pub is_name_byte : ℕ → Bool
is_name_byte b = (nat_le 7 b && nat_le b 13) || (nat_le 32 b && nat_le b 126)

-- at most 255 such bytes
abbrev pub is_name : List ℕ → Bool
is_name bytes = nat_le (length bytes) max_name_bytes && list_all is_name_byte bytes

-- what a token spells whose bytes are the first `len` of the text: the name between the quotes, or
-- its bytes as they stand
abbrev pub spelled_text : TokenKind → List ℕ → ℕ → List ℕ
spelled_text QuotedName text len = (inside 0 (drop 1 text)).name
spelled_text kind text len = take len text

-- what a token of the bytes spells
abbrev pub name_of : List ℕ → Token → List ℕ
name_of bytes t = spelled_text t.kind (drop t.from bytes) (t.to - t.from)

-- the bytes of a token
abbrev pub text_of : List ℕ → Token → List ℕ
text_of bytes t = take (t.to - t.from) (drop t.from bytes)

-- the number that a token's digits spell
abbrev pub number_of : List ℕ → Token → ℕ
number_of bytes t = value_of (text_of bytes t)

-- names and numbers keep to their limits, in a token whose bytes are the first `len` of the text
abbrev pub HasValue : TokenKind → List ℕ → ℕ → Type 0
HasValue Name text len = IsTrue (is_name (spelled_text Name text len))
HasValue QuotedName text len = IsTrue (is_name (spelled_text QuotedName text len))
HasValue Variable text len = IsTrue (is_name (spelled_text Variable text len))
HasValue Number text len = value_of (take len text) ≤ max_number
HasValue Punct text len = len ≡ 1
HasValue End text len = len ≡ 1
HasValue Eof text len = (len ≡ 0) × (length text ≡ 0)

-- where a token stands behind `at`, and what its value keeps to
pub record StandsIn (bytes : List ℕ) (at : ℕ) (t : Token) : Type 0 where
  pub behind : at ≤ t.from
  pub ordered : t.from ≤ t.to
  pub within : t.to ≤ length bytes
  pub some : t.kind ≢ Eof → t.from < t.to
  pub value : HasValue t.kind (drop t.from bytes) (t.to - t.from)
