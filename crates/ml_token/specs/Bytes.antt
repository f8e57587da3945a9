-- The bytes of a text, by what they may stand for.
use Rattle.std.specs.Prelude.{ℕ, Bool, true, false, ◌||◌, ◌==◌, not, nat_le, ◌&&◌, List, [], ◌∷◌}
use Rattle.std.specs.Prelude.{codes, if◌then◌else◌}
use Rattle.std.specs.List.{list_any}
use Rattle.ml_token.specs.declared.bytes.Run.{Run}
use Rattle.ml_token.specs.declared.bytes.Run.TheVariants.{Alphanumeric, Digit, Symbol, Line}
use Rattle.ml_token.specs.declared.bytes.TokenStart.{TokenStart}
use Rattle.ml_token.specs.declared.bytes.TokenStart.TheVariants as opens

-- the byte stands among these
abbrev pub is_one_of : List ℕ → ℕ → Bool
is_one_of bytes b = list_any (λ x. b == x) bytes

-- a tab, a line feed, a form feed, a carriage return or a space
abbrev pub is_layout : ℕ → Bool
is_layout b = b == 9 || b == 10 || b == 12 || b == 13 || b == 32

-- a small letter
abbrev pub is_lowercase : ℕ → Bool
is_lowercase b = nat_le 97 b && nat_le b 122

-- a capital letter
abbrev pub is_capital : ℕ → Bool
is_capital b = nat_le 65 b && nat_le b 90

-- a decimal digit
abbrev pub is_digit : ℕ → Bool
is_digit b = nat_le 48 b && nat_le b 57

-- a letter, a digit or the low line
abbrev pub is_alphanumeric : ℕ → Bool
is_alphanumeric b = is_lowercase b || is_capital b || is_digit b || b == 95

-- a symbol character
abbrev pub is_symbol : ℕ → Bool
is_symbol = is_one_of (codes "+-*/\\^<>=~:.?@#&$")

-- a byte that a run goes on with
abbrev pub in_run : Run → ℕ → Bool
in_run Alphanumeric b = is_alphanumeric b
in_run Digit b = is_digit b
in_run Symbol b = is_symbol b
in_run Line b = not (b == 10)

-- what begins with a byte that is no layout and begins no comment
abbrev pub token_start : ℕ → TokenStart
token_start b =
    if is_lowercase b then opens.Name
    else (if is_capital b || b == 95 then opens.Variable
    else (if is_digit b then opens.Number
    else (if is_symbol b then opens.Symbol
    else (if b == 39 then opens.Quote
    else (if is_one_of (codes "!;") b then opens.Solo
    else (if is_one_of (codes "()[]{},|") b then opens.Punct
    else (if is_one_of (codes "\"`") b then opens.LeftOutQuote
    else opens.Nothing)))))))

-- the text begins with this byte
abbrev pub begins_with : ℕ → List ℕ → Bool
begins_with b [] = false
begins_with b (x ∷ xs) = x == b

-- a full stop before these bytes ends a clause
abbrev pub ends_clause : List ℕ → Bool
ends_clause [] = true
ends_clause (b ∷ bs) = is_layout b || b == 37
