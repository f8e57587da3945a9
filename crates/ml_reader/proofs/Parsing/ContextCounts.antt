-- The counts of a context behind a token.
use Rattle.std.specs.Prelude.{◌≢◌, ℕ, ◌≤◌, ◌<◌, List, length, Option, Some, None}
use Rattle.std.proofs.Common.{arith}
use Rattle.ml_token.specs.Values.{name_of, StandsIn}
use Rattle.ml_token.specs.declared.tokens.Token.{Token}
use Rattle.ml_token.specs.declared.tokens.TokenKind.{TokenKind}
use Rattle.ml_token.specs.declared.tokens.TokenKind.TheVariants.{Name, QuotedName, Variable, Number, Punct, End, Eof}
use Rattle.ml_reader.specs.Tokens.{TokenContext, behind, behind_kind, behind_variable, behind_named, find_name, is_anonymous}
use Rattle.ml_reader.specs.inside.parser.ContextSeen.{IsWithin}
use Rattle.ml_reader.proofs.Parsing.TextBeginnings.{if_either, behind_to}

named_within : (i : Option ℕ) (f : List ℕ) (c : TokenContext) (t : Token) → IsWithin c → c.to < t.to → IsWithin (behind_named i f c t)
named_within (Some n) f c t w l = let a = w.tokens in let b = w.variables in record { tokens = omega arith; variables = omega arith }
named_within None f c t w l = let a = w.tokens in let b = w.variables in record { tokens = omega arith; variables = omega arith }

variable_within : (f : List ℕ) (c : TokenContext) (t : Token) → IsWithin c → c.to < t.to → IsWithin (behind_variable f c t)
variable_within f c t w l =
    if_either IsWithin (is_anonymous f) _ _ (let a = w.tokens in let b = w.variables in record { tokens = omega arith; variables = omega arith })
    (named_within (find_name c.names f) f c t w l)

kind_within : (k : TokenKind) (bytes : List ℕ) (c : TokenContext) (t : Token) → IsWithin c → c.to < t.to → IsWithin (behind_kind k bytes c t)
kind_within Name bytes c t w l = let a = w.tokens in let b = w.variables in record { tokens = omega arith; variables = omega arith }
kind_within QuotedName bytes c t w l = let a = w.tokens in let b = w.variables in record { tokens = omega arith; variables = omega arith }
kind_within Variable bytes c t w l = variable_within (name_of bytes t) c t w l
kind_within Number bytes c t w l = let a = w.tokens in let b = w.variables in record { tokens = omega arith; variables = omega arith }
kind_within Punct bytes c t w l = let a = w.tokens in let b = w.variables in record { tokens = omega arith; variables = omega arith }
kind_within End bytes c t w l = record { tokens = omega arith; variables = omega arith }
kind_within Eof bytes c t w l = let a = w.tokens in let b = w.variables in record { tokens = omega arith; variables = omega arith }

-- the counts stay within the bytes
pub behind_within : (bytes : List ℕ) (c : TokenContext) (t : Token) → IsWithin c → StandsIn bytes c.to t → t.kind ≢ Eof → IsWithin (behind bytes c t)
behind_within bytes c t w s n = kind_within t.kind bytes c t w (let a = s.behind in let o = s.some n in omega arith)

-- the next place is in the text, behind the last one
pub behind_ends : (bytes : List ℕ) (c : TokenContext) (t : Token) → StandsIn bytes c.to t → t.kind ≢ Eof → (c.to < (behind bytes c t).to)
    × ((behind bytes c t).to ≤ length bytes)
behind_ends bytes c t s n =
    let e = behind_to bytes c t n in
    let a = s.behind in
    let o = s.some n in
    let w = s.within in
    (omega arith, omega arith)
