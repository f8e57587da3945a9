-- The tokens of a text with their values. Which tokens these are is said by their grammar; the code
-- finds them with a scanner.
use Rattle.std.specs.Prelude.{◌≡◌, ◌≢◌, ℕ, ◌+◌, Bool, true, false, ◌==◌, if◌then◌else◌, List, []}
use Rattle.std.specs.Prelude.{◌∷◌, ◌++◌, drop, Option, Some, None, unwrap_or, codes}
use Rattle.std.specs.Str.{bytes_eq}
use Rattle.ml_token.specs.Language.{HasToken}
use Rattle.ml_token.specs.Values.{name_of, number_of}
use Rattle.ml_token.specs.declared.tokens.Token.{Token}
use Rattle.ml_token.specs.declared.tokens.TokenKind.{TokenKind}
use Rattle.ml_token.specs.declared.tokens.TokenKind.TheVariants.{Name, QuotedName, Variable, Number}
use Rattle.ml_token.specs.declared.tokens.TokenKind.TheVariants.{Punct, End, Eof}
use Rattle.ml_reader.specs.Lexemes.{ClauseEnd, Lexeme, name, variable_lexeme, number, open_paren}
use Rattle.ml_reader.specs.Lexemes.{close_paren, open_list, close_list, open_curly, close_curly}
use Rattle.ml_reader.specs.Lexemes.{head_tail_separator, comma, end}

-- what a token finds before it: where the token before ended, how many tokens of its clause stand
-- before it, the places of the first and the last of them, the names of the clause's variables so
-- far but `_` with their numbers, and how many variables the clause has so far
pub record TokenContext : Type 0 where
  pub to : ℕ
  pub tokens : ℕ
  pub first : ℕ
  pub last : ℕ
  pub names : List (List ℕ × ℕ)
  pub variables : ℕ

-- the number that stands beside a name
abbrev pub find_name : List (List ℕ × ℕ) → List ℕ → Option ℕ
find_name [] f = None
find_name (n ∷ ns) f = if bytes_eq n.0 f then Some n.1 else find_name ns f

-- `_` alone, a new variable each time
abbrev pub is_anonymous : List ℕ → Bool
is_anonymous f = bytes_eq (codes "_") f

-- the number of a variable of this name: the one that it has, or a new one
abbrev pub variable_number : TokenContext → List ℕ → ℕ
variable_number c f =
    if is_anonymous f then c.variables else unwrap_or (find_name c.names f) c.variables

-- the byte `(`
abbrev pub open_paren_byte : ℕ
open_paren_byte = 40

-- the byte `)`
abbrev pub close_paren_byte : ℕ
close_paren_byte = 41

-- the byte `[`
abbrev pub open_list_byte : ℕ
open_list_byte = 91

-- the byte `]`
abbrev pub close_list_byte : ℕ
close_list_byte = 93

-- the byte `{`
abbrev pub open_curly_byte : ℕ
open_curly_byte = 123

-- the byte `}`
abbrev pub close_curly_byte : ℕ
close_curly_byte = 125

-- the byte `,`
abbrev pub comma_byte : ℕ
comma_byte = 44

-- the punctuation that a byte is; tight: it directly follows the token before
abbrev pub sign : Bool → ℕ → Lexeme
sign tight b =
    if b == open_paren_byte then open_paren tight
    else (if b == close_paren_byte then close_paren
    else (if b == open_list_byte then open_list
    else (if b == close_list_byte then close_list
    else (if b == open_curly_byte then open_curly
    else (if b == close_curly_byte then close_curly
    else (if b == comma_byte then comma
    else head_tail_separator))))))

-- the punctuation that the first byte is
abbrev pub first_sign : Bool → List ℕ → Lexeme
first_sign tight [] = head_tail_separator
first_sign tight (b ∷ bs) = sign tight b

-- a token directly follows the one before; the first token of a text that stands at its beginning
-- counts as one that does
abbrev pub is_tight : TokenContext → Token → Bool
is_tight c t = t.from == c.to

-- the place of the first token of the clause that a token belongs to
abbrev pub first_place : TokenContext → Token → ℕ
first_place c t = if c.tokens == 0 then t.from else c.first

-- what the tokens of a clause tell of it at its end
abbrev pub clause_end_at : TokenContext → Token → ClauseEnd
clause_end_at c t = record { names = c.names; place = first_place c t }

-- a token with its value
abbrev pub lexeme_of : TokenKind → List ℕ → TokenContext → Token → Lexeme
lexeme_of Name bytes c t = name false (name_of bytes t)
lexeme_of QuotedName bytes c t = name true (name_of bytes t)
lexeme_of Variable bytes c t = variable_lexeme (variable_number c (name_of bytes t))
lexeme_of Number bytes c t = number (is_tight c t) (number_of bytes t)
lexeme_of Punct bytes c t = first_sign (is_tight c t) (drop t.from bytes)
lexeme_of End bytes c t = end (clause_end_at c t)
lexeme_of Eof bytes c t = head_tail_separator

-- a token behind others, with its value
abbrev pub lexeme : List ℕ → TokenContext → Token → Lexeme
lexeme bytes c t = lexeme_of t.kind bytes c t

-- one more token of the clause, with these names of variables, and so many variables
abbrev pub behind_token : TokenContext → Token → List (List ℕ × ℕ) → ℕ → TokenContext
behind_token c t names variables = record {
  to = t.to;
  tokens = 1 + c.tokens;
  first =
      first_place c t;
  last = t.from;
  names = names;
  variables = variables;
}

-- behind a variable that has a number or not
abbrev pub behind_named : Option ℕ → List ℕ → TokenContext → Token → TokenContext
behind_named (Some n) f c t = behind_token c t c.names c.variables
behind_named None f c t = behind_token c t (c.names ++ (f, c.variables) ∷ []) (1 + c.variables)

-- behind a variable of this name
abbrev pub behind_variable : List ℕ → TokenContext → Token → TokenContext
behind_variable f c t = if is_anonymous f then behind_token c t c.names (1 + c.variables) else
    behind_named (find_name c.names f) f c t

-- what the next token finds before it behind this one
abbrev pub behind_kind : TokenKind → List ℕ → TokenContext → Token → TokenContext
behind_kind Variable bytes c t = behind_variable (name_of bytes t) c t
behind_kind End bytes c t =
    record { to = t.to; tokens = 0; first = t.to; last = t.from; names = []; variables = 0 }
behind_kind kind bytes c t = behind_token c t c.names c.variables

-- what the next token finds before it behind this one
abbrev pub behind : List ℕ → TokenContext → Token → TokenContext
behind bytes c t = behind_kind t.kind bytes c t

-- nothing was read
abbrev pub text_start : TokenContext
text_start = record { to = 0; tokens = 0; first = 0; last = 0; names = []; variables = 0 }

-- behind the context c the text goes on with these tokens, and the next one finds the context d
-- before it
pub data GoesOn (bytes : List ℕ) : TokenContext → List Lexeme → TokenContext → Type 0 where
  no_token : {c : TokenContext} → GoesOn bytes c [] c
  a_token : {c d : TokenContext} {xs : List Lexeme} (t : Token) → HasToken bytes c.to t
      → t.kind ≢ Eof → GoesOn bytes (behind bytes c t) xs d
      → GoesOn bytes c (lexeme bytes c t ∷ xs) d

-- behind the context c the text goes on with these tokens up to its end
pub data Ends (bytes : List ℕ) : TokenContext → List Lexeme → Type 0 where
  the_end : {c : TokenContext} (t : Token) → HasToken bytes c.to t → t.kind ≡ Eof → Ends bytes c []
  one_more_token : {c : TokenContext} {xs : List Lexeme} (t : Token) → HasToken bytes c.to t
      → t.kind ≢ Eof → Ends bytes (behind bytes c t) xs
      → Ends bytes c (lexeme bytes c t ∷ xs)
