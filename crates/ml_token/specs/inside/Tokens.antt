-- The scanner: the first token of a text, or its first defect, as a function of the bytes. Only the
-- clause `exact` of `next_token` cites this module, for the proofs of the layer above; its other
-- clauses say by `Language` what a token is.
use Rattle.std.specs.Prelude.{ℕ, ◌+◌, ◌&&◌, ◌==◌, nat_le, List, [], ◌∷◌, take}
use Rattle.std.specs.Prelude.{drop, Result, Ok, Err, if◌then◌else◌}
use Rattle.std.specs.List.{prefix_len}
use Rattle.ml_token.specs.Limits.{max_name_bytes, max_number}
use Rattle.ml_token.specs.declared.bytes.Run.TheVariants.{Alphanumeric, Digit, Symbol}
use Rattle.ml_token.specs.declared.bytes.TokenStart.{TokenStart}
use Rattle.ml_token.specs.declared.bytes.TokenStart.TheVariants as begun
use Rattle.ml_token.specs.declared.tokens.Token.{Token}
use Rattle.ml_token.specs.declared.tokens.TokenFault.{TokenFault}
use Rattle.ml_token.specs.declared.tokens.TokenKind.{TokenKind}
use Rattle.ml_token.specs.declared.tokens.TokenKind.TheVariants.{Name, Variable, Number, Punct, End}
use Rattle.ml_token.specs.declared.tokens.TokenKind.TheVariants.{Eof}
use Rattle.ml_token.specs.declared.tokens.TokenFaultKind.{TokenFaultKind}
use Rattle.ml_token.specs.declared.tokens.TokenFaultKind.TheVariants.{BadCharacter, OpenComment}
use Rattle.ml_token.specs.declared.tokens.TokenFaultKind.TheVariants.{NumberTooLarge, NameTooLong}
use Rattle.ml_token.specs.declared.tokens.TokenFaultKind.TheVariants.{LeftOutQuote}
use Rattle.ml_token.specs.Bytes.{in_run, token_start, ends_clause, begins_with}
use Rattle.ml_token.specs.inside.Gap.{gap_len}
use Rattle.ml_token.specs.Number.{value_of}
use Rattle.ml_token.specs.Quoted.{quoted_token}

-- the token of `len` bytes from this place on
abbrev pub token_of_len : TokenKind → ℕ → ℕ → Result Token TokenFault
token_of_len kind from len = Ok (record { kind = kind; from = from; to = from + len })

-- the defect at this place
abbrev pub fault_of : TokenFaultKind → ℕ → Result Token TokenFault
fault_of kind place = Err (record { place = place; kind = kind })

-- the token of a name of `len` bytes, as they stand in the text
abbrev pub name_of_len : TokenKind → ℕ → ℕ → Result Token TokenFault
name_of_len kind from len =
    if nat_le len max_name_bytes then token_of_len kind from len else fault_of NameTooLong from

-- the number of all digits that stand first
abbrev pub number_at : ℕ → List ℕ → Result Token TokenFault
number_at from text =
    let len = prefix_len (in_run Digit) text in
    if nat_le (value_of (take len text)) max_number then token_of_len Number from len else fault_of
    NumberTooLarge from

-- what begins with a symbol character: an end, a comment that nothing closes, or a name of all
-- symbol characters here
abbrev pub symbols_at : ℕ → ℕ → List ℕ → Result Token TokenFault
symbols_at from b bs =
    if b == 46 && ends_clause bs then token_of_len End from 1
    else (if b == 47 && begins_with 42 bs then fault_of OpenComment from
    else name_of_len Name from (1 + prefix_len (in_run Symbol) bs))

-- what begins with the first byte of the text, by what that byte may begin
abbrev pub token_from_start : ℕ → TokenStart → ℕ → List ℕ → Result Token TokenFault
token_from_start from begun.Name b bs =
    name_of_len Name from (prefix_len (in_run Alphanumeric) (b ∷ bs))
token_from_start from begun.Variable b bs =
    name_of_len Variable from (prefix_len (in_run Alphanumeric) (b ∷ bs))
token_from_start from begun.Number b bs = number_at from (b ∷ bs)
token_from_start from begun.Symbol b bs = symbols_at from b bs
token_from_start from begun.Quote b bs = quoted_token from bs
token_from_start from begun.Solo b bs = token_of_len Name from 1
token_from_start from begun.Punct b bs = token_of_len Punct from 1
token_from_start from begun.LeftOutQuote b bs = fault_of LeftOutQuote from
token_from_start from begun.Nothing b bs = fault_of BadCharacter from

-- what the text begins with, which stands at `from` behind layout and comments
abbrev pub token_at : ℕ → List ℕ → Result Token TokenFault
token_at from [] = token_of_len Eof from 0
token_at from (b ∷ bs) = token_from_start from (token_start b) b bs

-- the first token at or after `at`, past layout and comments, or the first defect there
unfoldable pub first_token : List ℕ → ℕ → Result Token TokenFault
first_token bytes at =
    let rest = drop at bytes in
    let gap = gap_len 0 rest in
    token_at (at + gap) (drop gap rest)
