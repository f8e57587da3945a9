-- Quoted names.
use Rattle.std.specs.Prelude.{◌≤◌, ℕ, zero, suc, ◌+◌, ◌-◌, ◌==◌, ◌&&◌, nat_le, List, [], ◌∷◌}
use Rattle.std.specs.Prelude.{length, Option, Some, None, Result, Ok, Err, if◌then◌else◌}
use Rattle.ml_token.specs.Limits.{max_name_bytes}
use Rattle.ml_token.specs.declared.quoted.Part.{Part}
use Rattle.ml_token.specs.declared.quoted.Part.TheVariants.{Spelled, Last}
use Rattle.ml_token.specs.declared.quoted.Ending.{Ending}
use Rattle.ml_token.specs.declared.quoted.Ending.TheVariants.{Closed, LeftOpen, Broken}
use Rattle.ml_token.specs.declared.tokens.Token.{Token}
use Rattle.ml_token.specs.declared.tokens.TokenFault.{TokenFault}
use Rattle.ml_token.specs.declared.tokens.TokenKind.TheVariants.{QuotedName}
use Rattle.ml_token.specs.declared.tokens.TokenFaultKind.TheVariants.{BadCharacter, BadEscape}
use Rattle.ml_token.specs.declared.tokens.TokenFaultKind.TheVariants.{OpenQuote, NameTooLong}

-- the byte that a backslash before this byte spells
abbrev pub escape_of : ℕ → Option ℕ
escape_of b =
    if b == 97 then Some 7
    else (if b == 98 then Some 8
    else (if b == 116 then Some 9
    else (if b == 110 then Some 10
    else (if b == 118 then Some 11
    else (if b == 102 then Some 12
    else (if b == 114 then Some 13
    else (if b == 92 then Some 92
    else (if b == 39 then Some 39
    else (if b == 34 then Some 34
    else (if b == 96 then Some 96
    else None))))))))))

-- an escape that spells this byte, if any
abbrev pub escape_part : Option ℕ → Part
escape_part (Some v) = Spelled v 2
escape_part None = Last (Broken BadEscape)

-- what a backslash and these bytes begin with
abbrev pub behind_backslash : List ℕ → Part
behind_backslash [] = Last LeftOpen
behind_backslash (b ∷ bs) = escape_part (escape_of b)

-- what a quote and these bytes begin with: two quotes spell one
abbrev pub behind_quote : List ℕ → Part
behind_quote [] = Last Closed
behind_quote (b ∷ bs) = if b == 39 then Spelled 39 2 else Last Closed

-- what stands first between the quotes
abbrev pub part_of : List ℕ → Part
part_of [] = Last LeftOpen
part_of (b ∷ bs) =
    if b == 39 then behind_quote bs
    else (if b == 92 then behind_backslash bs
    else (if b == 10 then Last LeftOpen
    else (if nat_le 32 b && nat_le b 126 then Spelled b 1
    else Last (Broken BadCharacter))))

-- what is spelled takes some of the text, and no more than there is
abbrev pub IsWithin : Part → ℕ → Type 0
IsWithin (Spelled v n) len = (1 ≤ n) × (n ≤ len)
IsWithin (Last Closed) len = 1 ≤ len
IsWithin (Last ending) len = Unit {0}

-- the text between the quotes: the name that it spells, how many bytes of it spell the name, and
-- what ends it
pub record Inside : Type 0 where
  pub name : List ℕ
  pub width : ℕ
  pub ending : Ending

-- one more byte, which `n` bytes of the text spell
abbrev pub with_byte : ℕ → ℕ → Inside → Inside
with_byte v n after =
    record { name = v ∷ after.name; width = n + after.width; ending = after.ending }

-- what stands between the quotes, in a text whose first `skip` bytes belong to an escape before it
abbrev pub inside : ℕ → List ℕ → Inside
inside skip [] = record { name = []; width = 0; ending = LeftOpen }
inside (suc k) (b ∷ bs) = inside k bs
inside zero (b ∷ bs) = elim (part_of (b ∷ bs)) [
  | Spelled v n ↦ with_byte v n (inside (n - 1) bs)
  | Last ending ↦ record { name = []; width = 0; ending = ending }
]

-- what an ending makes of a name whose quote stands at `from`, and whose text between the quotes
-- took this width
abbrev pub quoted_end : ℕ → ℕ → Ending → Result Token TokenFault
quoted_end from width Closed = Ok (record { kind = QuotedName; from = from; to = from + width + 2 })
quoted_end from width LeftOpen = Err (record { place = from; kind = OpenQuote })
quoted_end from width (Broken kind) = Err (record { place = from + 1 + width; kind = kind })

-- the token of a name whose opening quote stands at `from`, before this text, or its first defect
abbrev pub quoted_token : ℕ → List ℕ → Result Token TokenFault
quoted_token from text =
    let q = inside 0 text in
    if nat_le (length q.name) max_name_bytes then quoted_end from q.width q.ending
    else Err (record { place = from; kind = NameTooLong })
