-- Where a text goes wrong, and what goes wrong first. Nothing here knows how a text is read: what
-- stands before a fault is said by the grammar, as is where a level or an argument begins.
use Rattle.std.specs.Prelude.{◌≡◌, ◌≢◌, ℕ, ◌≤◌, ◌<◌, ◌⊎◌, true, false, List, [], ◌∷◌, ◌++◌, length}
use Rattle.std.specs.Prelude.{codes}
use Rattle.ml_term.specs.Tree.{nodes}
use Rattle.ml_token.specs.Language.{HasToken, HasFault as HasTokenFault}
use Rattle.ml_token.specs.Values.{number_of}
use Rattle.ml_token.specs.declared.tokens.Token.{Token}
use Rattle.ml_token.specs.declared.tokens.TokenKind.TheVariants.{Number, Eof}
use Rattle.ml_token.specs.declared.tokens.TokenFault.{TokenFault}
use Rattle.ml_token.specs.declared.tokens.TokenFaultKind.{TokenFaultKind}
use Rattle.ml_token.specs.declared.tokens.TokenFaultKind.TheVariants as token
use Rattle.ml_reader.specs.Lexemes.{ClauseEnd, Lexeme, ReadClause, name, end}
use Rattle.ml_reader.specs.Tokens.{TokenContext, lexeme, behind, is_tight, text_start, GoesOn}
use Rattle.ml_reader.specs.Grammar.{IsText, Viable}
use Rattle.ml_reader.specs.Levels.{Level, in_argument, Wants, OpenBefore, OpensLevel}
use Rattle.ml_reader.specs.declared.fault.ReadFault.{ReadFault}
use Rattle.ml_reader.specs.declared.fault.ReadKind.{ReadKind}
use Rattle.ml_reader.specs.declared.fault.ReadKind.TheVariants as kind
use Rattle.ml_term.specs.Limits.{max_arguments, max_term_nodes, integer_offset}
use Rattle.ml_reader.specs.Limits.{max_text_levels, max_clause_tokens}

-- the kind of a token's fault
abbrev pub read_kind_of : TokenFaultKind → ReadKind
read_kind_of token.BadCharacter = kind.BadCharacter
read_kind_of token.OpenQuote = kind.OpenQuote
read_kind_of token.OpenComment = kind.OpenComment
read_kind_of token.BadEscape = kind.BadEscape
read_kind_of token.NumberTooLarge = kind.NumberTooLarge
read_kind_of token.NameTooLong = kind.NameTooLong
read_kind_of token.LeftOutQuote = kind.LeftOutQuote

-- the fault of a kind at a place
abbrev pub fault : ReadKind → ℕ → ReadFault
fault k place = record { place = place; kind = k }

-- the next token is t
pub record IsNext (bytes : List ℕ) (c : TokenContext) (t : Token) : Type 0 where
  pub found : HasToken bytes c.to t
  pub some : t.kind ≢ Eof

-- what may stand next: the next token, or any where that one has a fault or the text ends
pub data MayBeNext (bytes : List ℕ) (c : TokenContext) : Lexeme → Type 0 where
  next : (t : Token) → IsNext bytes c t → MayBeNext bytes c (lexeme bytes c t)
  at_end : {y : Lexeme} (t : Token) → HasToken bytes c.to t → t.kind ≡ Eof → MayBeNext bytes c y
  at_fault : {y : Lexeme} {e : TokenFault} → HasTokenFault bytes c.to e → MayBeNext bytes c y

-- behind the token t, which stands behind xs, these levels are open. An operator's name opens one
-- where what may stand next makes neither an atom nor a functor of it, also where its priority
-- doesn't fit
pub record AreOpen (bytes : List ℕ) (xs : List Lexeme) (c : TokenContext) (t : Token)
    (ls : List Level) : Type 0 where
  pub following : Lexeme
  pub may : MayBeNext bytes (behind bytes c t) following
  pub open_there : OpenBefore (xs ++ lexeme bytes c t ∷ following ∷ []) (following ∷ []) ls

-- the tokens end with a bare `-` where a term begins
abbrev pub EndsInMinus : List Lexeme → Type 0
EndsInMinus xs = (ls : List Level) × Wants true xs (name false (codes "-") ∷ []) ls

-- Behind the tokens xs stands this fault, c being what the next token finds before it. It is met at
-- its place, save that a clause of too many nodes, which has the place of its first token, is met
-- at its end.
pub data FaultBehind (bytes : List ℕ) (xs : List Lexeme) (c : TokenContext) : ℕ → ReadFault
    → Type 0 where
  bad_token : {e : TokenFault} → HasTokenFault bytes c.to e
      → FaultBehind bytes xs c e.place (fault (read_kind_of e.kind) e.place)
  too_deep : {t : Token} {ls : List Level} → IsNext bytes c t → AreOpen bytes xs c t ls
      → max_text_levels < length ls → FaultBehind bytes xs c t.from (fault kind.TooDeep t.from)
  refused_too_deep : {t : Token} {n : ℕ} → IsNext bytes c t
      → (Viable true (xs ++ lexeme bytes c t ∷ []) → ⊥) → OpensLevel xs (lexeme bytes c t) n
      → max_text_levels < n → FaultBehind bytes xs c t.from (fault kind.TooDeep t.from)
  many_arguments : {t : Token} {ls : List Level} {n : ℕ} → IsNext bytes c t
      → AreOpen bytes xs c t (in_argument n ∷ ls) → max_arguments < n
      → FaultBehind bytes xs c t.from (fault kind.ArityTooLarge t.from)
  long_clause : {t : Token} → IsNext bytes c t → max_clause_tokens ≤ c.tokens
      → FaultBehind bytes xs c t.from (fault kind.ClauseTooLong t.from)
  large_number : {t : Token} → IsNext bytes c t → t.kind ≡ Number
      → integer_offset ≤ number_of bytes t → (is_tight c t ≡ true → EndsInMinus xs → ⊥)
      → FaultBehind bytes xs c t.from (fault kind.NumberTooLarge t.from)
  priority_clash : {t : Token} → IsNext bytes c t → (Viable true (xs ++ lexeme bytes c t ∷ []) → ⊥)
      → Viable false (xs ++ lexeme bytes c t ∷ [])
      → FaultBehind bytes xs c t.from (fault kind.PriorityClash t.from)
  unexpected_token : {t : Token} → IsNext bytes c t
      → (Viable true (xs ++ lexeme bytes c t ∷ []) → ⊥)
      → (Viable false (xs ++ lexeme bytes c t ∷ []) → ⊥)
      → FaultBehind bytes xs c t.from (fault kind.Unexpected t.from)
  cut_off : {t : Token} → HasToken bytes c.to t → t.kind ≡ Eof
      → ((cs : List ReadClause) → IsText true xs cs → ⊥)
      → FaultBehind bytes xs c (length bytes) (fault kind.Unexpected (length bytes))
  many_nodes : {t : Token} {m : ClauseEnd} (cs : List ReadClause) (w : ReadClause)
      → IsNext bytes c t → lexeme bytes c t ≡ end m → IsText true (xs ++ end m ∷ []) (cs ++ w ∷ [])
      → max_term_nodes < nodes w.term
      → FaultBehind bytes xs c t.from (fault kind.TooManyNodes w.place)

-- the text has this fault: it stands behind tokens with which some text of the grammar begins
pub record HasFault (bytes : List ℕ) (met : ℕ) (f : ReadFault) : Type 0 where
  pub tokens : List Lexeme
  pub context : TokenContext
  pub before : GoesOn bytes text_start tokens context
  pub viable : Viable true tokens
  pub there : FaultBehind bytes tokens context met f

-- the order of faults at one place. Only those of rules and scripts come later, and no two of a
-- token stand at one place
abbrev pub rank : ReadKind → ℕ
rank kind.BadCharacter = 0
rank kind.OpenQuote = 1
rank kind.OpenComment = 2
rank kind.BadEscape = 3
rank kind.NameTooLong = 4
rank kind.LeftOutQuote = 5
rank kind.TooDeep = 6
rank kind.ArityTooLarge = 7
rank kind.ClauseTooLong = 8
rank kind.NumberTooLarge = 9
rank kind.PriorityClash = 10
rank kind.Unexpected = 11
rank kind.TooManyNodes = 12
rank kind.BadDeclaration = 13
rank kind.TwiceDeclared = 14
rank kind.BadClause = 15
rank kind.ItemTooLarge = 16
rank kind.BadScriptItem = 17

-- this is the text's first fault: every other one stands at a later place, or at the same place
-- later in the order
pub record HasFirstFault (bytes : List ℕ) (f : ReadFault) : Type 0 where
  pub met : ℕ
  pub there : HasFault bytes met f
  pub first : (other : ℕ) (g : ReadFault) → HasFault bytes other g → (met < other)
      ⊎ ((met ≡ other) × (rank f.kind ≤ rank g.kind))
