-- One token of a text after another, within the limits. No public clause cites this module.
use Rattle.std.specs.Prelude.{ℕ, Bool, true, false, ◌||◌, if◌then◌else◌, List, length, Result, Ok}
use Rattle.std.specs.Prelude.{Err}
use Rattle.ml_token.specs.inside.Tokens.{first_token}
use Rattle.ml_token.specs.declared.tokens.Token.{Token}
use Rattle.ml_token.specs.declared.tokens.TokenKind.{TokenKind}
use Rattle.ml_token.specs.declared.tokens.TokenKind.TheVariants.{Eof}
use Rattle.ml_token.specs.declared.tokens.TokenFault.{TokenFault}
use Rattle.ml_reader.specs.Tokens.{TokenContext, lexeme, behind}
use Rattle.ml_reader.specs.inside.parser.Parser.{root, State, expect_term}
use Rattle.ml_reader.specs.inside.parser.LimitedSteps.{makes_prefix, name_too_deep, LimitedOutcome}
use Rattle.ml_reader.specs.inside.parser.LimitedSteps.{to_state, name_over_limit, to_fault}
use Rattle.ml_reader.specs.inside.parser.LimitedSteps.{limited_step}
use Rattle.ml_reader.specs.Faults.{read_kind_of, fault}
use Rattle.ml_reader.specs.declared.fault.ReadFault.{ReadFault}
use Rattle.ml_reader.specs.declared.fault.ReadKind.{ReadKind}
use Rattle.ml_reader.specs.declared.fault.ReadKind.TheVariants.{TooDeep, ClauseTooLong, Unexpected}
use Rattle.ml_reader.specs.declared.parser.limited.TokenPlace.{TokenPlace}

-- what a turn comes to: what the next token finds before it with the parser's state, the end of the
-- text between clauses, or the first fault
pub data ReadOutcome : Type 0 where
  reads_on : TokenContext → State → ReadOutcome
  ends_between : ReadOutcome
  finds_fault : ReadFault → ReadOutcome

-- the end of a text
abbrev pub is_eof : TokenKind → Bool
is_eof Eof = true
is_eof k = false

-- the parser stands between clauses
abbrev pub is_between : State → Bool
is_between (expect_term (root cs)) = true
is_between s = false

-- the fault of a name that is one token too many, and that would open a level past the limit, by
-- what follows
abbrev pub over_limit_kind : Bool → ReadKind
over_limit_kind true = TooDeep
over_limit_kind false = ClauseTooLong

-- what follows makes a prefix operator of a name, if it is an operator; the end of the text and a
-- fault do, too
abbrev pub stays_open : List ℕ → TokenContext → State → Result Token TokenFault → Bool
stays_open bytes c s (Err e) = true
stays_open bytes c s (Ok t) = is_eof t.kind || makes_prefix s (lexeme bytes c t)

-- a token is taken
abbrev pub outcome_of_step : List ℕ → TokenContext → LimitedOutcome → ReadOutcome
outcome_of_step bytes c (to_state s) = reads_on c s
outcome_of_step bytes c (name_over_limit s) =
    finds_fault (fault (over_limit_kind (stays_open bytes c s (first_token bytes c.to))) c.last)
outcome_of_step bytes c (to_fault f) = finds_fault f

-- where a token stands
abbrev pub place_at : TokenContext → Token → TokenPlace
place_at c t = record { tokens = c.tokens; last = c.last; place = t.from }

-- the text ends
abbrev pub outcome_at_end : ℕ → TokenContext → State → ReadOutcome
outcome_at_end len c s = if name_too_deep s then finds_fault (fault TooDeep c.last) else
    (if is_between s then ends_between else finds_fault (fault Unexpected len))

-- a token stands here
abbrev pub outcome_at_token : List ℕ → TokenContext → State → Token → ReadOutcome
outcome_at_token bytes c s t = if is_eof t.kind then outcome_at_end (length bytes) c s else
    outcome_of_step bytes (behind bytes c t) (limited_step (place_at c t) s (lexeme bytes c t))

-- what stands here, or its fault
abbrev pub outcome_at : List ℕ → TokenContext → State → Result Token TokenFault → ReadOutcome
outcome_at bytes c s (Ok t) = outcome_at_token bytes c s t
outcome_at bytes c s (Err e) = finds_fault (if name_too_deep s then fault TooDeep c.last else fault
    (read_kind_of e.kind) e.place)

-- one turn
abbrev pub read_outcome : List ℕ → TokenContext → State → ReadOutcome
read_outcome bytes c s = outcome_at bytes c s (first_token bytes c.to)
