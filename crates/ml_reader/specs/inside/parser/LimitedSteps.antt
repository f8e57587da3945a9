-- The limits of a text, and the parser with them. No public clause cites this module.
use Rattle.std.specs.Prelude.{ℕ, ◌+◌, Bool, true, false, ◌&&◌, not, nat_le, nat_lt, if◌then◌else◌}
use Rattle.std.specs.Prelude.{List, [], ◌∷◌, Option, Some, None, Result, Ok, Err}
use Rattle.ml_term.specs.Tree.{nodes}
use Rattle.ml_reader.specs.Lexemes.{Lexeme, number}
use Rattle.ml_reader.specs.Operators.{Operator, prefix_of, is_operator, infix_at, closes}
use Rattle.ml_reader.specs.Grammar.{joins}
use Rattle.ml_reader.specs.Levels.{is_opening}
use Rattle.ml_reader.specs.inside.parser.Parser.{prefix_frame, infix_frame, Stack, root, ◌▹◌}
use Rattle.ml_reader.specs.inside.parser.Parser.{State, expect_term, after_open, after_name}
use Rattle.ml_reader.specs.inside.parser.Parser.{after_term, commas, step}
use Rattle.ml_reader.specs.inside.parser.Frames.{few}
use Rattle.ml_reader.specs.declared.parser.frames.Refusal.{Refusal}
use Rattle.ml_reader.specs.declared.parser.frames.Refusal.TheVariants.{Clash, Unexpected as Stray}
use Rattle.ml_reader.specs.declared.parser.frames.Refusal.TheVariants.{ManyArguments}
use Rattle.ml_reader.specs.declared.fault.ReadFault.{ReadFault}
use Rattle.ml_reader.specs.declared.fault.ReadKind.{ReadKind}
use Rattle.ml_reader.specs.declared.fault.ReadKind.TheVariants.{NumberTooLarge, TooDeep}
use Rattle.ml_reader.specs.declared.fault.ReadKind.TheVariants.{ArityTooLarge, ClauseTooLong}
use Rattle.ml_reader.specs.declared.fault.ReadKind.TheVariants.{PriorityClash, Unexpected}
use Rattle.ml_reader.specs.declared.fault.ReadKind.TheVariants.{TooManyNodes}
use Rattle.ml_term.specs.Limits.{max_term_nodes, integer_offset}
use Rattle.ml_reader.specs.Limits.{max_text_levels, max_clause_tokens}
use Rattle.ml_reader.specs.declared.parser.limited.TokenPlace.{TokenPlace}

-- how many frames a stack has
abbrev pub depth : Stack → ℕ
depth (root cs) = 0
depth (f ▹ fs) = 1 + depth fs

-- how many levels are open where a term may begin
abbrev pub levels : State → ℕ
levels (expect_term fs) = depth fs
levels (after_open k fs) = 1 + depth fs
levels (after_name m f fs) = 0
levels (after_term p t fs) = 0

-- a prefix operator, if it is one, opens a level past the limit
abbrev pub opens_past : Option Operator → Stack → Bool
opens_past None fs = false
opens_past (Some o) fs = nat_le max_text_levels (depth fs)

-- the name that was read last opens a level past the limit, if it is a prefix operator
abbrev pub name_too_deep : State → Bool
name_too_deep (after_name m f fs) = opens_past (prefix_of f) fs
name_too_deep s = false

-- the token makes a prefix operator of the name that was read last
abbrev pub makes_prefix : State → Lexeme → Bool
makes_prefix (after_name m f fs) x = not (joins m (x ∷ [])) && not (closes x) && is_operator f
makes_prefix s x = false

-- the frames that stay when an infix operator of this priority comes
abbrev pub frames_left : ℕ → Stack → Stack
frames_left p (prefix_frame f o ▹ fs) =
    if nat_le p o.right then prefix_frame f o ▹ fs else frames_left p fs
frames_left p (infix_frame o t ▹ fs) =
    if nat_le p o.right then infix_frame o t ▹ fs else frames_left p fs
frames_left p fs = fs

-- a bracket opens a level past the limit where so many are open
abbrev pub bracket_past : Lexeme → ℕ → Bool
bracket_past x n = is_opening x && nat_le max_text_levels n

-- behind an operand an infix operator, if the token is one, or a bracket opens a level past the
-- limit
abbrev pub operator_past : Option Operator → Lexeme → Stack → Bool
operator_past None x fs = bracket_past x (depth fs)
operator_past (Some o) x fs = nat_le max_text_levels (depth (frames_left o.priority fs))

-- behind an operand the token opens a level past the limit
abbrev pub past_operand : Lexeme → Stack → Bool
past_operand x fs = operator_past (infix_at (commas fs) x) x fs

-- behind an operator's name that is no atom, a prefix operator if it is one, a bracket opens a
-- level past the limit
abbrev pub past_prefix : Option Operator → Lexeme → Stack → Bool
past_prefix None x fs = bracket_past x (depth fs)
past_prefix (Some o) x fs = bracket_past x (1 + depth fs)

-- behind a name that is an operator and no atom, or else an operand
abbrev pub past_name : Bool → List ℕ → Lexeme → Stack → Bool
past_name true f x fs = past_prefix (prefix_of f) x fs
past_name false f x fs = past_operand x fs

-- the token opens a level past the limit, as a bracket or an infix operator; k: it makes a prefix
-- operator of the name before it, if that is one
abbrev pub token_past : Bool → State → Lexeme → Bool
token_past k (expect_term fs) x = bracket_past x (depth fs)
token_past k (after_open j fs) x = bracket_past x (1 + depth fs)
token_past k (after_name m f fs) x = past_name k f x fs
token_past k (after_term p t fs) x = past_operand x fs

-- the token opens a level past the limit where it stands, which also tells whether it makes a
-- prefix operator of the name before it
abbrev pub token_too_deep : State → Lexeme → Bool
token_too_deep s x = token_past (makes_prefix s x) s x

-- a number that directly follows, or not, is one with the bare `-` that was read last
abbrev pub joins_minus : State → Bool → Bool
joins_minus (after_name m f fs) tight = m && tight
joins_minus s tight = false

-- a number that is in range only behind a minus, and isn't one with it
abbrev pub is_lone : State → Lexeme → Bool
is_lone s (number tight n) = nat_le integer_offset n && not (joins_minus s tight)
is_lone s x = false

-- what a token comes to: a state, a fault, or a name that is one token too many and that opens a
-- level past the limit too, if what follows makes a prefix operator of it
pub data LimitedOutcome : Type 0 where
  to_state : State → LimitedOutcome
  name_over_limit : State → LimitedOutcome
  to_fault : ReadFault → LimitedOutcome

-- the fault at a place
abbrev pub fault_at : ReadKind → ℕ → LimitedOutcome
fault_at kind place = to_fault (record { place = place; kind = kind })

-- a clause that ends has few nodes
abbrev pub clause_within_nodes : State → LimitedOutcome
clause_within_nodes (expect_term (root (c ∷ cs))) = if nat_le (nodes c.term) max_term_nodes then
    to_state (expect_term (root (c ∷ cs))) else fault_at TooManyNodes c.place
clause_within_nodes s = to_state s

-- a token that is one too many
abbrev pub too_many : TokenPlace → State → LimitedOutcome
too_many h s = if name_too_deep s then name_over_limit s else fault_at ClauseTooLong h.place

-- a token that the parser refuses, unless a limit stands before that; deep: it opens a level past
-- the limit
abbrev pub stop_within_limits : TokenPlace → Bool → Bool → ReadKind → LimitedOutcome
stop_within_limits h deep lone kind =
    if deep then fault_at TooDeep h.place
    else (if nat_le max_clause_tokens h.tokens then fault_at ClauseTooLong h.place
    else (if lone then fault_at NumberTooLarge h.place
    else fault_at kind h.place))

-- what the parser makes of a token, within the limits
abbrev pub check_limits : TokenPlace → Bool → Bool → Result State Refusal → LimitedOutcome
check_limits h deep lone (Ok s) =
    if nat_lt max_text_levels (levels s) then fault_at TooDeep h.place
    else (if nat_le max_clause_tokens h.tokens then too_many h s
    else (if lone then fault_at NumberTooLarge h.place
    else clause_within_nodes s))
check_limits h deep lone (Err ManyArguments) = fault_at ArityTooLarge h.place
check_limits h deep lone (Err Clash) = stop_within_limits h deep lone PriorityClash
check_limits h deep lone (Err Stray) = stop_within_limits h deep lone Unexpected

-- the next token within the limits
abbrev pub limited_step : TokenPlace → State → Lexeme → LimitedOutcome
limited_step h s x = if makes_prefix s x && name_too_deep s then fault_at TooDeep h.last else
    check_limits h (token_too_deep s x) (is_lone s x) (few (step true s x))
