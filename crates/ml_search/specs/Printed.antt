-- The bytes of a history, and the order of sessions that bytes show. The code writes a session's
-- block at a time.
use Rattle.std.specs.Prelude.{ℕ, ◌+◌, ◌-◌, ◌*◌, ◌==◌, nat_le, Bool, true, false, ◌&&◌, ◌||◌, List}
use Rattle.std.specs.Prelude.{[], ◌∷◌, ◌++◌, length, take, drop, Option, Some, None, codes}
use Rattle.std.specs.Prelude.{option_map, option_and_then, if◌then◌else◌}
use Rattle.std.specs.List.{flat_map, filter_map, take_while}
use Rattle.std.specs.Str.{bytes_eq}
use Rattle.ml_term.specs.Decimal.{decimal_text}
use Rattle.ml_term.specs.Text.{is_digit}
use Rattle.ml_search.specs.declared.ending.Ending.{Ending}
use Rattle.ml_search.specs.declared.ending.EntryEnding.{EntryEnding}
use Rattle.ml_search.specs.declared.ending.EntryEnding.TheVariants.{Committed, Aborted, Refused}
use Rattle.ml_search.specs.declared.ending.EntryEnding.TheVariants.{Failed, OutOfMemory}
use Rattle.ml_search.specs.Session.{Session, line, line_feed}
use Rattle.ml_search.specs.History.{Entry}
use Rattle.ml_search.specs.Endings.{entry_ending}

-- how the line of an entry tells its ending
abbrev pub entry_text : EntryEnding → List ℕ
entry_text Committed = codes "committed"
entry_text Aborted = codes "aborted"
entry_text Refused = codes "refused"
entry_text (Failed j) = codes "failed at goal " ++ decimal_text j
entry_text OutOfMemory = codes "out of memory"

-- how the line of a session's entry tells the session's ending
abbrev pub ending_text : Ending → List ℕ
ending_text ending = entry_text (entry_ending ending)

-- `session K ENDING`
abbrev pub session_line : ℕ → List ℕ → List ℕ
session_line k ending = line (codes "session " ++ decimal_text k ++ codes " " ++ ending)

-- the block of an entry: its line, and the session's lines
abbrev pub block : Entry → List ℕ
block e = by e.ran
  where
    by : Option Session → List ℕ
    by None = session_line e.number (entry_text OutOfMemory)
    by (Some s) = session_line e.number (ending_text s.ending) ++ flat_map (λ l. l) s.lines

-- the blocks of a history's entries, one after another
abbrev pub print_of : List Entry → List ℕ
print_of = flat_map block

-- a byte before the first of some lines; where no line follows, it stands in none
abbrev pub onto_first : ℕ → List (List ℕ) → List (List ℕ)
onto_first b [] = []
onto_first b (l ∷ ls) = (b ∷ l) ∷ ls

-- the lines of some bytes, without their line feeds: bytes after the last line feed are no line
abbrev pub lines_of : List ℕ → List (List ℕ)
lines_of [] = []
lines_of (b ∷ bs) = if b == line_feed then [] ∷ lines_of bs else onto_first b (lines_of bs)

-- what stands behind a text that begins some bytes
abbrev pub text_behind : List ℕ → List ℕ → Option (List ℕ)
text_behind text bs =
    if bytes_eq (take (length text) bs) text then Some (drop (length text) bs)
    else None

-- the digits with which some bytes begin, and their value
abbrev pub digits : List ℕ → List ℕ
digits = take_while is_digit

-- the number that digits spell, behind those that spell n
abbrev pub number_from : ℕ → List ℕ → ℕ
number_from n [] = n
number_from n (b ∷ bs) = number_from (10 * n + (b - 48)) bs

-- whether digits are a number from 1 in decimal, without leading zeros
abbrev pub is_number : List ℕ → Bool
is_number [] = false
is_number (b ∷ bs) = nat_le 49 b

-- whether some bytes are the number of a goal
abbrev pub is_goal_number : Option (List ℕ) → Bool
is_goal_number None = false
is_goal_number (Some j) = is_number j && bytes_eq (digits j) j

-- what an ending's text says: whether it is that of an entry out of memory; nothing where it is the
-- text of no ending
abbrev pub shown_ending : List ℕ → Option Bool
shown_ending bs =
    if bytes_eq bs (codes "out of memory") then Some true
    else if bytes_eq bs (codes "committed") || bytes_eq bs (codes "aborted")
    || bytes_eq bs (codes "refused")
    || is_goal_number (text_behind (codes "failed at goal ") bs) then Some false
    else None

-- a number and an ending, with a space between them
abbrev pub shown_entry : List ℕ → Option (ℕ × Bool)
shown_entry bs =
    if is_number (digits bs)
    then option_map (λ out_of_memory. (number_from 0 (digits bs), out_of_memory))
    (option_and_then shown_ending (text_behind (codes " ") (drop (length (digits bs)) bs)))
    else None

-- the session that a line shows: its number, and whether it was out of memory
abbrev pub shown_session : List ℕ → Option (ℕ × Bool)
shown_session l = option_and_then shown_entry (text_behind (codes "session ") l)

-- the order that the lines beginning with `session` show
abbrev pub order_of : List ℕ → List (ℕ × Bool)
order_of bs = filter_map shown_session (lines_of bs)
