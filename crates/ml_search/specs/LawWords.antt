-- Words in which laws of the search, of replays and of prints are said.
use Rattle.std.specs.Prelude.{ℕ, ◌+◌, ◌==◌, nat_lt, nat_le, Bool, true, false, ◌&&◌, not, List, []}
use Rattle.std.specs.Prelude.{length, is_none}
use Rattle.std.specs.List.{list_all}
use Rattle.ml_term.specs.Tree.{atom}
use Rattle.ml_search.specs.Limits.{max_goals}
use Rattle.ml_search.specs.Program.{Goal, Script}
use Rattle.ml_search.specs.Session.{line_feed}
use Rattle.ml_search.specs.History.{Entry}
use Rattle.ml_search.specs.Bodies.{Body, in_body}
use Rattle.ml_search.specs.Actions.{End, end_of_answers, ball, out_of_inferences}
use Rattle.ml_search.specs.Search.{State, Outcome}

-- a body with nothing in place of its terms: its control constructs, and the names of its goals
-- with the numbers of their arguments
abbrev pub outline : Body → Body
outline = in_body (λ t. atom [])

-- a state, and an outcome, with more inferences left
abbrev pub with_more_inferences : ℕ → State → State
with_more_inferences k s = record s { left = s.left + k }

-- an outcome with more inferences left
abbrev pub outcome_with_more : ℕ → Outcome → Outcome
outcome_with_more k o = record o { left = o.left + k }

-- whether a search ended since no inference was left
abbrev pub ran_out : End → Bool
ran_out end_of_answers = false
ran_out (ball t) = false
ran_out out_of_inferences = true

-- whether a text has no line feed
abbrev pub is_one_line : List ℕ → Bool
is_one_line = list_all (λ b. not (b == line_feed))

-- whether no name of a goal's variables has a line feed
abbrev pub names_are_plain : Goal → Bool
names_are_plain g = list_all (λ e. is_one_line e.0) g.names

-- whether this holds of each goal of a script, and there are not too many
abbrev pub is_printable : Script → Bool
is_printable s = list_all names_are_plain s.goals && nat_le (length s.goals) max_goals

-- whether an order names sessions by numbers from 1 that fit 32 bits
abbrev pub are_session_numbers : List (ℕ × Bool) → Bool
are_session_numbers = list_all (λ o. nat_le 1 o.0 && nat_lt o.0 4294967296)

-- what an entry's line is to show: its number, and whether it was out of memory
abbrev pub order_entry : Entry → ℕ × Bool
order_entry e = (e.number, is_none e.ran)
