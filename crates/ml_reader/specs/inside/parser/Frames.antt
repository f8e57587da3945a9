-- What the parser's frames and states stand for. The clauses before are left out: the stack begins
-- with none. No public clause cites this module.
use Rattle.std.specs.Prelude.{Bool, false, nat_le, if◌then◌else◌, List, [], ◌∷◌, Result, Ok, Err}
use Rattle.ml_term.specs.Limits.{max_arguments}
use Rattle.ml_term.specs.Tree.{no_trees, arity}
use Rattle.ml_term.specs.Seen.{seen, all_seen}
use Rattle.ml_reader.specs.inside.parser.Parser as P
use Rattle.ml_reader.specs.inside.parser.Parser.{◌▹◌}
use Rattle.ml_reader.specs.Seen.{reversed_trees, operator_seen, read_seen}
use Rattle.ml_reader.specs.declared.parser.frames.Bracket.{Bracket}
use Rattle.ml_reader.specs.declared.parser.frames.Bracket.TheVariants as B
use Rattle.ml_reader.specs.declared.parser.frames.Frame.{Frame}
use Rattle.ml_reader.specs.declared.parser.frames.Frame.TheVariants as F
use Rattle.ml_reader.specs.declared.parser.frames.State.{State}
use Rattle.ml_reader.specs.declared.parser.frames.State.TheVariants as S
use Rattle.ml_reader.specs.declared.parser.frames.Refusal.{Refusal}
use Rattle.ml_reader.specs.declared.parser.frames.Refusal.TheVariants as R
use Rattle.ml_reader.specs.declared.parser.frames.Next.{Next}
use Rattle.ml_reader.specs.declared.parser.frames.Next.TheVariants as N

-- an open bracket
abbrev pub bracket_seen : Bracket → P.Frame
bracket_seen B.Parens = P.parens
bracket_seen B.Braces = P.braces
bracket_seen (B.Arguments a) = P.arguments a.name (reversed_trees (all_seen a.items.items) no_trees)
bracket_seen (B.ListElements ts) = P.list_elements (reversed_trees (all_seen ts.items) no_trees)
bracket_seen (B.ListTail ts) = P.list_tail (reversed_trees (all_seen ts.items) no_trees)

-- a frame
abbrev pub frame_seen : Frame → P.Frame
frame_seen (F.Prefix f s) = P.prefix_frame f (operator_seen f s)
frame_seen (F.Infix f s t) = P.infix_frame (operator_seen f s) (seen t)
frame_seen (F.Open b) = bracket_seen b

-- the last frame of the vector is the first of the stack
abbrev pub stack_on : List Frame → P.Stack → P.Stack
stack_on [] gs = gs
stack_on (f ∷ fs) gs = stack_on fs (frame_seen f ▹ gs)

-- frames over no clauses
abbrev pub stack : List Frame → P.Stack
stack fs = stack_on fs (P.root [])

-- a state
abbrev pub state_seen : State → P.State
state_seen (S.ExpectTerm fs) = P.expect_term (stack fs.items)
state_seen (S.AfterOpen k fs) = P.after_open k (stack fs.items)
state_seen (S.AfterName m f fs) = P.after_name m f (stack fs.items)
state_seen (S.AfterTerm p t fs) = P.after_term p (seen t) (stack fs.items)

-- what a step comes to
abbrev pub next_seen : Next → Result P.State Refusal
next_seen (N.Go s) = Ok (state_seen s)
next_seen (N.Clause r) = Ok (P.expect_term (P.root (read_seen r ∷ [])))
next_seen (N.Stop k) = Err k

-- an argument is wanted behind as many others as there may be
abbrev pub has_many : P.State → Bool
has_many (P.expect_term (P.arguments f ts ▹ fs)) = nat_le max_arguments (arity ts)
has_many s = false

-- why the parser stops
abbrev pub refusal : P.Fault → Refusal
refusal P.clash = R.Clash
refusal P.unexpected = R.Unexpected

-- no step begins an argument too many
abbrev pub few : P.Next → Result P.State Refusal
few (Ok s) = if has_many s then Err R.ManyArguments else Ok s
few (Err k) = Err (refusal k)
