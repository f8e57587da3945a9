-- The levels of a vector of frames, and the nodes of what isn't a clause's end.
use Rattle.std.specs.Prelude.{◌≡◌, ℕ, ◌+◌, ◌==◌, ◌≤◌, ◌<◌, Bool, true, false, ◌&&◌, nat_le, if◌then◌else◌, List, [], ◌∷◌, length, Option, Some, None}
use Rattle.std.proofs.Common.{refl, sym, ap, ◌∙◌, arith}
use Rattle.std.proofs.lemmas.Bool.{ne_eqb}
use Rattle.ml_reader.specs.inside.parser.Parser as P
use Rattle.ml_reader.specs.inside.parser.Parser.{◌▹◌}
use Rattle.ml_reader.specs.inside.parser.Frames.{frame_seen, stack_on, stack, state_seen}
use Rattle.ml_reader.specs.inside.parser.LimitedSteps.{depth, frames_left, operator_past, past_operand, to_state, clause_within_nodes}
use Rattle.ml_reader.specs.Limits.{max_text_levels}
use Rattle.ml_reader.specs.Lexemes.{Lexeme}
use Rattle.ml_reader.specs.Operators.{Operator, infix_at}
use Rattle.ml_reader.specs.Levels.{is_opening}
use Rattle.ml_reader.proofs.Parsing.TokensAfterOperands.{leb_not}
use Rattle.ml_reader.specs.inside.parser.Turns.{is_between}
use Rattle.ml_term.specs.declared.name.Name.{Name}
use Rattle.ml_reader.specs.Seen.{lexeme_seen}
use Rattle.ml_reader.specs.declared.parser.lexeme.Lexeme.{Lexeme as Token}
use Rattle.ml_reader.specs.declared.parser.lexeme.Lexeme.TheVariants as T
use Rattle.ml_reader.specs.declared.parser.frames.Frame.{Frame}
use Rattle.ml_reader.specs.declared.parser.frames.State.{State}
use Rattle.ml_reader.specs.declared.parser.frames.State.TheVariants as S

depth_stack_on : (fs : List Frame) (gs : P.Stack) → depth (stack_on fs gs) ≡ length fs + depth gs
depth_stack_on [] gs = omega arith
depth_stack_on (f ∷ fs) gs = let h = depth_stack_on fs (frame_seen f ▹ gs) in omega (arith, h)

-- a vector of frames is as deep as it is long
pub depth_stack : (fs : List Frame) → depth (stack fs) ≡ length fs
depth_stack fs = let h = depth_stack_on fs (P.root []) in omega (arith, h)

unfinished_on : (fs : List Frame) (f : P.Frame) (gs : P.Stack)
    → to_state (P.expect_term (stack_on fs (f ▹ gs))) ≡ clause_within_nodes (P.expect_term (stack_on fs (f ▹ gs)))
unfinished_on [] f gs = refl
unfinished_on (g ∷ fs) f gs = unfinished_on fs (frame_seen g) (f ▹ gs)

unfinished_state : (fs : List Frame) → to_state (P.expect_term (stack fs)) ≡ clause_within_nodes (P.expect_term (stack fs))
unfinished_state [] = refl
unfinished_state (f ∷ fs) = unfinished_on fs (frame_seen f) (P.root [])

-- a state inside a clause has no limit of nodes
pub sized_seen : (s : State) → to_state (state_seen s) ≡ clause_within_nodes (state_seen s)
sized_seen (S.ExpectTerm fs) = unfinished_state fs.items
sized_seen (S.AfterOpen k fs) = refl
sized_seen (S.AfterName m f fs) = refl
sized_seen (S.AfterTerm p t fs) = refl

-- the parser stands between clauses where it has no frames
between_on : (fs : List Frame) (g : P.Frame) (gs : P.Stack) → is_between (P.expect_term (stack_on fs (g ▹ gs))) ≡ false
between_on [] g gs = refl
between_on (f ∷ fs) g gs = between_on fs (frame_seen f) (g ▹ gs)

pub between_stack : (fs : List Frame) → is_between (P.expect_term (stack fs)) ≡ (length fs == 0)
between_stack [] = refl
between_stack (f ∷ fs) = between_on fs (frame_seen f) (P.root []) ∙ sym (ne_eqb (length (f ∷ fs)) 0 (λ e. omega arith))

if_fewer : (k : Bool) (f : P.Frame) (fs gs : P.Stack) → depth gs ≤ depth fs → depth (if k then f ▹ fs else gs) ≤ 1 + depth fs
if_fewer true f fs gs l = omega arith
if_fewer false f fs gs l = omega arith

-- an infix operator leaves no more frames than there are
left_fewer : (p : ℕ) (fs : P.Stack) → depth (frames_left p fs) ≤ depth fs
left_fewer p (P.root cs) = omega arith
left_fewer p (P.prefix_frame f o ▹ fs) = if_fewer (nat_le p o.right) (P.prefix_frame f o) fs _ (left_fewer p fs)
left_fewer p (P.infix_frame o t ▹ fs) = if_fewer (nat_le p o.right) (P.infix_frame o t) fs _ (left_fewer p fs)
left_fewer p (f ▹ fs) = omega arith

-- where few levels are open no token behind an operand opens one past the limit
pub few_past_operand : (x : Lexeme) (fs : P.Stack) → depth fs < max_text_levels → past_operand x fs ≡ false
few_past_operand x fs l = go (infix_at (P.commas fs) x)
  where
    neither : (k : Bool) → (k && false) ≡ false
    neither true = refl
    neither false = refl

    go : (m : Option Operator) → operator_past m x fs ≡ false
    go None = ap (λ k. is_opening x && k) (leb_not max_text_levels (depth fs) l) ∙ neither (is_opening x)
    go (Some o) = leb_not max_text_levels (depth (frames_left o.priority fs)) (let i = left_fewer o.priority fs in omega arith)

-- what is neither a name nor a comma is no infix operator
pub no_operator : (c : Bool) (t : Token) → ((q : Bool) (f : Name) → t ≡ T.Name q f → ⊥) → (t ≡ T.Comma → ⊥) → infix_at c (lexeme_seen t) ≡ None
no_operator c (T.Name q f) h i = absurd (h q f refl)
no_operator c T.Comma h i = absurd (i refl)
no_operator true t h i = refl
no_operator false t h i = refl
