use Rattle.std.proofs.Common.{◌≡◌, ◌+◌, sym, ap, ◌∙◌, arith}
use Rattle.ml_reader.specs.Seen.{lexeme_seen}
use Rattle.ml_reader.specs.inside.parser.Frames.{stack, state_seen}
use Rattle.ml_reader.specs.inside.parser.LimitedSteps.{depth, bracket_past, token_past}
use Rattle.ml_reader.proofs.Parsing.StackDepths.{depth_stack}
use Rattle.ml_reader.proofs.parser.limited.token_past.Goals as goal

pub returns-in-ExpectTerm : goal.returns-in-ExpectTerm
returns-in-ExpectTerm c =
    let e : c.len.result ≡ depth (stack c.in-ExpectTerm.frames.items) = omega (arith, c.len.ensures, depth_stack c.in-ExpectTerm.frames.items) in
    c.bracket_past.ensures
    ∙ (ap (λ n. bracket_past (lexeme_seen c.args.lexeme.now) n) e
    ∙ ap (λ s. token_past c.args.prefix (state_seen s) (lexeme_seen c.args.lexeme.now)) (sym c.in-ExpectTerm.is))

pub returns-in-AfterOpen : goal.returns-in-AfterOpen
returns-in-AfterOpen c =
    let e : c.len-in-AfterOpen.result ≡ depth (stack c.in-AfterOpen.frames.items) =
    omega (arith, c.len-in-AfterOpen.ensures, depth_stack c.in-AfterOpen.frames.items) in
    c.bracket_past-in-AfterOpen.ensures
    ∙ (ap (λ n. bracket_past (lexeme_seen c.args.lexeme.now) (1 + n)) e
    ∙ ap (λ s. token_past c.args.prefix (state_seen s) (lexeme_seen c.args.lexeme.now)) (sym c.in-AfterOpen.is))
