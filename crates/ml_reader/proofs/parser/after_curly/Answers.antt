use Rattle.std.proofs.Common.{◌≡◌, IfOk, refl, ap, ◌∙◌, subst}
use Rattle.ml_reader.specs.inside.parser.Parser as P
use Rattle.ml_reader.specs.Seen.{lexeme_seen}
use Rattle.ml_reader.specs.inside.parser.Frames.{stack, next_seen, few}
use Rattle.ml_reader.proofs.Parsing.LastFrames as V
use Rattle.ml_reader.proofs.parser.after_curly.Goals as goal

pub returns-in_ok-push-in_default : goal.returns-in_ok-push-in_default
returns-in_ok-push-in_default c =
    subst (λ n. IfOk c.begin_term.result (λ r. next_seen r ≡ few n))
    (ap (P.begin_term (lexeme_seen c.args.lexeme)) (V.stack_pushed _ _ _ _ c.in_ok-push-in_default.ensures.items refl)
    ∙ V.curly_other c.args.lexeme c.in_default.not-CloseCurly (stack c.args.frames.items))
    c.begin_term.ensures
