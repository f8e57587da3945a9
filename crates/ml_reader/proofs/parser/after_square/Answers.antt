use Rattle.std.proofs.Common.{◌≡◌, IfOk, ap, ◌∙◌, subst}
use Rattle.ml_term.specs.Tree.{no_trees}
use Rattle.ml_term.specs.Seen.{all_seen}
use Rattle.ml_reader.specs.inside.parser.Parser as P
use Rattle.ml_reader.specs.Seen.{reversed_trees, lexeme_seen}
use Rattle.ml_reader.specs.inside.parser.Frames.{stack, next_seen, few}
use Rattle.ml_reader.proofs.Parsing.LastFrames as V
use Rattle.ml_reader.proofs.parser.after_square.Goals as goal

pub returns-in_ok-push-in_default : goal.returns-in_ok-push-in_default
returns-in_ok-push-in_default c =
    subst (λ n. IfOk c.begin_term.result (λ r. next_seen r ≡ few n))
    (ap (P.begin_term (lexeme_seen c.args.lexeme)) (V.stack_pushed _ _ _ _ c.in_ok-push-in_default.ensures.items
    (ap (λ ts. P.list_elements (reversed_trees (all_seen ts) no_trees)) c.new-in_default.ensures.items))
    ∙ V.square_other c.args.lexeme c.in_default.not-CloseList (stack c.args.frames.items))
    c.begin_term.ensures
