use Rattle.std.proofs.Common.{ap}
use Rattle.ml_reader.specs.inside.parser.Parser as P
use Rattle.ml_reader.proofs.Parsing.LastFrames as V
use Rattle.ml_reader.proofs.parser.another_element.Goals as goal

pub returns : goal.returns
returns c = ap (λ l. V.going (P.expect_term l)) (V.stack_pushed _ _ _ _ c.in_ok-push-2.ensures.items
    (ap P.list_elements (V.back_pushed _ _ _ c.in_ok-push.ensures.items)))
