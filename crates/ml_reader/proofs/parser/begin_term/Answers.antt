use Rattle.std.proofs.Common.{refl, ap}
use Rattle.ml_reader.specs.inside.parser.Parser as P
use Rattle.ml_reader.proofs.Parsing.LastFrames as V
use Rattle.ml_reader.proofs.parser.begin_term.Goals as goal

pub returns-in-OpenParen : goal.returns-in-OpenParen
returns-in-OpenParen c = rw (c.in-OpenParen.is) (ap (λ l. V.going (P.expect_term l)) (V.stack_pushed _ _ _ _ c.in_ok-push-in-OpenParen.ensures.items refl))
