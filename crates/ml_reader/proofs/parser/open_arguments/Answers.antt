use Rattle.std.proofs.Common.{ap}
use Rattle.ml_term.specs.Tree.{no_trees}
use Rattle.ml_term.specs.Seen.{all_seen}
use Rattle.ml_reader.specs.inside.parser.Parser as P
use Rattle.ml_reader.specs.Seen.{reversed_trees}
use Rattle.ml_reader.proofs.Parsing.LastFrames as V
use Rattle.ml_reader.proofs.parser.open_arguments.Goals as goal

pub returns : goal.returns
returns c = ap (λ l. V.going (P.expect_term l)) (V.stack_pushed _ _ _ _ c.in_ok-push.ensures.items
    (ap (λ ts. P.arguments c.args.name (reversed_trees (all_seen ts) no_trees)) c.new-items.ensures.items))
