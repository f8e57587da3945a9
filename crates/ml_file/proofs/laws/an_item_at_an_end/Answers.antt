use Rattle.ml_file.proofs.ListSteps.{with_first, with_last}
use Rattle.ml_file.proofs.laws.an_item_at_an_end.Goals as goal

pub returns : goal.returns
returns c = record { last = with_last c.args.kind; first = with_first c.args.kind }
