use Rattle.std.proofs.Common.{◌∙◌}
use Rattle.ml_reader.proofs.Parsing.LastFrames.{list_step}
use Rattle.ml_reader.proofs.parser.building.list_of.Goals as goal

pub loop-t-preserved : goal.loop-t-preserved
loop-t-preserved c = list_step _ _ _ _ _ c.in-Some.ensures.items c.in_ok-end.ensures ∙ c.loop-t.invariant
