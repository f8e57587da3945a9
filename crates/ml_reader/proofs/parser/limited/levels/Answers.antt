use Rattle.std.proofs.Common.{ap, arith}
use Rattle.ml_reader.specs.inside.parser.Frames.{state_seen}
use Rattle.ml_reader.specs.inside.parser.LimitedSteps.{levels}
use Rattle.ml_reader.proofs.Parsing.StackDepths.{depth_stack}
use Rattle.ml_reader.proofs.parser.limited.levels.Goals as goal

pub returns-in-ExpectTerm : goal.returns-in-ExpectTerm
returns-in-ExpectTerm c = omega (arith, c.len.ensures, depth_stack c.in-ExpectTerm.frames.items, ap (λ s. levels (state_seen s)) c.in-ExpectTerm.is)

pub returns-in-AfterOpen : goal.returns-in-AfterOpen
returns-in-AfterOpen c = omega (arith, c.len-in-AfterOpen.ensures, depth_stack c.in-AfterOpen.frames.items, ap (λ s. levels (state_seen s)) c.in-AfterOpen.is)
