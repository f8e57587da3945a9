use Rattle.std.proofs.Common.{sym, ap, ◌∙◌, arith}
use Rattle.ml_reader.specs.inside.parser.LimitedSteps.{depth}
use Rattle.ml_reader.proofs.Parsing.LastFrames as V
use Rattle.ml_reader.proofs.Parsing.StackDepths.{depth_stack}
use Rattle.ml_reader.proofs.parser.innermost.levels_left.Goals as goal

pub returns-in-Some-Open-default : goal.returns-in-Some-Open-default
returns-in-Some-Open-default c =
    let h = V.left_open c.args.priority _ _ _ c.in-Some-Open-default.ensures.cases.0 _ c.in-Some-Open-default.field-0-0-is in
    omega (arith, depth_stack c.loop-s.rest.now, ap depth (sym c.loop-s.invariant ∙ h))

pub returns-then-priority-s : goal.returns-then-priority-s
returns-then-priority-s c =
    let h = V.left_prefix c.args.priority _ _ _ c.in-Some-Prefix-default.ensures.cases.0 _ _ c.in-Some-Prefix-default.field-0-0-is c.if-priority-s.true in
    omega (arith, depth_stack c.loop-s.rest.now, ap depth (sym c.loop-s.invariant ∙ h))

pub loop-s-preserved-in-Some-Prefix-default : goal.loop-s-preserved-in-Some-Prefix-default
loop-s-preserved-in-Some-Prefix-default c =
    sym (V.ends_prefix c.args.priority _ _ _ c.in-Some-Prefix-default.ensures.cases.0 _ _ c.in-Some-Prefix-default.field-0-0-is
    (omega (arith, c.if-priority-s.false))) ∙ c.loop-s.invariant

pub returns-then-priority-s-2 : goal.returns-then-priority-s-2
returns-then-priority-s-2 c =
    let h = V.left_infix c.args.priority _ _ _ c.in-Some-Infix-default.ensures.cases.0 _ _ _ c.in-Some-Infix-default.field-0-0-is c.if-priority-s-2.true in
    omega (arith, depth_stack c.loop-s.rest.now, ap depth (sym c.loop-s.invariant ∙ h))

pub loop-s-preserved : goal.loop-s-preserved
loop-s-preserved c =
    sym (V.ends_infix c.args.priority _ _ _ c.in-Some-Infix-default.ensures.cases.0 _ _ _ c.in-Some-Infix-default.field-0-0-is
    (omega (arith, c.if-priority-s-2.false))) ∙ c.loop-s.invariant
