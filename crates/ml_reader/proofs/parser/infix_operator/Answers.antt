use Rattle.std.proofs.Common.{refl, sym, ap, ◌∙◌, arith}
use Rattle.ml_reader.proofs.Parsing.LastFrames as V
use Rattle.std.specs.Prelude.{◌≤◌, ◌<◌}
use Rattle.ml_term.specs.Seen.{seen}
use Rattle.ml_reader.specs.inside.parser.Parser as P
use Rattle.ml_reader.specs.Seen.{operator_seen}
use Rattle.ml_reader.specs.inside.parser.Frames.{stack, few}
use Rattle.ml_reader.proofs.parser.infix_operator.Goals as goal

pub returns-then-p-s : goal.returns-then-p-s
returns-then-p-s c =
    let h : c.args.s.priority ≤ P.limit (stack c.loop-alloc.frames.items) = omega (arith, ap (λ l. P.limit (stack l)) c.as_slice.ensures.value) in
    ap (λ l. V.going (P.expect_term l)) (V.stack_pushed _ _ _ _ c.in_ok-push.ensures.items refl)
    ∙ ap few (sym (V.operated_placed (operator_seen c.loop-alloc.name c.args.s) _ (seen c.loop-alloc.t) _ h c.if-p-s.true) ∙ c.loop-alloc.invariant)

pub returns-then-s-limit : goal.returns-then-s-limit
returns-then-s-limit c =
    let h : c.args.s.priority ≤ P.limit (stack c.loop-alloc.frames.items) = omega (arith, ap (λ l. P.limit (stack l)) c.as_slice.ensures.value) in
    ap few (sym (V.operated_clash (operator_seen c.loop-alloc.name c.args.s) c.loop-alloc.p (seen c.loop-alloc.t) (stack c.loop-alloc.frames.items) h
    c.if-p-s.false) ∙ c.loop-alloc.invariant)

pub loop-alloc-preserved-in-Some-Prefix : goal.loop-alloc-preserved-in-Some-Prefix
loop-alloc-preserved-in-Some-Prefix c =
    let h : P.limit (stack c.loop-alloc.frames.items) < c.args.s.priority = omega (arith, ap (λ l. P.limit (stack l)) c.as_slice.ensures.value) in
    V.operated_before _ _ _ _ _ c.in-Some-Prefix.ensures.items (operator_seen c.loop-alloc.name c.args.s) c.loop-alloc.p _ _ c.in-Some-Prefix.field-0-is
    c.in_ok-t-in-Some-Prefix.ensures h ∙ c.loop-alloc.invariant

pub loop-alloc-preserved : goal.loop-alloc-preserved
loop-alloc-preserved c =
    let h : P.limit (stack c.loop-alloc.frames.items) < c.args.s.priority = omega (arith, ap (λ l. P.limit (stack l)) c.as_slice.ensures.value) in
    V.operated_between _ _ _ _ _ c.in-Some-Infix.ensures.items (operator_seen c.loop-alloc.name c.args.s) c.loop-alloc.p _ _ _ c.in-Some-Infix.field-0-is
    c.in_ok-t-in-Some-Infix.ensures h ∙ c.loop-alloc.invariant

pub returns-in-Some-Open : goal.returns-in-Some-Open
returns-in-Some-Open c =
    let h : P.limit (stack c.loop-alloc.frames.items) < c.args.s.priority = omega (arith, ap (λ l. P.limit (stack l)) c.as_slice.ensures.value) in
    ap few (V.operated_open _ _ _ c.loop-alloc.t c.loop-alloc.t c.in-Some-Open.ensures.items (operator_seen c.loop-alloc.name c.args.s) c.loop-alloc.p _
    c.in-Some-Open.field-0-is h ∙ c.loop-alloc.invariant)

pub returns-in-None : goal.returns-in-None
returns-in-None c =
    let h : P.limit (stack c.loop-alloc.frames.items) < c.args.s.priority = omega (arith, ap (λ l. P.limit (stack l)) c.as_slice.ensures.value) in
    ap few (V.operated_empty (operator_seen c.loop-alloc.name c.args.s) c.loop-alloc.p (seen c.loop-alloc.t) c.loop-alloc.frames.items
    (omega (arith, c.in-None.ensures.cases.0)) h ∙ c.loop-alloc.invariant)
