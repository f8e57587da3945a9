-- What is left, with the divisor added where the quotient was truncated up.
use Rattle.std.proofs.Common.{◌<◌, int_rem, unsigned_abs, to_z, of_z, sym, ◌∙◌, ◌+ℤ◌, arith}
use mir.Syntax.{w128}
use Rattle.std.proofs.lemmas.Int.{rem_is, rem_below, to_z-of_z}
use Rattle.ml_arith.specs.inside.Operators.{is_truncated_up}
use Rattle.ml_arith.proofs.Divisions.{modulo_truncated_up, modulo_elsewhere, size_positive, sum_stays}
use Rattle.ml_arith.proofs.result.floor_rest.Goals as goal

pub returns-then-is_truncated_up : goal.returns-then-is_truncated_up
returns-then-is_truncated_up c =
    let small : unsigned_abs (int_rem c.args.x c.args.y) < unsigned_abs c.args.y = rem_below c.args.x c.args.y (size_positive c.args.y c.requires.divisor) in
    let rest = rem_is w128 c.args.x c.args.y c.ranges.x c.ranges.y in
    let divisor = to_z-of_z w128 c.args.y c.ranges.y in
    let tells = c.is_truncated_up.ensures ∙ (λ i. is_truncated_up (rest i) (divisor i)) in
    (λ i. to_z w128 (of_z w128 (rest i +ℤ divisor i)))
    ∙ (sum_stays (int_rem c.args.x c.args.y) c.args.y (omega (arith, small, c.requires.y)) c.requires.y
    ∙ sym (modulo_truncated_up c.args.x c.args.y c.requires.divisor (sym tells ∙ c.if-is_truncated_up.true)))

pub returns-else-is_truncated_up : goal.returns-else-is_truncated_up
returns-else-is_truncated_up c =
    let rest = rem_is w128 c.args.x c.args.y c.ranges.x c.ranges.y in
    let divisor = to_z-of_z w128 c.args.y c.ranges.y in
    let tells = c.is_truncated_up.ensures ∙ (λ i. is_truncated_up (rest i) (divisor i)) in
    rest ∙ sym (modulo_elsewhere c.args.x c.args.y (sym tells ∙ c.if-is_truncated_up.false))
