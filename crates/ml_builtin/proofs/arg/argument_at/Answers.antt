-- A number over 0 and not over the arity names an argument.
use Rattle.std.proofs.Common.{◌≡◌, ◌-◌, ◌+◌, ◌<◌, true, false, length, sym, ◌∙◌, arith}
use Rattle.ml_heap.specs.Changes.{arguments_of, stands_for}
use Rattle.ml_search.specs.Program.{arity_of}
use Rattle.ml_search.specs.TypeTests.{number_of}
use Rattle.ml_builtin.proofs.CellsMade.{argument_at, list_arity}
use Rattle.ml_builtin.proofs.NumberTests.{names_one, over_is, at_most_that, wider, over_arity, names_none}
use Rattle.ml_builtin.proofs.arg.argument_at.Goals as goal

pub number_at-requires-clause-not_negative : goal.number_at-requires-clause-not_negative
number_at-requires-clause-not_negative c = (over_is 0 _ (sym c.is_over.ensures ∙ c.if-is_over.true)).1

pub number_at-requires-clause-small : goal.number_at-requires-clause-small
number_at-requires-clause-small c = wider c.arity_at-arity.result 255 _ (omega arith) (sym c.is_over-then-is_over.ensures ∙ c.if-is_over-2.false)

pub returns-then-is_over-2 : goal.returns-then-is_over-2
returns-then-is_over-2 c =
    names_one (stands_for c.args.heap.now c.args.n) (stands_for c.args.heap.now c.args.t) _ _ (sym c.is_over.ensures ∙ c.if-is_over.true)
    (over_arity _ _ _ _ c.arity_at-arity.ensures (sym c.is_over-then-is_over.ensures ∙ c.if-is_over-2.true))

pub returns-else-is_over : goal.returns-else-is_over
returns-else-is_over c =
    names_none (stands_for c.args.heap.now c.args.n) (stands_for c.args.heap.now c.args.t) (sym c.is_over.ensures ∙ c.if-is_over.false)

pub arg-requires-clause-compound : goal.arg-requires-clause-compound
arg-requires-clause-compound c =
    let n = stands_for c.args.heap.now c.args.n in
    let t = stands_for c.args.heap.now c.args.t in
    let over = over_is 0 n (sym c.is_over.ensures ∙ c.if-is_over.true) in
    let most = at_most_that (arity_of t) n
    (over_arity n t c.arity_at-arity.result false c.arity_at-arity.ensures (sym c.is_over-then-is_over.ensures ∙ c.if-is_over-2.false)) in
    omega (arith, over.2, most, c.number_at.ensures, list_arity t)

pub returns-else-is_over-2 : goal.returns-else-is_over-2
returns-else-is_over-2 c =
    let n = stands_for c.args.heap.now c.args.n in
    let t = stands_for c.args.heap.now c.args.t in
    let over = over_is 0 n (sym c.is_over.ensures ∙ c.if-is_over.true) in
    let wide = over_arity n t c.arity_at-arity.result false c.arity_at-arity.ensures (sym c.is_over-then-is_over.ensures ∙ c.if-is_over-2.false) in
    let most = at_most_that (arity_of t) n wide in
    let place : number_of n ≡ c.number_at.result - 1 + 1 = omega (arith, over.2, c.number_at.ensures) in
    let below : c.number_at.result - 1 < length (arguments_of t) = omega (arith, over.2, most, c.number_at.ensures, list_arity t) in (
      names_one n t true false (sym c.is_over.ensures ∙ c.if-is_over.true) wide,
      c.arg.ensures.inside,
      c.arg.ensures.argument ∙ argument_at t (c.number_at.result - 1) (number_of n) place below,
    )
