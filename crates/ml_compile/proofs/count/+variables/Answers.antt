use Rattle.std.proofs.Common.{arith, ap, sym, ◌∙◌}
use Rattle.ml_term.specs.Seen.{seen}
use Rattle.ml_term.specs.Tree.{variables}
use Rattle.ml_term.specs.inside.Reading.{met_after_variables}
use Rattle.ml_compile.proofs.TermParts.{nodes_of_parts, fewer_nodes, met_after_parts, met_after_more}
use Rattle.ml_compile.proofs.count.+variables.Goals as goal

pub after_variables-after_variables_of-requires : goal.after_variables-after_variables_of-requires
after_variables-after_variables_of-requires t c =
    let parts = nodes_of_parts _ _ _ _ _ c.in-Cmp.is c.front_and_last.ensures in
    (omega (arith, parts, c.loop-rest.invariant.small), tt)

pub after_variables-loop-rest-smaller : goal.after_variables-loop-rest-smaller
after_variables-loop-rest-smaller t c =
    let parts = nodes_of_parts _ _ _ _ _ c.in-Cmp.is c.front_and_last.ensures in
    omega (arith, parts)

pub after_variables-loop-rest-preserved : goal.after_variables-loop-rest-preserved
after_variables-loop-rest-preserved t c =
    let parts = nodes_of_parts _ _ _ _ _ c.in-Cmp.is c.front_and_last.ensures in
    record {
      small = omega (arith, parts, c.loop-rest.invariant.small);
      met = ap (λ m. met_after_variables m (variables (seen c.front_and_last.result.1.now))) c.in_ok-met-in-Cmp.ensures
          ∙ sym (met_after_parts _ _ _ _ _ c.in-Cmp.is c.front_and_last.ensures c.loop-rest.met) ∙ c.loop-rest.invariant.met;
    }

pub after_variables_of-after_variables-requires : goal.after_variables_of-after_variables-requires
after_variables_of-after_variables-requires t c =
    let fewer = fewer_nodes _ _ _ c.loop-term-test.true c.term-item.is in
    (omega (arith, fewer), tt)

pub after_variables_of-loop-term-preserved : goal.after_variables_of-loop-term-preserved
after_variables_of-loop-term-preserved t c =
    c.in_ok-met.ensures ∙ ap (λ m. met_after_variables m (variables (seen c.term-item.result))) c.loop-term.invariant
    ∙ sym (met_after_more _ _ _ c.loop-term-test.true c.term-item.is c.args.met)
