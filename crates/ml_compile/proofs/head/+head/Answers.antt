-- Each instruction matches a term more; a compound stands before its arguments, and its size is told by where the term will end.
use Rattle.std.proofs.Common.{◌≡◌, ◌-◌, FitsSigned, w64, to_z, of_z, length, arith, ap, sym, ◌∙◌, refl, rules, length-append}
use Rattle.std.proofs.lemmas.Int.{to_z-of_z}
use Rattle.ml_term.specs.Seen.{seen}
use Rattle.ml_term.specs.Tree.{integer, atom, nodes, variables}
use Rattle.ml_term.specs.inside.Reading.{are_in_order, met_after_variables}
use Rattle.ml_term.proofs.CompoundTrees.{seen_integer, seen_atom}
use Rattle.ml_compile.proofs.TermParts.{seen_parts, nodes_of_parts, fewer_nodes, seen_more, met_after_parts, met_after_more, parts_in_order, next_in_order, count_of_parts}
use Rattle.ml_compile.proofs.TermsMatched.{matches_none, matches_more, matches_integer, matches_atom, matches_last, matched_so}
use Rattle.ml_compile.proofs.head.+head.Goals as goal

pub match_all-loop-term-init : goal.match_all-loop-term-init
match_all-loop-term-init t c = record { met = refl; matched = matches_none _ _ }

pub match_all-match_term-requires : goal.match_all-match_term-requires
match_all-match_term-requires t c =
    let fewer = fewer_nodes _ _ _ c.loop-term-test.true c.term-item.is in
    let ordered = next_in_order _ _ _ c.loop-term-test.true c.term-item.is c.args.met c.requires in
    (omega (arith, fewer), ap (λ m. are_in_order m (variables (seen c.term-item.result))) c.loop-term.invariant.met ∙ ordered)

pub match_all-loop-term-preserved : goal.match_all-loop-term-preserved
match_all-loop-term-preserved t c = record {
  met = c.in_ok-met.ensures.met ∙ ap (λ m. met_after_variables m (variables (seen c.term-item.result))) c.loop-term.invariant.met
      ∙ sym (met_after_more _ _ _ c.loop-term-test.true c.term-item.is c.args.met);
  matched = rw (seen_more _ _ _ c.loop-term-test.true c.term-item.is) (matches_more _ _ _ _ _ _ _ _ c.loop-term.invariant.matched c.in_ok-met.ensures.matched);
}

pub match_term-returns-in-Int-clause-matched : goal.match_term-returns-in-Int-clause-matched
match_term-returns-in-Int-clause-matched t c =
    let value = c.in-Int.value in
    let fits : FitsSigned w64 value = search rules in
    let same : to_z w64 (of_z w64 value) ≡ value = to_z-of_z w64 value fits in
    c.loop-rest.invariant.awaits _ _
    (matched_so _ _ _ _ _ _ _ (ap seen c.in-Int.is ∙ seen_integer value ∙ ap integer (sym same)) c.in_ok-push-in-Int.ensures.items
    (matches_integer _ c.loop-rest.met (to_z w64 (of_z w64 value))))

pub match_term-returns-in-Atom-clause-matched : goal.match_term-returns-in-Atom-clause-matched
match_term-returns-in-Atom-clause-matched t c =
    let name = c.in_ok-copy_of-in-Atom.field-0 in
    let same : name ≡ c.in-Atom.name = c.in_ok-copy_of-in-Atom.ensures in
    c.loop-rest.invariant.awaits _ _
    (matched_so _ _ _ _ _ _ _ (ap seen c.in-Atom.is ∙ seen_atom c.in-Atom.name ∙ ap atom (sym same)) c.in_ok-push-in-Atom.ensures.items
    (matches_atom _ c.loop-rest.met name))

pub match_term-match_all-requires : goal.match_term-match_all-requires
match_term-match_all-requires t c =
    let parts = nodes_of_parts _ _ _ _ _ c.in-Cmp.is c.front_and_last.ensures in
    let ordered = parts_in_order _ _ _ _ _ c.in-Cmp.is c.front_and_last.ensures c.loop-rest.met c.loop-rest.invariant.in_order in
    (omega (arith, parts, c.loop-rest.invariant.small), ordered.0)

pub match_term-loop-rest-smaller : goal.match_term-loop-rest-smaller
match_term-loop-rest-smaller t c =
    let parts = nodes_of_parts _ _ _ _ _ c.in-Cmp.is c.front_and_last.ensures in
    omega (arith, parts)

pub match_term-loop-rest-preserved : goal.match_term-loop-rest-preserved
match_term-loop-rest-preserved t c =
    let last = c.front_and_last.result.1.now in
    let parts = nodes_of_parts _ _ _ _ _ c.in-Cmp.is c.front_and_last.ensures in
    let tree = seen_parts _ _ _ _ _ c.in-Cmp.is c.front_and_last.ensures in
    let len = count_of_parts _ _ _ _ c.as_slice.ensures.same c.front_and_last.ensures in
    let ordered = parts_in_order _ _ _ _ _ c.in-Cmp.is c.front_and_last.ensures c.loop-rest.met c.loop-rest.invariant.in_order in
    let front = c.in_ok-met-in-Cmp.ensures.matched in
    let here : c.len-in-Cmp.result ≡ length c.loop-rest.code.items = omega (arith, c.len-in-Cmp.ensures, c.loop-rest.code.ok.0) in
    let size : c.in_ok-end.end - c.len-in-Cmp.result ≡ nodes (seen c.loop-rest.rest.now) = omega (arith, here, c.loop-rest.invariant.ends) in
    record {
      small = omega (arith, parts, c.loop-rest.invariant.small);
      in_order = ap (λ m. are_in_order m (variables (seen last))) c.in_ok-met-in-Cmp.ensures.met ∙ ordered.1;
      met = ap (λ m. met_after_variables m (variables (seen last))) c.in_ok-met-in-Cmp.ensures.met
          ∙ sym (met_after_parts _ _ _ _ _ c.in-Cmp.is c.front_and_last.ensures c.loop-rest.met) ∙ c.loop-rest.invariant.met;
      ends = omega (arith, parts, c.loop-rest.invariant.ends, front.count, ap length c.in_ok-push-in-Cmp.ensures.items, length-append c.loop-rest.code.items);
      awaits = λ new after m.
          c.loop-rest.invariant.awaits new after
          (matches_last _ _ _ new _ _ after _ _ _ _ _ _ _ tree c.in_ok-copy_of-in-Cmp.ensures len size c.in_ok-push-in-Cmp.ensures.items front m);
    }
