use Rattle.std.proofs.Common.{arith, ap, sym, ◌∙◌, ◌≡◌, ◌+◌, ◌∷◌, [], take}
use Rattle.ml_term.specs.Seen.{seen}
use Rattle.ml_term.specs.Tree.{variables, variables_of}
use Rattle.ml_term.proofs.CompoundTrees.{seen_variable}
use Rattle.ml_search.specs.Actions.{shift_variables}
use Rattle.ml_search.specs.inside.Meeting.{variables_met}
use Rattle.ml_search.specs.inside.Unifying.{arguments_from}
use Rattle.ml_search.proofs.Unifying.FirstPlaces.{met_after-append}
use Rattle.ml_search.proofs.Unifying.KeysFound.{key_is_met}
use Rattle.ml_search.proofs.Unifying.TermsBuilt.{one_more_taken, fewer_nodes, next_is_valid}
use Rattle.ml_search.proofs.Unifying.VariablesWalked.{variables_more_from}
use Rattle.ml_search.proofs.unification.occurs.+meet_from.Goals as goal

pub meet_from-returns-in_ok-insert-in-Var : goal.meet_from-returns-in_ok-insert-in-Var
meet_from-returns-in_ok-insert-in-Var t c =
    let met = c.args.met.now.keys in
    let n = c.args.base + c.from.result in
    let is : variables (shift_variables c.args.base (seen c.args.t.now)) ≡ n ∷ [] =
    ap (λ x. variables (shift_variables c.args.base x)) (ap seen c.in-Var.is ∙ seen_variable c.in-Var.n)
    ∙ ap (λ k. (c.args.base + k) ∷ []) (sym c.from.ensures) in
    c.in_ok-insert-in-Var.ensures.keys ∙ key_is_met n met ∙ sym (ap (variables_met met) is)

pub meet_all_from-meet_from-requires : goal.meet_all_from-meet_from-requires
meet_all_from-meet_from-requires t c =
    let ts = c.args.ts.now in
    let i = c.loop-t.t-index in
    let fewer = fewer_nodes ts i c.t-item.result c.loop-t-test.true c.t-item.is in
    (omega (arith, fewer), (c.requires.base, next_is_valid ts i c.t-item.result c.loop-t-test.true c.t-item.is c.requires.valid))

pub meet_all_from-loop-t-preserved : goal.meet_all_from-loop-t-preserved
meet_all_from-loop-t-preserved t c =
    let ts = c.args.ts.now in
    let i = c.loop-t.t-index in
    let x = c.t-item.result in
    let met = c.args.met.now.keys in
    let base = c.args.base in
    let front = variables_of (arguments_from base (take i ts)) in
    c.in_ok-meet_from.ensures
    ∙ ap (λ m. variables_met m (variables (shift_variables base (seen x)))) c.loop-t.invariant
    ∙ sym
    (ap (λ us. variables_met met (variables_of (arguments_from base us))) (one_more_taken ts i x c.loop-t-test.true c.t-item.is)
    ∙ ap (variables_met met) (variables_more_from base (take i ts) x) ∙ met_after-append met front (variables (shift_variables base (seen x))))
