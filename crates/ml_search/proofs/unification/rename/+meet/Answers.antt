use Rattle.std.proofs.Common.{arith, ap, sym, ◌∙◌, ◌≡◌, ◌∷◌, [], take}
use Rattle.ml_term.specs.Seen.{seen, all_seen}
use Rattle.ml_term.specs.Tree.{variables, variables_of, trees_of}
use Rattle.ml_term.proofs.CompoundTrees.{seen_variable}
use Rattle.ml_search.specs.inside.Meeting.{variables_met}
use Rattle.ml_search.proofs.Unifying.FirstPlaces.{met_after-append, variables_more}
use Rattle.ml_search.proofs.Unifying.KeysFound.{key_is_met}
use Rattle.ml_search.proofs.Unifying.TermsBuilt.{one_more_taken, fewer_nodes}
use Rattle.ml_search.proofs.unification.rename.+meet.Goals as goal

pub meet-returns-in_ok-insert-in-Var : goal.meet-returns-in_ok-insert-in-Var
meet-returns-in_ok-insert-in-Var t c =
    let met = c.args.met.now.keys in
    let n = c.in-Var.n in
    let is : variables (seen c.args.t.now) ≡ n ∷ [] = ap (λ x. variables (seen x)) c.in-Var.is ∙ ap variables (seen_variable n) in
    c.in_ok-insert-in-Var.ensures.keys ∙ key_is_met n met ∙ sym (ap (variables_met met) is)

pub meet_all-meet-requires : goal.meet_all-meet-requires
meet_all-meet-requires t c =
    let fewer = fewer_nodes c.args.ts.now c.loop-t.t-index c.t-item.result c.loop-t-test.true c.t-item.is in
    (omega (arith, fewer), tt)

pub meet_all-loop-t-preserved : goal.meet_all-loop-t-preserved
meet_all-loop-t-preserved t c =
    let ts = c.args.ts.now in
    let i = c.loop-t.t-index in
    let x = c.t-item.result in
    let met = c.args.met.now.keys in
    let front = variables_of (trees_of (all_seen (take i ts))) in
    c.in_ok-meet.ensures
    ∙ ap (λ m. variables_met m (variables (seen x))) c.loop-t.invariant
    ∙ sym
    (ap (λ us. variables_met met (variables_of (trees_of (all_seen us)))) (one_more_taken ts i x c.loop-t-test.true c.t-item.is)
    ∙ ap (variables_met met) (variables_more (take i ts) x) ∙ met_after-append met front (variables (seen x)))
