use Rattle.std.proofs.Common.{arith, ap, ◌∙◌, ◌≡◌, ◌+◌, length}
use Rattle.std.specs.List.{list_all}
use Rattle.std.proofs.lemmas.Result.{IfOk-weaker}
use Rattle.ml_term.specs.Seen.{seen}
use Rattle.ml_term.specs.Tree.{variable, firsts, has, place_in, rename, substitute, variables}
use Rattle.ml_search.specs.inside.Meeting.{variables_met}
use Rattle.ml_search.proofs.Unifying.FirstPlaces.{met_is_firsts, all_known}
use Rattle.ml_search.proofs.unification.rename.rename.Goals as goal

pub renumber-requires-clause-known : goal.renumber-requires-clause-known
renumber-requires-clause-known c =
    let vs = variables (seen c.args.t.now) in
    let met : c.meet.new.met.keys ≡ firsts vs =
    c.in_ok-meet.ensures ∙ ap (λ m. variables_met m vs) c.new-met.ensures.empty ∙ met_is_firsts vs in
    ap (λ m. list_all (λ n. has n m) vs) met ∙ all_known vs

pub renumber-requires-clause-room : goal.renumber-requires-clause-room
renumber-requires-clause-room c =
    let vs = variables (seen c.args.t.now) in
    let met : c.meet.new.met.keys ≡ firsts vs =
    c.in_ok-meet.ensures ∙ ap (λ m. variables_met m vs) c.new-met.ensures.empty ∙ met_is_firsts vs in
    omega (arith, ap length met, c.requires.room)

pub returns-clause-same : goal.returns-clause-same
returns-clause-same c =
    let vs = variables (seen c.args.t.now) in
    let met : c.meet.new.met.keys ≡ firsts vs =
    c.in_ok-meet.ensures ∙ ap (λ m. variables_met m vs) c.new-met.ensures.empty ∙ met_is_firsts vs in
    IfOk-weaker c.renumber.result (λ u. seen u ≡ substitute (λ n. variable (c.args.first + place_in c.meet.new.met.keys n)) (seen c.args.t.now))
    (λ u. seen u ≡ rename c.args.first (seen c.args.t.now))
    (λ u e. e ∙ ap (λ m. substitute (λ n. variable (c.args.first + place_in m n)) (seen c.args.t.now)) met) c.renumber.ensures.same
