use Rattle.std.proofs.Common.{◌≡◌, length, refl, arith}
use Rattle.ml_machine.proofs.Conditions.{after_choose_calls}
use Rattle.ml_machine.proofs.machine.Machine.run_choose.Goals as goal

pub returns : goal.returns
returns c p ps =
    let up : c.len.result ≡ length c.push_choice.new.choices.items = omega (arith, c.len.ensures, c.push_choice.new.choices.ok.0) in
    let height : c.len-height.result ≡ length c.args.self.now.stacks.choices.items = omega (arith, c.len-height.ensures, c.args.self.now.stacks.choices.ok.0) in
    after_choose_calls p ps c.args.self.now _ (record { terms = refl; levels = refl; answers = refl; left = refl }) c.args.at
    c.in_ok-otherwise.otherwise c.in_ok-outcome.outcome c.in_ok-condition.condition c.args.second c.args.third c.args.end c.args.ends _ _ _ _ _
    c.in_ok-behind.behind
    c.in_ok-link.link c.in_ok-taken.taken c.in_ok-decided.decided
    c.in_ok-behind.ensures.frames c.in_ok-otherwise.ensures c.in_ok-outcome.ensures c.in_ok-condition.ensures up
    c.in_ok-link.ensures.frames c.in_ok-link.ensures.link c.in_ok-taken.ensures.frames c.in_ok-taken.ensures.link c.in_ok-decided.ensures.frames
    c.in_ok-decided.ensures.link height
    (λ w n gs. c.in_ok-behind.ensures.goes_on ps w n gs)
    (λ w e. c.in_ok-push_choice.ensures.pushed ps w e) c.in_ok-push_choice.ensures.one_more
