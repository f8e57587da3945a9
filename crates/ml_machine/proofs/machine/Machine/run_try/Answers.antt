use Rattle.std.proofs.Common.{refl}
use Rattle.ml_machine.proofs.Alternatives.{after_try_calls}
use Rattle.ml_machine.proofs.machine.Machine.run_try.Goals as goal

pub returns : goal.returns
returns c p ps =
    after_try_calls ps p c.args.self.now _ (record { terms = refl; levels = refl; answers = refl; left = refl }) c.args.at
    c.in_ok-other.other c.in_ok-first.first c.args.second c.args.end c.args.ends _ c.in_ok-behind.behind c.in_ok-link.link
    c.in_ok-behind.ensures.frames c.in_ok-other.ensures c.in_ok-first.ensures c.in_ok-link.ensures.frames c.in_ok-link.ensures.link
    (λ w n gs. c.in_ok-behind.ensures.goes_on ps w n gs)
    (λ w e. c.in_ok-push_choice.ensures.pushed ps w e) c.in_ok-push_choice.ensures.one_more
