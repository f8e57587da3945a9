use Rattle.std.proofs.Common.{◌<◌, [], refl, sym, ◌∙◌, subst, arith}
use Rattle.ml_heap.specs.Changes.{cell_count}
use Rattle.ml_stack.specs.Memories.{Contents, Grows}
use Rattle.ml_term.specs.Seen.{seen}
use Rattle.ml_machine.specs.BallsCaught.{IsTried}
use Rattle.ml_machine.proofs.BallsThrown.{catch_facts, after_catching, after_not_catching}
use Rattle.ml_machine.proofs.machine.Machine.throw_at_catch.Goals as goal

pub go_back-requires : goal.go_back-requires
go_back-requires c = (catch_facts c.requires).moment

pub catches-requires-clause-valid : goal.catches-requires-clause-valid
catches-requires-clause-valid c = (catch_facts c.requires).valid

pub catches-requires-clause-inside : goal.catches-requires-clause-inside
catches-requires-clause-inside c =
    let inside : c.args.catcher < cell_count c.go_back.new.self.heap =
    subst (λ (M : Contents). c.args.catcher < cell_count M.heap) (sym c.go_back.ensures) (catch_facts c.requires).inside in
    omega (arith, inside, c.in_ok-count_up_to.ensures.grows.heap.cells)

pub returns-then-caught : goal.returns-then-caught
returns-then-caught c p ps i frame =
    after_catching ps p c.args.self.now _ (record { terms = refl; levels = refl; answers = refl; left = refl }) c.args.ball i c.args.height c.args.catcher
    c.args.recovery c.args.next c.args.moment frame (λ w s. c.cut_choices.ensures ps w s) c.count_up_to.new.memory
    (subst (λ M. Grows M c.count_up_to.new.memory []) c.go_back.ensures c.in_ok-count_up_to.ensures.grows)
    (c.in_ok-count_up_to.ensures.counted ∙ c.created-count.ensures)
    (subst (λ b. IsTried c.count_up_to.new.memory c.catches.new.memory (seen c.args.ball) c.args.catcher b) c.if-caught.true c.in_ok-caught.ensures)

pub returns : goal.returns
returns c p ps i frame =
    after_not_catching ps p c.args.self.now _ (record { terms = refl; levels = refl; answers = refl; left = refl }) c.args.ball i c.args.height c.args.catcher
    c.args.recovery c.args.next c.args.moment frame (λ w s. c.cut_choices.ensures ps w s) c.count_up_to.new.memory
    (subst (λ M. Grows M c.count_up_to.new.memory []) c.go_back.ensures c.in_ok-count_up_to.ensures.grows)
    (c.in_ok-count_up_to.ensures.counted ∙ c.created-count.ensures)
    (subst (λ b. IsTried c.count_up_to.new.memory c.catches.new.memory (seen c.args.ball) c.args.catcher b) c.if-caught.false c.in_ok-caught.ensures)
