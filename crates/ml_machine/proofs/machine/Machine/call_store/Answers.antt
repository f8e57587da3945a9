use Rattle.std.proofs.Common.{ℕ, ◌<◌, refl, sym, ap, ◌∙◌, subst, arith}
use Rattle.std.proofs.lemmas.Result.{IfOk-weaker}
use Rattle.ml_heap.specs.Changes.{cell_count}
use Rattle.ml_program.specs.LoadedProgram.{program_of, procedures_of}
use Rattle.ml_machine.specs.Calls.{IsCall, IsSomeCall}
use Rattle.ml_machine.specs.declared.machine.Machine.{Machine}
use Rattle.ml_machine.proofs.InferencesUsed.{one_used}
use Rattle.ml_machine.proofs.StoresCalled.{store_argument, store_checked, store_exhausted}
use Rattle.ml_machine.proofs.machine.Machine.call_store.Goals as goal

pub returns-then-self-eq0 : goal.returns-then-self-eq0
returns-then-self-eq0 c f n is written v i =
    store_exhausted (program_of c.args.program.now) (procedures_of c.args.program.now) f n c.args.call c.args.next is c.args.self.now
    (sym (ap (λ (s : Machine). s.left) c.self.view_is) ∙ c.if-self-eq0.true) written v i

pub argument-argument-requires : goal.argument-argument-requires
argument-argument-requires c =
    let p = program_of c.args.program.now in
    let ps = procedures_of c.args.program.now in
    let h = c.requires in
    let i = subst (λ (s : Machine). IsSomeCall p ps s h.0 h.1 c.args.next) (sym c.self.view_is) h.3 in
    omega (arith, (store_argument p ps h.0 h.1 c.args.call c.args.next h.2 _ i).0, c.self.inside.0.1.1.1.1.1.0.ok.0)

pub store_goal-requires : goal.store_goal-requires
store_goal-requires c =
    let p = program_of c.args.program.now in
    let ps = procedures_of c.args.program.now in
    let h = c.requires in
    let i = subst (λ (s : Machine). IsSomeCall p ps s h.0 h.1 c.args.next) (sym c.self.view_is) h.3 in
    subst (λ (r : ℕ). r < cell_count c.self.inside.0.1.0.heap) (sym c.argument-argument.ensures)
    (store_argument p ps h.0 h.1 c.args.call c.args.next h.2 _ i).1

pub run_store_goal-requires : goal.run_store_goal-requires
run_store_goal-requires c =
    let p = program_of c.args.program.now in
    let ps = procedures_of c.args.program.now in
    let h = c.requires in
    let made = c.in_ok-goal.ensures in (
      p,
      ps,
      h.3.0,
      h.3.1,
      store_checked p ps h.0 h.1 c.args.call c.args.next h.2 _ _ c.in_ok-goal.goal c.argument-argument.result (one_used _ c.if-self-eq0.false)
          (record { terms = refl; levels = refl; answers = refl; left = refl }) refl refl made.grown made.counted c.argument-argument.ensures made.is
          h.3.0 h.3.1
          (subst (λ (s : Machine). IsCall p ps s h.3.0 h.0 h.1 c.args.next h.3.1) (sym c.self.view_is) h.3.2),
    )

pub returns : goal.returns
returns c =
    let p = program_of c.args.program.now in
    let ps = procedures_of c.args.program.now in
    let made = c.in_ok-goal.ensures in
    IfOk-weaker c.run_store_goal.result _ _
    (λ then stores f n is written v i.
    stores p ps written v
    (store_checked p ps f n c.args.call c.args.next is _ _ c.in_ok-goal.goal c.argument-argument.result (one_used _ c.if-self-eq0.false)
    (record { terms = refl; levels = refl; answers = refl; left = refl }) refl refl made.grown made.counted c.argument-argument.ensures made.is written v
    (subst (λ (s : Machine). IsCall p ps s written f n c.args.next v) (sym c.self.view_is) i)))
    c.run_store_goal.ensures
