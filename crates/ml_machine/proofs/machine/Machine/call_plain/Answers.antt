use Rattle.std.specs.Prelude.{map}
use Rattle.std.proofs.Common.{refl, sym, ap, ◌∙◌, subst}
use Rattle.std.proofs.lemmas.Result.{IfOk-weaker}
use Rattle.ml_builtin.specs.Tables.{plain_name}
use Rattle.ml_term.specs.Seen.{seen}
use Rattle.ml_search.specs.Builtins.{builtin}
use Rattle.ml_heap.specs.Changes.{stands_for}
use Rattle.ml_machine.specs.Calls.{IsCall, IsSomeCall}
use Rattle.ml_machine.specs.declared.machine.Machine.{Machine}
use Rattle.ml_machine.proofs.InferencesUsed.{one_used}
use Rattle.ml_machine.proofs.PlainCalled.{plain_cells, plain_exhausted, plain_failed, plain_succeeded, plain_raised, raised_valid, run_done}
use Rattle.ml_machine.proofs.machine.Machine.call_plain.Goals as goal

pub returns-then-self-eq0 : goal.returns-then-self-eq0
returns-then-self-eq0 c p ps f n is written v i =
    plain_exhausted p ps f n c.args.plain c.args.next is c.args.self.now (sym (ap (λ (s : Machine). s.left) c.self.view_is) ∙ c.if-self-eq0.true) written v i

pub run_builtin-requires-clause-many : goal.run_builtin-requires-clause-many
run_builtin-requires-clause-many c =
    let h = c.requires in
    let i = subst (λ (s : Machine). IsSomeCall h.0 h.1 s h.2 h.3 c.args.next) (sym c.self.view_is) h.5 in
    (plain_cells h.0 h.1 h.2 h.3 c.args.plain c.args.next h.4 _ _ c.as_slice-cells.ensures.value i).0

pub run_builtin-requires-clause-inside : goal.run_builtin-requires-clause-inside
run_builtin-requires-clause-inside c =
    let h = c.requires in
    let i = subst (λ (s : Machine). IsSomeCall h.0 h.1 s h.2 h.3 c.args.next) (sym c.self.view_is) h.5 in
    (plain_cells h.0 h.1 h.2 h.3 c.args.plain c.args.next h.4 _ _ c.as_slice-cells.ensures.value i).1

pub raise-requires : goal.raise-requires
raise-requires c =
    raised_valid c.self.inside.0.1.0.heap c.run_builtin.new.heap
    (builtin (plain_name c.args.plain) (map (stands_for c.self.inside.0.1.0.heap) c.as_slice-cells.result.now)) _ c.in-Raised.error c.in-Raised.is
    c.in_ok-outcome.ensures.done

pub returns-in-Failed : goal.returns-in-Failed
returns-in-Failed c p ps f n is written v i =
    plain_failed p ps f n c.args.plain c.args.next is _ _
    (record {
      left = one_used _ c.if-self-eq0.false;
      others = record { terms = refl; levels = refl; answers = refl; left = refl };
      choices = refl;
      memory = refl;
      done = run_done c.self.inside.0.1.0.heap c.run_builtin.new.heap (plain_name c.args.plain) c.as_slice-cells.ensures.value c.in-Failed.is
          c.in_ok-outcome.ensures.done;
      marks = c.run_builtin.ensures.marks;
    }) written v
    (subst (λ (s : Machine). IsCall p ps s written f n c.args.next v) (sym c.self.view_is) i)

pub returns-in-Succeeded : goal.returns-in-Succeeded
returns-in-Succeeded c p ps f n is written v i =
    plain_succeeded p ps f n c.args.plain c.args.next is _ _
    (record {
      left = one_used _ c.if-self-eq0.false;
      others = record { terms = refl; levels = refl; answers = refl; left = refl };
      choices = refl;
      memory = refl;
      done = run_done c.self.inside.0.1.0.heap c.run_builtin.new.heap (plain_name c.args.plain) c.as_slice-cells.ensures.value c.in-Succeeded.is
          c.in_ok-outcome.ensures.done;
      marks = c.run_builtin.ensures.marks;
    }) written v
    (subst (λ (s : Machine). IsCall p ps s written f n c.args.next v) (sym c.self.view_is) i)

pub returns-in-Raised : goal.returns-in-Raised
returns-in-Raised c =
    IfOk-weaker c.raise.result _ _
    (λ then raises p ps f n is written v i.
    raises p ps (seen c.in-Raised.error) refl written v
    (plain_raised p ps f n c.args.plain c.args.next is _ _ c.in-Raised.error
    (record {
      left = one_used _ c.if-self-eq0.false;
      others = record { terms = refl; levels = refl; answers = refl; left = refl };
      choices = refl;
      memory = refl;
      done = run_done c.self.inside.0.1.0.heap c.run_builtin.new.heap (plain_name c.args.plain) c.as_slice-cells.ensures.value c.in-Raised.is
          c.in_ok-outcome.ensures.done;
      marks = c.run_builtin.ensures.marks;
    }) written v
    (subst (λ (s : Machine). IsCall p ps s written f n c.args.next v) (sym c.self.view_is) i)))
    c.raise.ensures
