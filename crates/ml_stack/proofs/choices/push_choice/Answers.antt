use Rattle.std.proofs.Common.{◌∷◌, sym, ap, ◌∙◌, subst, refl}
use Rattle.std.specs.Prelude.{reverse}
use Rattle.ml_stack.specs.Memories.{now_of}
use Rattle.ml_stack.specs.Stands.{with_stacks, Stacked}
use Rattle.ml_stack.proofs.ListEnds.{reverse_more}
use Rattle.ml_stack.proofs.ChoicePoints.{pushed_stands}
use Rattle.ml_stack.proofs.choices.push_choice.Goals as goal

pub returns-clause-pushed : goal.returns-clause-pushed
returns-clause-pushed c ps w e s i = record {
  seen = refl;
  stacked =
      let k =
      reverse_more c.args.choices.now.items c.push.new.self.items
      (record { moment = c.now-moment.result; left = c.args.left }) c.in_ok-push.ensures.items in
      subst (λ cs. Stacked ps c.args.memory.now (with_stacks w cs (e ∷ w.choice_points)))
      (ap (λ cs. record { moment = now_of c.args.memory.now; left = c.args.left } ∷ cs) s.seen
      ∙ (ap (λ m. record { moment = m; left = c.args.left } ∷ reverse c.args.choices.now.items) (sym c.now-moment.ensures) ∙ sym k))
      (pushed_stands ps c.args.memory.now w c.args.left e i s.stacked);
}
