use Rattle.std.proofs.Common.{List, sym, ◌∙◌, subst, refl}
use Rattle.std.specs.Prelude.{reverse}
use Rattle.ml_stack.specs.Memories.{CompiledProcedure}
use Rattle.ml_stack.specs.Stands.{View, with_stacks, IsLeft, Stacked}
use Rattle.ml_stack.specs.Choices.{StandFor}
use Rattle.ml_stack.proofs.ListEnds.{reverse_more}
use Rattle.ml_stack.proofs.ChoicePoints.{popped, Popped}
use Rattle.ml_stack.proofs.choices.take_choice.Goals as goal
use Rattle.ml_stack.proofs.choices.take_choice.Goals.{In_ok-choice}

top : (c : In_ok-choice) (ps : List CompiledProcedure) (w : View) → StandFor ps c.args.memory.now c.args.choices.now.items w
    → Popped ps c.args.memory.now w c.in_ok-choice.choice (reverse c.pop.new.self.items)
top c ps w s = popped ps c.in_ok-choice.choice (reverse c.pop.new.self.items) (s.seen ∙ reverse_more _ _ _ c.in_ok-choice.ensures.items) s.stacked

pub go_back-requires : goal.go_back-requires
go_back-requires c = (top (goal.at.go_back-requires c).In_ok-choice c.requires.0 c.requires.1 c.requires.2).moment

pub returns : goal.returns
returns c ps w s =
    let p = top (goal.at.returns c).In_ok-choice ps w s in
    let e = sym c.go_back.ensures in
    record {
      e = p.e;
      es = p.es;
      choice_points = p.choice_points;
      left_there = subst (λ X. IsLeft ps X (with_stacks w (reverse c.pop.new.self.items) p.es) c.in_ok-choice.choice.left p.e) e p.left;
      below = record { seen = refl; stacked = subst (λ X. Stacked ps X (with_stacks w (reverse c.pop.new.self.items) p.es)) e p.below };
    }
