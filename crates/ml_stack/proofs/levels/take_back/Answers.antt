use Rattle.std.proofs.Common.{◌≡◌, List, [], refl, sym, subst, arith}
use Rattle.std.specs.Prelude.{reverse}
use Rattle.std.proofs.lemmas.List.{nil_from_length}
use Rattle.ml_stack.specs.Memories.{CompiledProcedure, IsTree}
use Rattle.ml_stack.specs.Stands.{View, view_of, IsBranch, Stacked}
use Rattle.ml_stack.specs.Levels.{StacksStand}
use Rattle.ml_stack.proofs.WaitingLevels.{last_taken_back, IsTakenBack, no_level}
use Rattle.ml_stack.proofs.levels.take_back.Goals as goal
use Rattle.ml_stack.proofs.levels.take_back.Goals.{In_ok-level}

last : (c : In_ok-level) (ps : List CompiledProcedure) (w : View) → StacksStand ps c.args.memory.now c.args.stacks.now w
    → IsTakenBack ps c.args.memory.now c.in_ok-level.level (reverse c.pop.new.self.items) w.findalls
last c ps w s = last_taken_back ps c.args.stacks.now c.in_ok-level.level c.pop.new.self.items c.in_ok-level.ensures.items s

pub go_back-requires : goal.go_back-requires
go_back-requires c = (last (goal.at.go_back-requires c).In_ok-level c.requires.0 c.requires.1 c.requires.2).moment

pub returns-in_err-level-clause-stands : goal.returns-in_err-level-clause-stands
returns-in_err-level-clause-stands c ps w s =
    let none : c.args.stacks.now.levels.items ≡ [] = nil_from_length _ (omega (arith, c.args.stacks.now.levels.ok.0, c.in_err-level.ensures.cases.0)) in
    let f = c.from_residual.ensures in
    rw c.from_residual.ensures (no_level ps c.args.stacks.now none s)

pub returns-clause-stands : goal.returns-clause-stands
returns-clause-stands c ps w s =
    let p = last (goal.at.returns-clause-stands c).In_ok-level ps w s in
    let g = sym c.go_back.ensures in
    let v : View = view_of c.in_ok-level.level (reverse c.pop.new.self.items) p.os p.o in
    record {
      o = p.o;
      os = p.os;
      findalls = p.waits;
      stands = record { choices = refl; terms = refl; levels = refl; stacked = subst (λ X. Stacked ps X v) g p.stacked };
      branch = subst (λ X. IsBranch ps X v c.in_ok-level.level.next p.o.branch) g p.branch;
      list = subst (λ X. IsTree X c.in_ok-level.level.list p.o.list) g p.list;
    }
