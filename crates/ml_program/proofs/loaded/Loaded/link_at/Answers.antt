use Rattle.std.proofs.Common.{ap, sym, ◌∙◌}
use Rattle.ml_stack.specs.Memories.{code_of}
use Rattle.ml_program.specs.LoadedProgram.{procedures_of}
use Rattle.ml_program.proofs.loaded.Loaded.link_at.Goals as goal

pub returns-in-Some : goal.returns-in-Some
returns-in-Some c =
    λ M code e s. c.in-Some.ensures M code c.args.pred.now (sym (ap (code_of (procedures_of c.args.self.now) M) c.in-OfClause.is) ∙ e) s
