-- What a link tells where nothing is declared.
use Rattle.std.proofs.Common.{sym, ◌∙◌}
use Rattle.ml_program.specs.LoadedProgram.{procedures_of, program_of}
use Rattle.ml_store_goals.proofs.ReservedPredicates.{unknown_told, known_told}
use Rattle.ml_store_goals.proofs.predicate.status_of.Goals as goal

pub returns-in-Unknown : goal.returns-in-Unknown
returns-in-Unknown c = (
  c.in_default.ensures,
  unknown_told (program_of c.args.program.now) (procedures_of c.args.program.now) c.args.pred.now.name c.args.pred.now.arity (sym c.if-is_built_in.ensures)
      c.in_default.ensures (sym c.in-Unknown.ensures),
)

pub returns-in_default-link_of : goal.returns-in_default-link_of
returns-in_default-link_of c = (
  c.in_default.ensures,
  known_told (program_of c.args.program.now) (procedures_of c.args.program.now) c.args.pred.now.name c.args.pred.now.arity (sym c.if-is_built_in.ensures)
      c.in_default.ensures (λ e. c.in_default-link_of.not-Unknown (c.link_of.ensures ∙ e)),
)
