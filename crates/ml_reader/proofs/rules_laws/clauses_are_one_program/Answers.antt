use Rattle.ml_reader.proofs.RuleReading.OneProgram.{one_program}
use Rattle.ml_reader.proofs.rules_laws.clauses_are_one_program.Goals as goal

pub returns : goal.returns
returns c = one_program
