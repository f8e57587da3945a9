use Rattle.ml_reader.proofs.RuleReading.OneProgram.{one_declaration}
use Rattle.ml_reader.proofs.rules_laws.a_term_declares_once.Goals as goal

pub returns : goal.returns
returns c = one_declaration
