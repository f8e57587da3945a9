use Rattle.ml_reader.proofs.grammar_laws.the_parser_is_exact.Goals as goal
use Rattle.ml_reader.proofs.Parsing.ExactAnswers.{exact}

pub returns : goal.returns
returns c = exact
