use Rattle.ml_reader.proofs.grammar_laws.a_text_has_one_reading.Goals as goal
use Rattle.ml_reader.proofs.Parsing.OneTextReading.{read_once}

pub returns : goal.returns
returns c = read_once
