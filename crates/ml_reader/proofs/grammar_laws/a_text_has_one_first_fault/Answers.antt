use Rattle.ml_reader.proofs.grammar_laws.a_text_has_one_first_fault.Goals as goal
use Rattle.ml_reader.proofs.Parsing.TextBeginnings.{stand_by}
use Rattle.ml_reader.proofs.Parsing.OneTextReading.{one_first_fault}

pub returns : goal.returns
returns c = λ bytes. one_first_fault bytes (stand_by c.tokens_stand_in_their_text.ensures.token c.tokens_stand_in_their_text.ensures.fault bytes)
