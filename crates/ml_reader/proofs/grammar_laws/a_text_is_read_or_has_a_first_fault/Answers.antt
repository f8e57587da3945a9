use Rattle.ml_reader.proofs.grammar_laws.a_text_is_read_or_has_a_first_fault.Goals as goal
use Rattle.ml_reader.proofs.Parsing.TextBeginnings.{stand_by}
use Rattle.ml_reader.proofs.Parsing.OneTextReading.{every_text}

pub returns : goal.returns
returns c = λ bytes. every_text bytes (stand_by c.tokens_stand_in_their_text.ensures.token c.tokens_stand_in_their_text.ensures.fault bytes)
