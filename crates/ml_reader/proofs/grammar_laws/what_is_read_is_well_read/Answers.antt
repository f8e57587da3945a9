use Rattle.ml_reader.proofs.grammar_laws.what_is_read_is_well_read.Goals as goal
use Rattle.ml_reader.proofs.Parsing.TextBeginnings.{stand_by}
use Rattle.ml_reader.proofs.Parsing.WellReadClauses.{well_read}

pub returns : goal.returns
returns c = λ bytes. well_read bytes (stand_by c.tokens_stand_in_their_text.ensures.token c.tokens_stand_in_their_text.ensures.fault bytes)
