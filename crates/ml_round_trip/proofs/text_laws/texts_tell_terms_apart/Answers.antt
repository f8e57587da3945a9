use Rattle.ml_round_trip.proofs.text_laws.texts_tell_terms_apart.Goals as goal
use Rattle.ml_round_trip.proofs.TextsReadBack.{texts_apart}

pub returns : goal.returns
returns c = texts_apart
