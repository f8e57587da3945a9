use Rattle.std.proofs.Common.{refl}
use Rattle.ml_round_trip.proofs.worked_rows.texts_with_their_tokens.Goals as goal

pub returns-clause-list : goal.returns-clause-list
returns-clause-list c = (refl, refl, refl)

pub returns-clause-nested : goal.returns-clause-nested
returns-clause-nested c = (refl, refl, refl)

pub returns-clause-negative : goal.returns-clause-negative
returns-clause-negative c = (refl, refl, refl)

pub returns-clause-minus_of : goal.returns-clause-minus_of
returns-clause-minus_of c = (refl, refl, refl)

pub returns-clause-minus : goal.returns-clause-minus
returns-clause-minus c = (refl, refl, refl)

pub returns-clause-prefix : goal.returns-clause-prefix
returns-clause-prefix c = (refl, refl, refl)

pub returns-clause-quoted : goal.returns-clause-quoted
returns-clause-quoted c = (refl, refl, refl)

pub returns-clause-brackets : goal.returns-clause-brackets
returns-clause-brackets c = (refl, refl, refl)

pub returns-clause-dot : goal.returns-clause-dot
returns-clause-dot c = (refl, refl, refl)
