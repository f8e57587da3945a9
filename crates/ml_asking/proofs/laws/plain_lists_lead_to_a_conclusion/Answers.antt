use Rattle.ml_asking.proofs.PlainLists.{plain_lists_lead}
use Rattle.ml_asking.proofs.laws.plain_lists_lead_to_a_conclusion.Goals as goal

pub returns : goal.returns
returns c = plain_lists_lead
