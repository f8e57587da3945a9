use Rattle.ml_search.proofs.LogBeginnings.{in_parts, store_in_parts, beginning}
use Rattle.ml_search.proofs.laws.replies_depend_on_the_past_alone.Goals as goal

pub returns-clause-parts : goal.returns-clause-parts
returns-clause-parts c = in_parts

pub returns-clause-after : goal.returns-clause-after
returns-clause-after c = store_in_parts

pub returns-clause-beginning : goal.returns-clause-beginning
returns-clause-beginning c = beginning
