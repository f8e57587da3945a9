use Rattle.ml_search.specs.Session.{shown_names}
use Rattle.ml_writer.proofs.BindingTexts.{line_is}
use Rattle.ml_writer.proofs.laws.an_answer_has_its_goals_line.Goals as goal

pub returns : goal.returns
returns c = λ g bs e. line_is (shown_names g) bs e
