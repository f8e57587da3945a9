use Rattle.ml_file.proofs.ListSteps.{file_listed}
use Rattle.ml_file.proofs.laws.files_have_a_list.Goals as goal

pub returns : goal.returns
returns c = file_listed
