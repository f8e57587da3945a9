use Rattle.ml_file.proofs.ListSteps.{removed_list, unremoved_list}
use Rattle.ml_file.proofs.laws.a_removal_is_that_of_the_list.Goals as goal

pub returns : goal.returns
returns c = record {
  after = λ old new key list removed is. removed_list c.args.kind old key new list removed is;
  before = λ old new key list removed numbered is. unremoved_list c.args.kind old key new list removed numbered is;
}
