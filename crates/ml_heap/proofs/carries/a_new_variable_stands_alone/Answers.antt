-- The laws of variables that stand alone.
use Rattle.ml_heap.proofs.LoneVariables.{alone_when_made, alone_among_same, alone_with_one_more, not_among_arguments, alone_when_unified}
use Rattle.ml_heap.proofs.carries.a_new_variable_stands_alone.Goals as goal

pub returns : goal.returns
returns c = record {
  made = alone_when_made;
  same = alone_among_same;
  one_more = alone_with_one_more;
  compound = not_among_arguments;
  unified = λ h h' n r a b m alone in_a in_b not_a not_b u e. alone_when_unified h h' n r a b m alone in_a in_b not_a not_b u e;
}
