-- The laws of what a heap carries.
use Rattle.ml_heap.proofs.CarriedTrees.{carries_stay, carries_go_on, carries_made, carries_stored, carries_grown, carries_same, carries_unified, carries_bound}
use Rattle.ml_heap.proofs.carries.heaps_carry_their_trees.Goals as goal

pub returns : goal.returns
returns c = record {
  stays = carries_stay;
  goes_on = carries_go_on;
  made = carries_made;
  stored = carries_stored;
  grown = carries_grown;
  same = carries_same;
  unified = carries_unified;
  bound = carries_bound;
}
