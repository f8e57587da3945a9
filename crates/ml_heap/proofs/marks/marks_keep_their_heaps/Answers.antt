-- The laws of marks.
use Rattle.ml_heap.proofs.HeapMarks.{as_many, earlier_mark, marks_stay, marks_go_on}
use Rattle.ml_heap.proofs.marks.marks_keep_their_heaps.Goals as goal

pub returns : goal.returns
returns c = record { counted = as_many; earlier = earlier_mark; stay = marks_stay; go_on = marks_go_on }
