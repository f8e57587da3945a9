-- The first task is the whole term, and each task leads on.
use Rattle.std.proofs.Common.{◌≡◌, ◌<◌, ◌++◌, ◌∷◌, [], ap, ◌∙◌, sym, subst, arith}
use Rattle.ml_heap.specs.Changes.{variable_count, stands_for}
use Rattle.ml_heap.proofs.StoredTerms.{grows_none, grows_on}
use Rattle.ml_copy.specs.declared.task.Task.TheVariants.{Term}
use Rattle.ml_copy.specs.inside.Tasks.{weight, IsCopying}
use Rattle.ml_copy.proofs.CopyStates.{at_start}
use Rattle.ml_copy.proofs.copy.copy_all.Goals as goal

pub loop-task-init : goal.loop-task-init
loop-task-init c = record {
  state = at_start c.args.from.now c.args.to.now c.new-met.result c.args.at c.requires c.new-met.ensures _ _ c.new-copies.ensures.items
      (c.in_ok-push.ensures.items ∙ ap (λ xs. xs ++ Term c.args.at ∷ []) c.new-left.ensures.items);
  grown = grows_none c.args.to.now;
  few = omega arith;
}
