-- The variable was met before, or is created now.
use Rattle.std.proofs.Common.{◌≡◌, ◌==◌, cond, Some, sym, ap, ◌∙◌}
use Rattle.ml_heap.specs.Storing.{cell_of}
use Rattle.ml_heap.proofs.StoredTerms.{met_before, met_now}
use Rattle.ml_heap.proofs.heap.Heap.store_variable.Goals as goal

pub returns-in-Some-clause-stored : goal.returns-in-Some-clause-stored
returns-in-Some-clause-stored c base ns w = met_before _ base ns _ _ _ w (sym c.in-Some.ensures ∙ ap Some (sym c.at.ensures))

pub returns-in_ok-add-in-None-clause-stored : goal.returns-in_ok-add-in-None-clause-stored
returns-in_ok-add-in-None-clause-stored c base ns w =
    met_now _ _ base ns _ _ _ _ w (sym c.in-None.ensures) c.in_ok-at-in-None.ensures.made c.in_ok-at-in-None.ensures.counted
    (λ k. c.in_ok-add-in-None.ensures k ∙ ap (λ r. cond (c.args.n == k) (Some r) (cell_of c.args.met.now k)) c.place.ensures)
