use Rattle.std.proofs.Common.{sym, ap, ◌∙◌, below_more}
use Rattle.ml_region.specs.declared.kept.Kept.{Kept}
use Rattle.ml_region.proofs.SortedElements.{kept_slot}
use Rattle.ml_region.proofs.kept.place_of_slot.Goals as goal

pub returns-then-entry-slot-clause-same : goal.returns-then-entry-slot-clause-same
returns-then-entry-slot-clause-same c =
    kept_slot c.args.kept.now c.loop-place.place c.index-kept-place.result c.loop-place-test.true ∙ ap (λ (k : Kept). k.slot) (sym c.index-kept-place.is)
    ∙ c.if-entry-slot.true

pub loop-place-preserved : goal.loop-place-preserved
loop-place-preserved c =
    below_more _ _ c.loop-place.invariant (λ e. c.if-entry-slot.false
    (ap (λ (k : Kept). k.slot) c.index-kept-place.is ∙ sym (kept_slot c.args.kept.now c.loop-place.place c.index-kept-place.result c.loop-place-test.true) ∙ e))
