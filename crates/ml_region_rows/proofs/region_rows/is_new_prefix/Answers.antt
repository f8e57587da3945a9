use Rattle.std.proofs.Common.{◌∙◌, below_more}
use Rattle.ml_region.proofs.KeyOrder.{not_equal_from_test}
use Rattle.ml_region_rows.proofs.region_rows.is_new_prefix.Goals as goal

pub loop-i-preserved : goal.loop-i-preserved
loop-i-preserved c =
    below_more _ _ c.loop-i.invariant
    (λ e. not_equal_from_test c.cmp.result c.is_eq.result c.is_eq.ensures c.if-is_eq.false (c.cmp.ensures.equal.1 (c.in-Some.ensures.prefix.1 ∙ e)))
