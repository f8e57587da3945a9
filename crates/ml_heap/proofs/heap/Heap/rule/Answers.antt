-- Two compounds are split where their names and arities are the same.
use Rattle.ml_heap.proofs.Compounds.{is_split, is_clash, not_both}
use Rattle.ml_heap.proofs.heap.Heap.rule.Goals as goal
use Rattle.ml_heap.proofs.heap.Heap.rule.Goals.{else-ts-us-via-then-ts-us+else-is, else-ts-us-via-else-ts-us}

pub returns-then-is : goal.returns-then-is
returns-then-is c =
    is_split _ _ _ _ _ c.end_at-first.ensures.told c.end_at-second.ensures.told _ _ _ _ _ _ _ _ c.in-Cmp-Cmp.is-0 c.in-Cmp-Cmp.is-1
    c.as_slice-ts.ensures.same c.as_slice-us.ensures.same
    (c.is-then-ts-us.ensures.0 c.if-is.true) c.if-ts-us.true

pub returns-else-ts-us : goal.returns-else-ts-us
returns-else-ts-us c = elim c.else-ts-us.branch [
  | else-ts-us-via-then-ts-us+else-is w ↦
      is_clash _ _ _ _ _ c.end_at-first.ensures.told c.end_at-second.ensures.told _ _ _ _ _ _ _ _ c.in-Cmp-Cmp.is-0 c.in-Cmp-Cmp.is-1
      c.as_slice-ts.ensures.same c.as_slice-us.ensures.same
      (λ n l. not_both _ (w.is-then-ts-us.ensures.1 n) w.if-is.false)
  | else-ts-us-via-else-ts-us w ↦
      is_clash _ _ _ _ _ c.end_at-first.ensures.told c.end_at-second.ensures.told _ _ _ _ _ _ _ _ c.in-Cmp-Cmp.is-0 c.in-Cmp-Cmp.is-1
      c.as_slice-ts.ensures.same c.as_slice-us.ensures.same
      (λ n l. w.if-ts-us.false l)
]
