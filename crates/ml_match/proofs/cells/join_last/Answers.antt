-- The last cells are cells of the heap.
use Rattle.std.proofs.Common.{◌≡◌, ℕ, ◌-◌, ◌<◌, take, drop, length, get_or, sym, ap, subst, ◌∙◌, arith, length-append}
use Rattle.std.proofs.lemmas.List.{take_rest, drop_at}
use Rattle.ml_heap.specs.Changes.{cell_count}
use Rattle.ml_heap.proofs.TermWalks.{cells_at}
use Rattle.ml_match.proofs.cells.join_last.Goals as goal

pub new_cmp-requires-clause-inside : goal.new_cmp-requires-clause-inside
new_cmp-requires-clause-inside c =
    let r = c.requires in
    let front = r.0 in
    let last = r.1.0 in
    let n = c.len.result - c.args.arity in
    let many : length front ≡ n = omega (arith, ap length r.1.1.0, length-append front last, r.1.1.1, c.len.ensures) in
    let all = c.deref.result.now in
    let is : take (length all - n) (drop n all) ≡ last =
    take_rest all n ∙ (ap (drop n) (c.deref.ensures.value ∙ r.1.1.0) ∙ drop_at front last n many) in
    subst (λ qs. (i : ℕ) → i < length qs → get_or qs i 0 < cell_count c.args.heap.now) (sym is) (cells_at (cell_count c.args.heap.now) last r.1.1.2)
