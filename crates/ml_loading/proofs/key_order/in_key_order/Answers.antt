use Rattle.std.proofs.Common.{rules}
use Rattle.std.proofs.lemmas.Fn.{always_returns_same, dedup_same}
use Rattle.ml_loading.proofs.Sorting.{goes_before, goes_in_order, is_repeat, left_is}
use Rattle.ml_loading.proofs.key_order.in_key_order.Goals as goal

pub returns : goal.returns
returns c =
    let keys = c.args.decl.now.keys in
    let n = c.args.decl.now.pred.arity in
    left_is keys n _ _ _ c.requires c.sort_unstable_by.ensures.permutation
    (c.sort_unstable_by.ensures.sorted (goes_before keys n) (goes_in_order keys n) (always_returns_same _ _ _ (λ a r f' h. search rules)))
    (dedup_same _ (is_repeat keys n) _ (λ x y b f' x' y' k. search rules) _ _ c.dedup_by.ensures.filtered)
