use Rattle.std.proofs.Common.{rules}
use Rattle.std.proofs.lemmas.Fn.{always_returns_same}
use Rattle.ml_file.proofs.ItemOrder.{goes_before, goes_in_order, sorted_list}
use Rattle.ml_file.proofs.file.hits.in_order.Goals as goal

pub returns : goal.returns
returns c =
    let kind = c.args.kind in
    sorted_list kind _ _ c.requires c.sort_unstable_by.ensures.permutation
    (c.sort_unstable_by.ensures.sorted (goes_before kind) (goes_in_order kind) (always_returns_same _ _ _ (λ a r f' h. search rules)))
