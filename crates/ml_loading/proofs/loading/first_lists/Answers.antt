use Rattle.std.proofs.Common.{sym, ap, ◌∙◌, subst}
use Rattle.ml_loading.specs.Items.{AreSized, in_order}
use Rattle.ml_search.specs.ItemsSeen.{items_seen}
use Rattle.ml_loading.proofs.Gathering.{all_items, are_sized, ordered}
use Rattle.ml_loading.proofs.loading.first_lists.Goals as goal

pub put_in_order-requires : goal.put_in_order-requires
put_in_order-requires c =
    let ds = c.args.decls.now in
    let items = items_seen c.args.items.items in
    subst (AreSized ds) (sym c.in_ok-unsorted.ensures) (are_sized ds items (all_items ds items c.requires))

pub returns : goal.returns
returns c =
    let ds = c.args.decls.now in
    c.in_ok-lists.ensures ∙ ap (in_order ds) c.in_ok-unsorted.ensures ∙ ordered 0 ds (items_seen c.args.items.items)
