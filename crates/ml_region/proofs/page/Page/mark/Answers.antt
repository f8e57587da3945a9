use Rattle.ml_region.proofs.RegionItems.{marked_at}
use Rattle.ml_region.proofs.page.Page.mark.Goals as goal

pub returns : goal.returns
returns c =
    rw (← c.self.view_is) (marked_at c.self.inside.items.items c.args.j c.args.committed c.args.id c.index_mut-item.result.now _ c.index_mut-item.ensures.value)
