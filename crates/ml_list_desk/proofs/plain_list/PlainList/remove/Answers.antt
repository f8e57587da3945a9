use Rattle.std.proofs.Common.{ap}
use Rattle.ml_list_desk.proofs.KeptLists.{items_removed, kept_removed, listed}
use Rattle.ml_list_desk.proofs.plain_list.PlainList.remove.Goals as goal

pub invariant_of-self : goal.invariant_of-self
invariant_of-self c = kept_removed _ _ c.self.inside.numbers.items _ _ _ c.args.at c.remove-number.ensures.items c.self.invariant

pub returns : goal.returns
returns c =
    rw (← c.self.view_is) (ap (λ is. listed c.self.inside.decl is c.self.inside.pool.items)
    (items_removed c.self.inside.pool.items c.self.inside.numbers.items _ c.args.at c.remove-number.ensures.items))
