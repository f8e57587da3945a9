use Rattle.std.proofs.Common.{◌≡◌, ◌+◌, ◌≤◌, length, ap, ◌∙◌, arith}
use Rattle.std.specs.List.{insert}
use Rattle.std.specs.Prelude.{vec_capacity}
use Rattle.ml_list_desk.specs.inside.ItemList.{items_with}
use Rattle.ml_list_desk.proofs.KeptLists.{items_inserted, kept_inserted, listed}
use Rattle.ml_list_desk.proofs.plain_list.PlainList.insert.Goals as goal

pub invariant_of-self-2 : goal.invariant_of-self-2
invariant_of-self-2 c =
    let inside = c.self.inside in
    let numbers = c.put.ensures ∙ ap (λ ns. insert ns c.args.at c.len-number.result) c.reserve.ensures.items in
    let number : c.len-number.result ≡ length inside.pool.items = omega (arith, c.len-number.ensures, inside.pool.ok.0) in
    let room : length inside.numbers.items + 1 ≤ vec_capacity c.reserve-2.new.self =
    omega (arith, c.in_ok-reserve-2.ensures.ok, c.len-count.ensures, inside.numbers.ok.0) in
    kept_inserted inside.decl inside.pool.items c.push.new.self.items inside.numbers.items c.put.new.numbers.items inside.room.items
    c.reserve-2.new.self.items c.args.item c.args.at c.len-number.result _ _
    c.in_ok-push.ensures.items numbers number c.reserve-2.ensures.items room (rw (← c.self.view_is) at c.requires.allowed)
    (rw (← c.self.view_is) at c.requires.ordered) c.self.invariant

pub returns-clause-ok : goal.returns-clause-ok
returns-clause-ok c =
    let inside = c.self.inside in
    let numbers = c.put.ensures ∙ ap (λ ns. insert ns c.args.at c.len-number.result) c.reserve.ensures.items in
    let number : c.len-number.result ≡ length inside.pool.items = omega (arith, c.len-number.ensures, inside.pool.ok.0) in
    let items =
    items_inserted inside.pool.items c.push.new.self.items inside.numbers.items c.put.new.numbers.items c.args.item c.args.at c.len-number.result
    c.self.invariant.within c.in_ok-push.ensures.items numbers number in
    rw (← c.self.view_is)
    (ap (λ is. listed inside.decl is c.push.new.self.items) items
    ∙ ap (λ pool. listed inside.decl (insert (items_with inside.pool.items inside.numbers.items) c.args.at c.args.item) pool) c.in_ok-push.ensures.items)
