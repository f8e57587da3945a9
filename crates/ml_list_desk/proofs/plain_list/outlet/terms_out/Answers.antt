use Rattle.std.proofs.Common.{◌+◌, ◌<◌, length, drop, get_or, map, ap, ◌∙◌, refl, arith}
use Rattle.ml_list_desk.specs.inside.ItemList.{items_with, no_item}
use Rattle.ml_list_desk.specs.declared.list_item.ListItem.{ListItem}
use Rattle.ml_list_desk.proofs.TakenOut.{all_taken, terms_more, kept_length, taken}
use Rattle.ml_list_desk.proofs.plain_list.outlet.terms_out.Goals as goal

pub loop-at-preserved : goal.loop-at-preserved
loop-at-preserved c =
    let at = c.loop-at.at in
    let first = c.args.pool.items in
    let numbers = c.args.numbers.now in
    let n = get_or numbers at 0 in
    let h : at < length numbers = omega arith in
    let t = taken first c.loop-at.pool.items numbers at n h refl c.requires.different c.loop-at.invariant.left in
    record {
      taken = terms_more first numbers at n c.loop-at.terms.items c.push_reserved.new.self.items c.take_out-item.result h refl c.loop-at.invariant.taken
          c.push_reserved.ensures.items (c.take_out-item.ensures.item ∙ t.item);
      left = ap (λ p. items_with p (drop (at + 1) numbers)) c.take_out-item.ensures.rest ∙ t.left;
      size = ap length c.take_out-item.ensures.rest ∙ kept_length c.loop-at.pool.items n no_item ∙ c.loop-at.invariant.size;
      count = omega (arith, c.push_reserved.ensures.len, c.loop-at.invariant.count);
      capacity = c.push_reserved.ensures.capacity ∙ c.loop-at.invariant.capacity;
    }

pub returns : goal.returns
returns c =
    c.loop-at.invariant.taken ∙ ap (map (λ (i : ListItem). i.term)) (all_taken c.args.pool.items c.args.numbers.now c.loop-at.at (omega arith))
