use Rattle.std.proofs.Common.{◌≡◌, suc, ◌+◌, ◌-◌, ◌<◌, length, drop, sym, ap, ◌∙◌, arith}
use Rattle.std.specs.Option.{is_some}
use Rattle.ml_list_desk.specs.Items.{id_seen, items_seen}
use Rattle.ml_list_desk.proofs.Sweeping.{swept, swept_on}
use Rattle.ml_search.specs.Db.{with_id}
use Rattle.ml_list_desk.proofs.plain_list.PlainList.remove_id.Goals as goal

pub loop-k-preserved : goal.loop-k-preserved
loop-k-preserved c =
    let a = id_seen c.args.place c.args.change in
    let is = items_seen c.args.self.now.items in
    let inv = c.loop-k.invariant in
    let at = c.len-count.result - 1 - c.loop-k.k in
    let up : c.len-count.result - c.loop-k.k ≡ suc at = omega arith in
    let down : c.len-count.result - (c.loop-k.k + 1) ≡ at = omega arith in
    let within : at < length is = omega arith in
    let step =
    swept_on a is c.loop-k.self.items c.remove_if-gone.new.self.items at c.remove_if-gone.result c.loop-k.found within (inv.items ∙ ap (swept a is) up)
    (inv.found ∙ ap (λ n. is_some (with_id a (drop n is))) up) c.remove_if-gone.ensures.gone c.remove_if-gone.ensures.items in
    record {
      count = inv.count;
      items = step.items ∙ ap (swept a is) (sym down);
      found = step.found_is ∙ ap (λ n. is_some (with_id a (drop n is))) (sym down);
      decl = c.remove_if-gone.ensures.decl ∙ inv.decl;
      pool = c.remove_if-gone.ensures.pool ∙ inv.pool;
    }
