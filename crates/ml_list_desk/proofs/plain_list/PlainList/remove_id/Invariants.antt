use Rattle.std.proofs.Common.{◌≡◌, ◌-◌, length, drop}
use Rattle.std.specs.Option.{is_some}
use Rattle.ml_list_desk.specs.Items.{id_seen, items_seen}
use Rattle.ml_list_desk.proofs.Sweeping.{swept}
use Rattle.ml_search.specs.Db.{with_id}
use Rattle.ml_list_desk.proofs.plain_list.PlainList.remove_id.Given as goal

-- the last items were looked at
abbrev pub invariant-loop-k : goal.invariant-loop-k
invariant-loop-k l =
    let a = id_seen l.fn.place l.fn.change in
    let is = items_seen l.fn.self.items in
    record {
      count : l.count ≡ length is;
      items : items_seen l.self.items ≡ swept a is (l.count - l.k);
      found : l.found ≡ is_some (with_id a (drop (l.count - l.k) is));
      decl : l.self.decl ≡ l.fn.self.decl;
      pool : l.self.pool ≡ l.fn.self.pool;
    }
