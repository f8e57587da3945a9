use Rattle.std.proofs.Common.{◌≤◌, ◌-◌, length}
use Rattle.ml_list_desk.proofs.KeyOrder.{AreAbove, AreBelow}
use Rattle.ml_term.specs.Seen.{seen}
use Rattle.ml_list_desk.proofs.plain_list.PlainList.find.Given as goal

-- the items before the lower place come before the tuple, and those from the higher one on behind it
abbrev pub invariant-halves : goal.invariant-halves
invariant-halves l = record {
  low : l.low ≤ l.high;
  high : l.high ≤ length l.self.items;
  below : AreBelow l.self.decl.keys (seen l.t) l.self.items l.low;
  above : AreAbove l.self.decl.keys (seen l.t) l.self.items l.high;
}

abbrev pub decreases-halves : goal.decreases-halves
decreases-halves l = l.high - l.low
