use Rattle.std.proofs.Common.{◌≡◌, ◌<◌, true, [], length, get_or, take}
use Rattle.ml_term.specs.Patterns.{begins}
use Rattle.ml_split.specs.Splitting.{count_under, half}
use Rattle.ml_split.proofs.place.half_of.Given as goal

-- of the keys so far these were counted, and one of them is known if there is one
abbrev pub invariant-loop-i : goal.invariant-loop-i
invariant-loop-i g l =
    record {
      count : l.half.count ≡ count_under (half (take l.fork l.guide.bits) l.bit) (take l.i (g.K.Keys.keys l.keys));
      place : 0 < l.half.count → l.half.key < length (g.K.Keys.keys l.keys);
      begins : 0 < l.half.count → begins (half (take l.fork l.guide.bits) l.bit) (get_or (g.K.Keys.keys l.keys) l.half.key []) ≡ true;
    }
