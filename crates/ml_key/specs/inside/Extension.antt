-- A bit list that grows within its room.
use Rattle.std.specs.Prelude.{Bool, List, ◌++◌}
use Rattle.ml_bits.specs.BitList.{BitList}

-- a list followed by more bits, with the room that it had
abbrev pub extend_list : BitList → List Bool → BitList
extend_list list more = record { bits = list.bits ++ more; room = list.room }
