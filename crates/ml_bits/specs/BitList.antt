-- What contracts see of a bit list: its bits in order, `true` for 1, and its room, the number of
-- bits that it holds before it takes memory.
use Rattle.std.specs.Prelude.{ℕ, zero, suc, ◌+◌, ◌/◌, ◌%◌, ◌^◌, ◌==◌, ◌<◌, ◌≤◌, ◌≡◌, ◌≢◌, Bool}
use Rattle.std.specs.Prelude.{false, List, [], ◌∷◌, ◌++◌, length, take, max, slice_index_or}
use Rattle.std.specs.List.{flat_map}
use Rattle.std.specs.declared.cmp.Ordering.{Ordering}
use Rattle.std.specs.Ordering.{bool_cmp}
use Rattle.std.specs.Cmp.{IsTotalOrder, bool_cmp_total, on_total}
use Rattle.std.specs.Cmp.Lexicographic.{slice_cmp, lists_total}

-- a list of bits, and its room
pub record BitList : Type 0 where
  pub bits : List Bool
  pub room : ℕ

-- a list of bits whose room is its length
abbrev pub list_of_bits : List Bool → BitList
list_of_bits bits = record { bits = bits; room = length bits }

-- a list followed by more bits, and with room for them
abbrev pub append_bits : BitList → List Bool → BitList
append_bits list more = record {
  bits = list.bits ++ more;
  room = max list.room (length list.bits + length more);
}

-- the k lowest bits of n, the highest of them first
unfoldable pub bits_of : ℕ → ℕ → List Bool
bits_of zero n = []
bits_of (suc k) n = (n / 2 ^ k % 2 == 1) ∷ bits_of k n

-- the bits of some bytes, the highest bit of each byte first
abbrev pub byte_bits : List ℕ → List Bool
byte_bits bytes = flat_map (bits_of 8) bytes

-- the first list begins the second: it is as many of its first bits as it is long
abbrev pub Begins : List Bool → List Bool → Type 0
Begins front whole = take (length front) whole ≡ front

-- the two lists have this many first bits in common, and no more
pub record IsCommonLength (first second : List Bool) (n : ℕ) : Type 0 where
  pub within_first : n ≤ length first
  pub within_second : n ≤ length second
  pub same : take n first ≡ take n second
  pub apart : n < length first → n < length second →
      slice_index_or first n false ≢ slice_index_or second n false

-- the order of bit lists: at the first place where they differ 0 comes before 1, and a list comes
-- before its extensions
abbrev pub bits_cmp : BitList → BitList → Ordering
bits_cmp first second = slice_cmp bool_cmp first.bits second.bits

-- that order is total
pub bits_cmp_total : IsTotalOrder bits_cmp
bits_cmp_total = on_total (λ (list : BitList). list.bits) (lists_total bool_cmp_total)
