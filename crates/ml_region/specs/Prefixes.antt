-- Lists of bit lists in rising order, and which of some prefixes owns a key. The code searches by
-- halves; here a place is one of which something holds.
use Rattle.std.specs.Prelude.{ℕ, ◌<◌, ◌≤◌, ◌≡◌, ◌≢◌, Bool, List, [], length, slice_index_or}
use Rattle.std.specs.declared.cmp.Ordering.TheVariants.{Less, Greater}
use Rattle.ml_bits.specs.BitList.{Begins}
use Rattle.ml_term.specs.Keys.{key_cmp}

-- the bit list at a place, from 0
abbrev pub bits_at : List (List Bool) → ℕ → List Bool
bits_at lists i = slice_index_or lists i []

-- each list comes before all that stand behind it
pub record IsRising (lists : List (List Bool)) : Type 0 where
  pub rises : (i j : ℕ) → i < j → j < length lists →
      key_cmp (bits_at lists i) (bits_at lists j) ≡ Less

-- some prefixes rise from the empty one on
pub record AreRooted (prefixes : List (List Bool)) : Type 0 where
  pub some : 0 < length prefixes
  pub root : bits_at prefixes 0 ≡ []
  pub rising : IsRising prefixes

-- the place where a key belongs among rising lists: those in front of it come before the key, and
-- the key comes before the others
pub record IsPlaceFor (lists : List (List Bool)) (key : List Bool) (place : ℕ) : Type 0 where
  pub within : place ≤ length lists
  pub below : (i : ℕ) → i < place → key_cmp (bits_at lists i) key ≡ Less
  pub above : (i : ℕ) → place ≤ i → i < length lists → key_cmp key (bits_at lists i) ≡ Less

-- the place of the last of some rising lists that does not come after a key
pub record IsLastUpTo (lists : List (List Bool)) (key : List Bool) (place : ℕ) : Type 0 where
  pub within : place < length lists
  pub upto : (i : ℕ) → i ≤ place → key_cmp (bits_at lists i) key ≢ Greater
  pub above : (i : ℕ) → place < i → i < length lists → key_cmp (bits_at lists i) key ≡ Greater

-- the place of the longest of some prefixes that begins a key
pub record IsOwner (prefixes : List (List Bool)) (key : List Bool) (place : ℕ) : Type 0 where
  pub within : place < length prefixes
  pub begins : Begins (bits_at prefixes place) key
  pub longest : (i : ℕ) → i < length prefixes → Begins (bits_at prefixes i) key →
      length (bits_at prefixes i) ≤ length (bits_at prefixes place)

-- the place of the longest of some prefixes that begins a prefix and is shorter than it
pub record IsParent (prefixes : List (List Bool)) (prefix : List Bool) (place : ℕ) : Type 0 where
  pub within : place < length prefixes
  pub begins : Begins (bits_at prefixes place) prefix
  pub shorter : length (bits_at prefixes place) < length prefix
  pub longest : (i : ℕ) → i < length prefixes → Begins (bits_at prefixes i) prefix →
      length (bits_at prefixes i) < length prefix
      → length (bits_at prefixes i) ≤ length (bits_at prefixes place)
