-- How words hold a list of bits: 64 in a word, the highest bit first. The program never walks the
-- bits: it compares and cuts whole words.
use Rattle.std.specs.Prelude.{ℕ, ◌+◌, ◌*◌, ◌-◌, ◌<◌, ◌≤◌, ◌≡◌, Bool, false, List, length, take}
use Rattle.std.specs.Prelude.{drop, replicate}
use Rattle.std.specs.List.{flat_map}
use Rattle.ml_bits.specs.BitList.{bits_of}

-- the bits of some words, the highest bit of each word first
abbrev pub word_bits : List ℕ → List Bool
word_bits words = flat_map (bits_of 64) words

-- the list that some words hold: so many of their bits
abbrev pub packed_bits : List ℕ → ℕ → List Bool
packed_bits words len = take len (word_bits words)

-- the words are just enough for so many bits, and the bits of the last word that are not used are 0
pub record IsPacked (words : List ℕ) (len : ℕ) : Type 0 where
  pub enough : len ≤ 64 * length words
  pub no_more : 64 * length words < len + 64
  pub rest_zero : drop len (word_bits words) ≡ replicate (64 * length words - len) false

-- the words are packed with this list
pub record Holds (words : List ℕ) (len : ℕ) (bits : List Bool) : Type 0 where
  pub packed : IsPacked words len
  pub held : packed_bits words len ≡ bits

-- a list of bits as it is kept: packed, within its room, and with memory for that
pub record IsStored (words : List ℕ) (len room capacity : ℕ) : Type 0 where
  pub packed : IsPacked words len
  pub within_room : len ≤ room
  pub reserved : room ≤ 64 * capacity
