-- What contracts see of a directory: prefixes in order, each with the slot of its page. The code
-- may keep them in a list or in a tree.
use Rattle.std.specs.Prelude.{ℕ, ◌<◌, ◌≡◌, ◌≢◌, Bool, List, [], ◌∷◌, length, map, slice_index_or}
use Rattle.std.specs.List.{insert}
use Rattle.ml_region.specs.Prefixes.{bits_at, IsRising, IsPlaceFor, IsOwner, IsParent}

-- a prefix, and the slot of its page
pub record Entry : Type 0 where
  pub prefix : List Bool
  pub slot : ℕ

-- the entries in the order of their prefixes, and the room that every prefix has
pub record Listing : Type 0 where
  pub entries : List Entry
  pub room : ℕ

-- the prefixes in their order
abbrev pub prefixes_of : List Entry → List (List Bool)
prefixes_of entries = map (λ (e : Entry). e.prefix) entries

-- the slots in the order of their prefixes
abbrev pub slots_of : List Entry → List ℕ
slots_of entries = map (λ (e : Entry). e.slot) entries

-- the prefix at a place
abbrev pub prefix_at : List Entry → ℕ → List Bool
prefix_at entries i = bits_at (prefixes_of entries) i

-- the slot at a place
abbrev pub slot_at : List Entry → ℕ → ℕ
slot_at entries i = slice_index_or (slots_of entries) i 0

-- the empty prefix alone, with slot 0
abbrev pub only_root : List Entry
only_root = record { prefix = []; slot = 0 } ∷ []

-- the slot of the longest prefix that begins a key
pub record IsSlotOfOwner (entries : List Entry) (key : List Bool) (slot : ℕ) : Type 0 where
  pub place : ℕ
  pub owner : IsOwner (prefixes_of entries) key place
  pub same : slot ≡ slot_at entries place

-- the slot of the longest prefix that begins a prefix and is shorter
pub record IsSlotOfParent (entries : List Entry) (prefix : List Bool) (slot : ℕ) : Type 0 where
  pub place : ℕ
  pub parent : IsParent (prefixes_of entries) prefix place
  pub same : slot ≡ slot_at entries place

-- some prefix has the slot
pub record HasSlot (entries : List Entry) (slot : ℕ) : Type 0 where
  pub place : ℕ
  pub within : place < length entries
  pub same : slot_at entries place ≡ slot

-- the prefix that has the slot
abbrev pub IsPrefixOfSlot : List Entry → ℕ → List Bool → Type 0
IsPrefixOfSlot entries slot prefix = (i : ℕ) → i < length entries → slot_at entries i ≡ slot →
    prefix ≡ prefix_at entries i

-- no prefix is this one
abbrev pub IsNewPrefix : List Entry → List Bool → Type 0
IsNewPrefix entries prefix = (i : ℕ) → i < length entries → prefix_at entries i ≢ prefix

-- no prefix has the slot
abbrev pub IsNewSlot : List Entry → ℕ → Type 0
IsNewSlot entries slot = (i : ℕ) → i < length entries → slot_at entries i ≢ slot

-- the entries and one more, which stands where its prefix belongs
pub record IsWithEntry (old : List Entry) (entry : Entry) (new : List Entry) : Type 0 where
  pub place : ℕ
  pub fits : IsPlaceFor (prefixes_of old) entry.prefix place
  pub same : new ≡ insert old place entry

-- what every directory keeps: the empty prefix is there, which comes first; the prefixes rise; no
-- two of them have one slot
pub record IsListing (entries : List Entry) : Type 0 where
  pub some : 0 < length entries
  pub root : prefix_at entries 0 ≡ []
  pub rising : IsRising (prefixes_of entries)
  pub apart : (i j : ℕ) → i < length entries → j < length entries →
      slot_at entries i ≡ slot_at entries j → i ≡ j
