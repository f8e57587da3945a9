-- The rule of a split, over the keys of a region. It goes bit by bit and counts the keys anew at
-- each; the code goes at once to the next place where keys part.
use Rattle.std.specs.Prelude.{◌≡◌, ℕ, ◌*◌, ◌<◌, ◌≤◌, nat_lt, nat_le, Bool, true, false, ◌&&◌, not}
use Rattle.std.specs.Prelude.{IsTrue, List, [], ◌∷◌, ◌++◌, length, filter, slice_index_or}
use Rattle.ml_bits.specs.BitList.{Begins}
use Rattle.ml_term.specs.Patterns.{begins, same_bit}

-- the keys that begin with a prefix
abbrev pub keys_under : List Bool → List (List Bool) → List (List Bool)
keys_under prefix keys = filter (begins prefix) keys

-- how many keys begin with a prefix
abbrev pub count_under : List Bool → List (List Bool) → ℕ
count_under prefix keys = length (keys_under prefix keys)

-- one of the two halves of a prefix: the prefix with one more bit
abbrev pub half : List Bool → Bool → List Bool
half prefix bit = prefix ++ bit ∷ []

-- the half with more keys: 1 where more keys go on with 1 than with 0, and 0 otherwise
abbrev pub fuller_half : List Bool → List (List Bool) → Bool
fuller_half prefix keys = nat_lt (count_under (half prefix false) keys)
    (count_under (half prefix true) keys)

-- whether at most two thirds of the keys begin with a prefix
abbrev pub is_light : List Bool → List (List Bool) → Bool
is_light prefix keys = nat_le (3 * count_under prefix keys) (2 * length keys)

-- whether the rule goes on from a prefix by just these bits: one at a time into the half with more
-- keys, until at most two thirds of all keys are there
abbrev pub goes_on_by : List (List Bool) → List Bool → List Bool → Bool
goes_on_by keys prefix [] = is_light prefix keys
goes_on_by keys prefix (bit ∷ bits) =
    not (is_light prefix keys) && (same_bit bit (fuller_half prefix keys)
    && goes_on_by keys (half prefix bit) bits)

-- the new prefix at which keys are split that begin with an old one
pub record IsSplit (keys : List (List Bool)) (old new : List Bool) : Type 0 where
  pub bits : List Bool
  pub new_is : new ≡ old ++ bits
  pub goes : IsTrue (goes_on_by keys old bits)

-- no key of the list begins another one
abbrev pub AreApart : List (List Bool) → Type 0
AreApart keys = (i j : ℕ) → i < length keys → j < length keys →
    Begins (slice_index_or keys i []) (slice_index_or keys j []) → i ≡ j

-- what a split of keys leaves: a longer prefix, which begins some key, and at least a third of the
-- keys on each side
pub record IsFair (keys : List (List Bool)) (old new : List Bool) : Type 0 where
  pub longer : length old < length new
  pub extends : Begins old new
  pub place : ℕ
  pub place_within : place < length keys
  pub begins_key : Begins new (slice_index_or keys place [])
  pub at_least : length keys ≤ 3 * count_under new keys
  pub at_most : 3 * count_under new keys ≤ 2 * length keys
