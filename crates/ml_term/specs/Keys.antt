-- The key of an item: the bits of its keyed arguments' codes in turn, and then a tail that sets it
-- apart from every other item.
use Rattle.std.specs.Prelude.{ℕ, zero, suc, ◌+◌, ◌-◌, nat_le, Bool, true, false, ◌&&◌, not, List}
use Rattle.std.specs.Prelude.{[], ◌∷◌, ◌++◌, map, length, drop, if◌then◌else◌}
use Rattle.std.specs.List.{list_all}
use Rattle.std.specs.declared.cmp.Ordering.{Ordering}
use Rattle.std.specs.Ordering.{bool_cmp}
use Rattle.std.specs.Cmp.Lexicographic.{slice_cmp}
use Rattle.ml_term.specs.Tree.{Tree, Trees, atom, compound, no_trees, tree, has}
use Rattle.ml_term.specs.CanonicalBytes.{bytes_of}
use Rattle.ml_term.specs.Codes.{bits, byte_bits, code}
use Rattle.ml_term.specs.Limits.{max_keyed_arguments}

-- the argument with a number from 1; where there is none, the atom without a name
abbrev pub argument : ℕ → Trees → Tree
argument k no_trees = atom []
argument k (tree t ts) = if nat_le k 1 then t else argument (k - 1) ts

-- the arguments of a tuple or of a clause's head
abbrev pub arguments : Tree → Trees
arguments (compound f ts) = ts
arguments t = no_trees

-- the arguments that a declaration's keys name, in the order of the keys
abbrev pub keyed_arguments : List ℕ → Tree → List Tree
keyed_arguments keys t = map (λ k. argument k (arguments t)) keys

-- the first of some bits
abbrev pub first_bit : List Bool → Bool
first_bit [] = false
first_bit (b ∷ bs) = b

-- the first bits of all lists, then their second bits, and so on n times
abbrev pub interleave : ℕ → List (List Bool) → List Bool
interleave zero cs = []
interleave (suc n) cs = map first_bit cs ++ interleave n (map (drop 1) cs)

-- the bits of the keyed arguments: bit j of the code of the i-th of a keyed arguments stands at
-- place j * a + i, all from 0
abbrev pub key_head : List ℕ → Tree → List Bool
key_head keys t = interleave 64 (map code (keyed_arguments keys t))

-- the key of a tuple: its tail is its canonical bytes
abbrev pub tuple_key : List ℕ → Tree → List Bool
tuple_key keys t = key_head keys t ++ byte_bits (bytes_of t)

-- the key of a clause: its tail is its storage number in 64 bits
abbrev pub clause_key : List ℕ → Tree → ℕ → List Bool
clause_key keys head number = key_head keys head ++ bits 64 number

-- the order of keys: 0 comes before 1 at the first place where they differ, and a key before its
-- extensions
abbrev pub key_cmp : List Bool → List Bool → Ordering
key_cmp = slice_cmp bool_cmp

-- the order of two tuples of a relation
abbrev pub tuple_cmp : List ℕ → Tree → Tree → Ordering
tuple_cmp keys t u = key_cmp (tuple_key keys t) (tuple_key keys u)

-- whether no number stands twice among these
abbrev pub are_different : List ℕ → Bool
are_different [] = true
are_different (k ∷ ks) = not (has k ks) && are_different ks

-- whether these may be the keys of a declaration: 1 to 8 different numbers from 1 to the arity
abbrev pub are_keys : ℕ → List ℕ → Bool
are_keys n keys = nat_le 1 (length keys) && nat_le (length keys) max_keyed_arguments
    && list_all (λ k. nat_le 1 k && nat_le k n) keys && are_different keys

-- the numbers from a first one on, n of them
abbrev pub numbers_from : ℕ → ℕ → List ℕ
numbers_from first zero = []
numbers_from first (suc n) = first ∷ numbers_from (first + 1) n

-- the keys of a declaration that names none: the first arguments, 8 at most
abbrev pub default_keys : ℕ → List ℕ
default_keys n =
    numbers_from 1 (if nat_le n max_keyed_arguments then n else max_keyed_arguments)
