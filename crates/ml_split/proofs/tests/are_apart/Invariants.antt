use Rattle.std.proofs.Common.{◌≡◌, ℕ, ◌<◌, [], length, get_or}
use Rattle.ml_bits.specs.BitList.{Begins}
use Rattle.ml_split.proofs.tests.are_apart.Given as goal

-- no key before the i-th begins another one
abbrev pub invariant-loop-i : goal.invariant-loop-i
invariant-loop-i g l = (i j : ℕ) → i < l.i → j < length (g.K.Keys.keys l.keys) →
    Begins (get_or (g.K.Keys.keys l.keys) i []) (get_or (g.K.Keys.keys l.keys) j []) → i ≡ j

-- the i-th begins no other one before the j-th
abbrev pub invariant-loop-j : goal.invariant-loop-j
invariant-loop-j g l = (j : ℕ) → j < l.j → Begins (get_or (g.K.Keys.keys l.keys) l.i []) (get_or (g.K.Keys.keys l.keys) j []) → l.i ≡ j
