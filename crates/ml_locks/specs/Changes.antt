-- What a change of the locks leaves in them. Each says the mode of every session at every unit.
use Rattle.std.specs.Prelude.{◌≡◌, ℕ, Bool, ◌==◌, ◌&&◌, List, Option, Some, None, length, if◌then◌else◌}
use Rattle.std.specs.List.{list_any}
use Rattle.ml_desk.specs.declared.mode.Mode.{Mode}
use Rattle.ml_desk.specs.declared.mode.Mode.TheVariants.{S, X}
use Rattle.ml_locks.specs.Modes.{Locks, mode_of, same_bits}

-- the stronger of a mode and the one, if any, in which the same unit was held: exclusive before
-- shared
abbrev pub stronger : Mode → Option Mode → Mode
stronger X before = X
stronger S None = S
stronger S (Some before) = before

-- whether a prefix is among some prefixes
abbrev pub is_needed : List (List Bool) → List Bool → Bool
is_needed prefixes prefix = list_any (same_bits prefix) prefixes

-- a session holds some units of a declaration, each in the stronger of the mode that was asked for
-- and the one in which it held it; all else is as it was
pub record IsGranted (old : Locks) (asker pred : ℕ) (prefixes : List (List Bool)) (mode : Mode)
    (new : Locks) : Type 0 where
  pub files : length new ≡ length old
  pub modes : (s d : ℕ) (u : List Bool) → mode_of new s d u ≡
      (if (d == pred) && ((s == asker) && is_needed prefixes u)
      then Some (stronger mode (mode_of old s d u)) else mode_of old s d u)

-- a session holds a unit in this mode, or not at all; all else is as it was
pub record IsWeakened (old : Locks) (holder pred : ℕ) (prefix : List Bool) (mode : Option Mode)
    (new : Locks) : Type 0 where
  pub files : length new ≡ length old
  pub modes : (s d : ℕ) (u : List Bool) → mode_of new s d u ≡
      (if (d == pred) && ((s == holder) && same_bits u prefix) then mode else mode_of old s d u)

-- a session holds nothing; all else is as it was
pub record IsReleased (old : Locks) (holder : ℕ) (new : Locks) : Type 0 where
  pub files : length new ≡ length old
  pub modes : (s d : ℕ) (u : List Bool) → mode_of new s d u ≡
      (if s == holder then None else mode_of old s d u)

-- nobody holds a unit; all else is as it was
pub record IsForgotten (old : Locks) (pred : ℕ) (prefix : List Bool) (new : Locks) : Type 0 where
  pub files : length new ≡ length old
  pub modes : (s d : ℕ) (u : List Bool) → mode_of new s d u ≡
      (if (d == pred) && same_bits u prefix then None else mode_of old s d u)

-- who holds a first unit of a declaration holds a second one too, in the same mode, and nobody else
-- does; all else is as it was
pub record IsInherited (old : Locks) (pred : ℕ) (from to : List Bool) (new : Locks) : Type 0 where
  pub files : length new ≡ length old
  pub modes : (s d : ℕ) (u : List Bool) → mode_of new s d u ≡
      (if (d == pred) && same_bits u to then mode_of old s d from else mode_of old s d u)
