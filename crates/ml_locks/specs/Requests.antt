-- What a session that asks for units comes to.
use Rattle.std.specs.Prelude.{◌≡◌, ◌≢◌, ◌<◌, ◌≤◌, ℕ, Bool, true, false, ◌==◌, ◌&&◌, not, List, map, Option, Some, None}
use Rattle.std.specs.List.{list_any}
use Rattle.std.specs.Ordering.{bool_cmp}
use Rattle.std.specs.Cmp.Lexicographic.{slice_cmp}
use Rattle.std.specs.declared.cmp.Ordering.TheVariants.{Less}
use Rattle.ml_bits.specs.BitList.{BitList}
use Rattle.ml_desk.specs.declared.death.Death.{Death}
use Rattle.ml_desk.specs.declared.mode.Mode.{Mode}
use Rattle.ml_desk.specs.declared.mode.Mode.TheVariants.{S, X}
use Rattle.ml_locks.specs.Changes.{IsGranted, is_needed}
use Rattle.ml_locks.specs.Modes.{Locks, mode_of}
use Rattle.ml_locks.specs.declared.asked.Asked.{Asked}
use Rattle.ml_locks.specs.declared.asked.Asked.TheVariants.{Granted, Wait, Died, OutOfMemory}

-- the bits of some prefixes
abbrev pub prefixes_of : List BitList → List (List Bool)
prefixes_of prefixes = map (λ (prefix : BitList). prefix.bits) prefixes

-- whether what one session holds of a unit excludes that another one holds it in a mode: not both
-- are shared
abbrev pub excludes : Option Mode → Mode → Bool
excludes None mode = false
excludes (Some X) mode = true
excludes (Some S) X = true
excludes (Some S) S = false

-- the modes of all sessions at the units of one declaration
abbrev pub modes_at : Locks → ℕ → ℕ → List Bool → Option Mode
modes_at locks pred session prefix = mode_of locks session pred prefix

-- whether a session is in the way of a request: another one that holds a needed unit in a mode that
-- excludes the one that is asked for
abbrev pub is_in_way : (ℕ → List Bool → Option Mode) → ℕ → List (List Bool) → Mode → ℕ → Bool
is_in_way held asker prefixes mode holder =
    not (holder == asker) && list_any (λ u. excludes (held holder u) mode) prefixes

-- the least number that passes a test, if any does
abbrev pub IsLeast : (ℕ → Bool) → Option ℕ → Type 0
IsLeast test None = (k : ℕ) → test k ≡ false
IsLeast test (Some least) = (test least ≡ true) × ((k : ℕ) → test k ≡ true → least ≤ k)

-- of some prefixes that pass a test the first one in their order, if any does
abbrev pub IsFirst : (List Bool → Bool) → List (List Bool) → Option (List Bool) → Type 0
IsFirst test prefixes None = (u : List Bool) → is_needed prefixes u ≡ true → test u ≡ false
IsFirst test prefixes (Some first) = (is_needed prefixes first ≡ true) × (test first ≡ true) ×
    ((u : List Bool) → is_needed prefixes u ≡ true → test u ≡ true →
    slice_cmp bool_cmp u first ≢ Less)

-- a death names the oldest session in the way, which is older than the one that asked, and of the
-- needed units that it holds in the way the first one in the order of prefixes
pub record NamesDeath (held : ℕ → List Bool → Option Mode) (asker pred : ℕ)
    (prefixes : List (List Bool)) (mode : Mode) (death : Death) : Type 0 where
  pub session : death.session ≡ asker
  pub declaration : death.pred ≡ pred
  pub asked : death.mode ≡ mode
  pub oldest : IsLeast (is_in_way held asker prefixes mode) (Some death.holder)
  pub older : death.holder < asker
  pub first : IsFirst (λ u. excludes (held death.holder u) mode) prefixes (Some death.unit.bits)

-- What an answer tells of the modes at the units of one declaration. Nobody is in the way of what
-- is granted; a session waits for the oldest one in its way where that one is younger, and dies
-- where it is older.
abbrev pub IsAnswered : (ℕ → List Bool → Option Mode) → ℕ → ℕ → List (List Bool) → Mode → Asked →
    Type 0
IsAnswered held asker pred prefixes mode Granted =
    (k : ℕ) → is_in_way held asker prefixes mode k ≡ false
IsAnswered held asker pred prefixes mode (Wait holder) =
    IsLeast (is_in_way held asker prefixes mode) (Some holder) × (asker < holder)
IsAnswered held asker pred prefixes mode (Died death) =
    NamesDeath held asker pred prefixes mode death
IsAnswered held asker pred prefixes mode OutOfMemory = Unit {0}

-- what an answer leaves: a grant gives the units, and all other answers change nothing
abbrev pub Leaves : Locks → ℕ → ℕ → List (List Bool) → Mode → Asked → Locks → Type 0
Leaves old asker pred prefixes mode Granted new = IsGranted old asker pred prefixes mode new
Leaves old asker pred prefixes mode (Wait holder) new = new ≡ old
Leaves old asker pred prefixes mode (Died death) new = new ≡ old
Leaves old asker pred prefixes mode OutOfMemory new = new ≡ old

-- a lawful death: an older session holds a needed unit in a mode that excludes the one that was
-- asked for
pub record IsLawful (locks : Locks) (prefixes : List (List Bool)) (death : Death) : Type 0 where
  pub older : death.holder < death.session
  pub needed : is_needed prefixes death.unit.bits ≡ true
  pub held : Mode
  pub holds : mode_of locks death.holder death.pred death.unit.bits ≡ Some held
  pub excluded : excludes (Some held) death.mode ≡ true
