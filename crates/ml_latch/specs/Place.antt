-- What a seat knows and holds between its steps.
use Rattle.std.specs.Prelude.{◌≡◌, ℕ, ◌%◌, ◌^◌, [], Option, Some, None}
use Rattle.atomic_table.specs.Table.{Me}
use Rattle.atomic_table.specs.Seated.{TableId}
use Rattle.atomic_table.specs.declared.shared.Seat.{Seat}
use Rattle.ml_latch.specs.declared.view.View.{View}

-- The seat is one of this table, which has two words and one slot.
abbrev pub FitsTable : TableId → TableId → Type 0
FitsTable table seat = (seat ≡ table) × (table.words ≡ 2) × (table.slots ≡ 1)

-- It is still the same seat: only what it knows and holds may have changed.
abbrev pub IsSamePlace : {X E N : Type 0} → Seat (Option X) (View X E N)
    → Seat (Option X) (View X E N) → Type 0
IsSamePlace old new = (new.table_id ≡ old.table_id) × (new.id ≡ old.id)

-- The seat has no ticket, no turn and no slot, and was not taken in.
pub record IsIdle {X E N : Type 0} (start : X) (me : Me (Option X) (View X E N)) : Type 0 where
  pub holds : me.1 ≡ []
  pub ticket : me.0.ticket ≡ None
  pub taken : me.0.taken ≡ None
  pub begun : me.0.start ≡ Some start

-- The seat has a ticket, known modulo 2 ^ 64, but no turn and no slot.
pub record IsWaiting {X E N : Type 0} (start : X) (me : Me (Option X) (View X E N))
    (known : ℕ) : Type 0 where
  pub holds : me.1 ≡ []
  pub number : ℕ
  pub ticket : me.0.ticket ≡ Some number
  pub known_is : known ≡ number % 2 ^ 64
  pub taken : me.0.taken ≡ None
  pub begun : me.0.start ≡ Some start
