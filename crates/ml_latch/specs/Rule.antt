-- The rule of the table: the seats take turns at one value, and all that they know of it is true.
use Rattle.std.specs.Prelude.{◌≡◌, ◌≢◌, ℕ, suc, ◌+◌, ◌%◌, ◌^◌, ◌<◌, ◌≤◌, List, [], ◌∷◌, length}
use Rattle.std.specs.Prelude.{Option, Some, None, Contains}
use mathlib.Core.List.{IsPrefix}
use mathlib.Core.Option.{some, none}
use mathlib.Core.Option as maybe
use lib.ListN.{get_elem?}
use Rattle.atomic_table.specs.Table.{State}
use Rattle.ml_latch.specs.declared.view.View.{View}

-- 1 for a ticket, 0 for none.
abbrev pub ticket_count : Option ℕ → ℕ
ticket_count (Some ticket) = 1
ticket_count None = 0

-- How many of these seats have a ticket.
abbrev pub tickets_held : {X E N : Type 0} → List (View X E N) → ℕ
tickets_held [] = 0
tickets_held (v ∷ vs) = ticket_count v.ticket + tickets_held vs

-- What lies in the value's slot: the value, or nothing while a seat has its turn.
abbrev pub home : {X : Type 0} → Option ℕ → X → maybe.Option (Option X)
home None value = some (Some value)
home (Some place) value = none

-- The seat with the number n was taken in.
abbrev pub IsSpent : {X E N : Type 0} → List (View X E N) → ℕ → Type 0
IsSpent {X} {E} {N} views n = (v : View X E N) × (get_elem? views n ≡ some v) × (v.start ≡ None)

module _ {X E N B : Type 0} (past : X → List E) (own : X → ℕ → List N) (base : X → B) where
  -- What is so of a seat that was not taken in. Its number is its place among the views; the seat 0
  -- counts all others; what it has seen and was told begins the past; its own list is the value's,
  -- and so is each list that it keeps of a seat taken in.
  pub record Knows (start value : X) (views : List (View X E N)) (place : ℕ) (v : View X E N) : Type
      0 where
    pub begun : v.start ≡ Some start
    pub number : v.number ≡ place
    pub counts : place ≡ 0 → length views ≡ suc v.given
    pub seen : IsPrefix v.seen (past value)
    pub told : IsPrefix v.told (past value)
    pub own_is : own value place ≡ v.own
    pub kept : (n : ℕ) (notes : List N) → Contains v.kept (n, notes) → (own value n ≡ notes)
        × IsSpent views n

  -- What is so of each seat, where `taker` is the place of the one that has its turn. That one has
  -- taken the value, and its ticket is served; no other has taken a value. A ticket was drawn and
  -- not passed on, and a seat that has one was not taken in.
  pub record Fits (taker : Option ℕ) (passed drawn : ℕ) (start value : X)
      (views : List (View X E N))
      (place : ℕ) (v : View X E N) : Type 0 where
    pub turn : taker ≡ Some place → (v.taken ≡ Some value) × (v.ticket ≡ Some passed)
    pub idle : taker ≢ Some place → v.taken ≡ None
    pub ticket : (k : ℕ) → v.ticket ≡ Some k → (passed ≤ k) × (k < drawn) × (v.start ≡ Some start)
    pub knows : (x : X) → v.start ≡ Some x → Knows start value views place v

  -- There are counts of the tickets drawn and of the turns passed on, which the two words hold
  -- modulo 2 ^ 64, and there is one value: at home, or out with the seat that has its turn, and
  -- then it is the value as that turn found it. Each ticket that was drawn and not passed on is
  -- held by one seat. A seat's number is a u32, so there are at most 2 ^ 32 seats, and the tickets
  -- that are held stay different modulo 2 ^ 64. The list of a number that was not given out is that
  -- of the value at the start. The code has neither the counts nor the views.
  pub record IsInTurns (start : X) (s : State (Option X) (View X E N)) : Type 0 where
    pub drawn : ℕ
    pub passed : ℕ
    pub taker : Option ℕ
    pub value : X
    pub words : s.words ≡ (drawn % 2 ^ 64) ∷ (passed % 2 ^ 64) ∷ []
    pub homes : s.homes ≡ home taker value ∷ []
    pub order : passed ≤ drawn
    pub few : length s.views ≤ 2 ^ 32
    pub crowd : drawn ≤ passed + tickets_held s.views
    pub there : (p : ℕ) → taker ≡ Some p → p < length s.views
    pub base_is : base value ≡ base start
    pub fresh : (n : ℕ) → length s.views ≤ n → own value n ≡ own start n
    pub each : (p : ℕ) (v : View X E N) → get_elem? s.views p ≡ some v
        → Fits taker passed drawn start value s.views p v
    pub apart : (p q k : ℕ) (v w : View X E N) → get_elem? s.views p ≡ some v
        → get_elem? s.views q ≡ some w
        → v.ticket ≡ Some k → w.ticket ≡ Some k → p ≡ q
