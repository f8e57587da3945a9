-- How cells are laid out: what a heap's fields say of the changes that were made, and when the
-- cells are those of the changes.
use Rattle.std.specs.Prelude.{◌≡◌, ◌-◌, ◌<◌, ◌≤◌, ◌+◌, ◌^◌, ℕ, nat_le, Bool, true, false, ◌&&◌}
use Rattle.std.specs.Prelude.{if◌then◌else◌, List, [], ◌∷◌, map, reverse, length, take}
use Rattle.std.specs.Prelude.{slice_index_or, slice_set, Option, Some, None}
use Rattle.std.specs.List.{list_all}
use Rattle.ml_term.specs.Names.{is_name}
use Rattle.ml_term.specs.Valid.{is_in_range}
use Rattle.ml_term.specs.Tree.{Tree, variable, integer, atom, compound, trees_of, is_ground}
use Rattle.ml_heap.specs.Changes.{Change, variable_made, integer_made, atom_made, compound_made}
use Rattle.ml_heap.specs.Changes.{variable_bound, numbers_left_out, ground_found, Changes, State}
use Rattle.ml_heap.specs.Changes.{state, tree_in}
use Rattle.ml_heap.specs.declared.cell.Cell.{Cell}
use Rattle.ml_heap.specs.declared.cell.Cell.TheVariants.{Unbound, Bound, Int, Atom, Cmp}
use Rattle.ml_heap.specs.declared.cell.Step.{Step}
use Rattle.ml_heap.specs.declared.cell.Step.TheVariants.{Made, Binding, LeftOut, Ground}

-- the change by which a cell was made
abbrev pub change_of_cell : Cell → Change
change_of_cell (Unbound n) = variable_made
change_of_cell (Bound n q) = variable_made
change_of_cell (Int z) = integer_made z
change_of_cell (Atom f) = atom_made f
change_of_cell (Cmp f qs g) = compound_made f qs

-- cells made and bindings in the order of the steps, the latest first
abbrev pub interleave_steps : List Step → List Change → List Change
interleave_steps [] ms = []
interleave_steps (Made ∷ ss) [] = interleave_steps ss []
interleave_steps (Made ∷ ss) (m ∷ ms) = m ∷ interleave_steps ss ms
interleave_steps (Binding v q ∷ ss) ms = variable_bound v q ∷ interleave_steps ss ms
interleave_steps (LeftOut n ∷ ss) ms = numbers_left_out n ∷ interleave_steps ss ms
interleave_steps (Ground r ∷ ss) ms = ground_found r ∷ interleave_steps ss ms

-- the changes that led to some cells, by the steps, the latest first
abbrev pub changes_by : List Step → List Cell → Changes
changes_by ss cells = interleave_steps ss (reverse (map change_of_cell cells))

-- the same by the steps as they are kept, the latest last
abbrev pub changes_of : List Step → List Cell → Changes
changes_of steps cells = changes_by (reverse steps) cells

-- the cell at a place, and 0 past the end
abbrev pub cell_in : List Cell → ℕ → Cell
cell_in cells r = slice_index_or cells r (Unbound 0)

-- the number of a cell's variable
abbrev pub number_of : Cell → Option ℕ
number_of (Unbound n) = Some n
number_of (Bound n q) = Some n
number_of _ = None

-- a cell of a variable has a rank above those of older variables, and above those of all other
-- cells
abbrev pub rank_of : Cell → ℕ
rank_of (Unbound n) = n + 1
rank_of (Bound n q) = n + 1
rank_of _ = 0

-- Whether a cell fits its tree, where the others stand for theirs. A bound one leads to a cell of a
-- lower rank. What is marked as ground is ground.
abbrev pub Fits : List Tree → List Cell → Tree → Cell → Type 0
Fits ts cells t (Unbound n) = t ≡ variable n
Fits ts cells t (Bound n q) = (t ≡ tree_in ts q) × (q < length cells)
    × (rank_of (cell_in cells q) ≤ n)
Fits ts cells t (Int z) = t ≡ integer z
Fits ts cells t (Atom f) = t ≡ atom f
Fits ts cells t (Cmp f qs g) = (t ≡ compound f (trees_of (map (tree_in ts) qs)))
    × ((i : ℕ) → i < length qs → slice_index_or qs i 0 < length cells)
    × (g ≡ true → is_ground t ≡ true)

-- Cells that stand for the trees of a state. No two are of one variable.
pub record StandFor (cells : List Cell) (s : State) : Type 0 where
  pub size : length s.trees ≡ length cells
  pub fit : (r : ℕ) → r < length cells → Fits s.trees cells (tree_in s.trees r) (cell_in cells r)
  pub apart : (r q n : ℕ) → number_of (cell_in cells r) ≡ Some n →
      number_of (cell_in cells q) ≡ Some n → r < length cells → q < length cells → r ≡ q
  pub created : (r n : ℕ) → r < length cells → number_of (cell_in cells r) ≡ Some n → n < s.created

-- a bound cell becomes unbound
abbrev pub free_cell : Cell → Cell
free_cell (Bound n q) = Unbound n
free_cell c = c

-- a compound's cell with another mark
abbrev pub with_mark : Bool → Cell → Cell
with_mark g (Cmp f qs b) = Cmp f qs g
with_mark g c = c

-- the cells before a step
abbrev pub cells_before : Step → List Cell → List Cell
cells_before Made cells = take (length cells - 1) cells
cells_before (Binding v q) cells = slice_set cells v (free_cell (cell_in cells v))
cells_before (LeftOut n) cells = cells
cells_before (Ground r) cells = slice_set cells r (with_mark false (cell_in cells r))

-- a step is one of some cells
abbrev pub IsStepOf : Step → List Cell → Type 0
IsStepOf Made cells = 0 < length cells
IsStepOf (Binding v q) cells = v < length cells
IsStepOf (LeftOut n) cells = Unit {0}
IsStepOf (Ground r) cells = r < length cells

-- The cells stand for what the changes give, and did so before each step. The steps are the latest
-- first.
abbrev pub AreKept : List Step → List Cell → Type 0
AreKept [] cells = cells ≡ []
AreKept (s ∷ ss) cells = StandFor cells (state (changes_by (s ∷ ss) cells)) × IsStepOf s cells
    × AreKept ss (cells_before s cells)

-- Whether a change is one of terms of the language: its integer is in range, its name is one, and
-- there are 1 to 255 arguments.
abbrev pub is_valid_change : Change → Bool
is_valid_change variable_made = true
is_valid_change (integer_made z) = is_in_range z
is_valid_change (atom_made f) = is_name f
is_valid_change (compound_made f qs) = is_name f && nat_le 1 (length qs) && nat_le (length qs) 255
is_valid_change (variable_bound v q) = true
is_valid_change (numbers_left_out n) = true
is_valid_change (ground_found r) = true

-- What a heap's fields keep: the steps are the latest last, variables are counted, below 2 to the
-- power of 32, and what was made was valid.
pub record IsKept (steps : List Step) (cells : List Cell) (n : ℕ) : Type 0 where
  pub kept : AreKept (reverse steps) cells
  pub count : n ≡ (state (changes_of steps cells)).created
  pub few : n < 2 ^ 32
  pub valid : list_all is_valid_change (changes_of steps cells) ≡ true

-- a cell that isn't bound
abbrev pub IsEnd : Cell → Type 0
IsEnd (Bound n q) = ⊥
IsEnd _ = Unit {0}

-- bound cells lead to cells of lower ranks
abbrev pub AreLinked : List Cell → Type 0
AreLinked cells = (r n q : ℕ) → r < length cells → cell_in cells r ≡ Bound n q →
    (q < length cells) × (rank_of (cell_in cells q) ≤ n)

-- bound cells have the trees of the cells that they lead to
abbrev pub FollowLinks : List Tree → List Cell → Type 0
FollowLinks ts cells = (r n q : ℕ) → r < length cells → cell_in cells r ≡ Bound n q →
    tree_in ts r ≡ tree_in ts q

-- a cell that is known to be ground: its marks say so
abbrev pub is_known_ground : Cell → Bool
is_known_ground (Int z) = true
is_known_ground (Atom f) = true
is_known_ground (Cmp f qs g) = g
is_known_ground _ = false

-- all cells fit their trees
abbrev pub FitAll : List Tree → List Cell → Type 0
FitAll ts cells = (r : ℕ) → r < length cells → Fits ts cells (tree_in ts r) (cell_in cells r)

-- whether a cell is one of a variable
abbrev pub is_of_variable : Cell → Bool
is_of_variable (Unbound n) = true
is_of_variable (Bound n q) = true
is_of_variable _ = false

-- the latest step, where the latest is last
abbrev pub last_step : List Step → Step
last_step steps = slice_index_or steps (length steps - 1) Made

-- how many numbers of variables there are less before a step
abbrev pub numbers_of : Step → List Cell → ℕ
numbers_of Made cells = if is_of_variable (cell_in cells (length cells - 1)) then 1 else 0
numbers_of (Binding v q) cells = 0
numbers_of (LeftOut n) cells = n
numbers_of (Ground r) cells = 0

-- a cell at the end of another one's bindings: it isn't bound, and stands for the same
pub record IsEndOf (cells : List Cell) (at end : ℕ) : Type 0 where
  pub inside : end < length cells
  pub unbound : IsEnd (cell_in cells end)
  pub same : (ts : List Tree) → FitAll ts cells → tree_in ts end ≡ tree_in ts at

-- A compound's cell that isn't marked as ground, though each of its arguments is known to be.
abbrev pub IsGroundUnmarked : List Cell → ℕ → Type 0
IsGroundUnmarked cells r = (f : List ℕ) × ((qs : List ℕ) × ((cell_in cells r ≡ Cmp f qs false)
    × ((ts : List Tree) → FitAll ts cells → is_ground (tree_in ts r) ≡ true)))

-- a cell leads to one that isn't known to be ground
abbrev pub IsOfUnknown : List Cell → ℕ → Type 0
IsOfUnknown cells at = (end : ℕ) × IsEndOf cells at end
    × (is_known_ground (cell_in cells end) ≡ false)
