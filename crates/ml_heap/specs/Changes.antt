-- What a heap is: what was made and bound in it, and the trees that its cells then stand for. The
-- code writes bindings into cells and undoes them from a trail; here each cell has a whole tree, a
-- binding replaces a variable in all of them, and an earlier heap is what is left without the
-- latest changes.
use Rattle.std.specs.Prelude.{◌≡◌, ℕ, ◌+◌, ◌-◌, ◌≤◌, ℤ, pos, List, [], ◌∷◌, ◌++◌, map, length, drop}
use Rattle.std.specs.Prelude.{slice_index_or, ◌<◌, false}
use Rattle.ml_term.specs.Tree.{Tree, variable, integer, atom, compound, trees_of, list_of, occurs}
use Rattle.ml_term.specs.Unify.{apply, binding}

-- A cell was made: for a new variable, an integer, an atom, or a compound of a name and its
-- arguments' cells. Or a cell's variable was bound to what another cell stands for, some numbers of
-- variables were left out, or a cell's term was found to be ground, so that it need not be walked
-- again.
pub data Change : Type 0 where
  variable_made : Change
  integer_made : ℤ → Change
  atom_made : List ℕ → Change
  compound_made : List ℕ → List ℕ → Change
  variable_bound : ℕ → ℕ → Change
  numbers_left_out : ℕ → Change
  ground_found : ℕ → Change

-- the changes of a heap since it was new, the latest first
abbrev pub Changes : Type 0
Changes = List Change

-- the trees of all cells by their places, and how many variables were created
pub record State : Type 0 where
  pub trees : List Tree
  pub created : ℕ

-- the tree at a place, and 0 past the end
abbrev pub tree_in : List Tree → ℕ → Tree
tree_in ts r = slice_index_or ts r (integer (pos 0))

-- some trees with another tree in place of a variable
abbrev pub bind_in : Tree → Tree → List Tree → List Tree
bind_in (variable n) t ts = map (apply (binding n t)) ts
bind_in _ t ts = ts

-- what one change does
abbrev pub apply_change : Change → State → State
apply_change variable_made s = record
    { trees = s.trees ++ variable s.created ∷ []; created = s.created + 1 }
apply_change (integer_made z) s = record { trees = s.trees ++ integer z ∷ []; created = s.created }
apply_change (atom_made f) s = record { trees = s.trees ++ atom f ∷ []; created = s.created }
apply_change (compound_made f qs) s =
    record {
      trees = s.trees ++ compound f (trees_of (map (tree_in s.trees) qs)) ∷ [];
      created =
          s.created;
    }
apply_change (variable_bound v q) s =
    record { trees = bind_in (tree_in s.trees v) (tree_in s.trees q) s.trees; created = s.created }
apply_change (numbers_left_out n) s = record { trees = s.trees; created = s.created + n }
apply_change (ground_found r) s = s

-- what all changes lead to
unfoldable pub state : Changes → State
state [] = record { trees = []; created = 0 }
state (c ∷ h) = apply_change c (state h)

-- the trees of a heap's cells
abbrev pub trees : Changes → List Tree
trees h = (state h).trees

-- how many cells a heap has: its cells have the places below
abbrev pub cell_count : Changes → ℕ
cell_count h = length (trees h)

-- how many variables were created in a heap: they are numbered from 0
abbrev pub variable_count : Changes → ℕ
variable_count h = (state h).created

-- the tree that a cell stands for
abbrev pub stands_for : Changes → ℕ → Tree
stands_for h r = tree_in (trees h) r

-- whether all of some cells are below a place
abbrev pub AreCells : ℕ → List ℕ → Type 0
AreCells n [] = Unit {0}
AreCells n (q ∷ qs) = (q < n) × AreCells n qs

-- A mark is how many changes had been made. The heap of a mark has those alone.
abbrev pub heap_of_mark : Changes → ℕ → Changes
heap_of_mark h m = drop (length h - m) h

-- every mark of a heap is a mark of a later one, of the same heap
abbrev pub KeepsMarks : Changes → Changes → Type 0
KeepsMarks h h' = (m : ℕ) → m ≤ length h → (m ≤ length h') × (heap_of_mark h' m ≡ heap_of_mark h m)

-- one cell more, at the next place, that stands for a tree. All other cells stay.
pub record HasOneMore (h h' : Changes) (r : ℕ) (t : Tree) : Type 0 where
  pub place : r ≡ cell_count h
  pub trees : (state h').trees ≡ (state h).trees ++ t ∷ []
  pub marks : KeepsMarks h h'

-- Some cells more, after the others, which stay.
pub record Grows (h h' : Changes) : Type 0 where
  pub cells : cell_count h ≤ cell_count h'
  pub others : (q : ℕ) → q < cell_count h → stands_for h' q ≡ stands_for h q
  pub marks : KeepsMarks h h'

-- some cells more, of which one stands for a tree
pub record HasTree (h h' : Changes) (r : ℕ) (t : Tree) : Type 0 where
  pub inside : r < cell_count h'
  pub stands : stands_for h' r ≡ t
  pub grown : Grows h h'

-- the arguments of a compound, and none of all other terms
abbrev pub arguments_of : Tree → List Tree
arguments_of (compound f ts) = list_of ts
arguments_of _ = []

-- a variable that is younger than a term, if that is a variable too
abbrev pub IsYounger : ℕ → Tree → Type 0
IsYounger n (variable k) = k < n
IsYounger n _ = Unit {0}

-- whether a term is a variable that may be bound to another term: it doesn't occur there, and is
-- the younger of two variables
abbrev pub MayBeBound : Tree → Tree → Type 0
MayBeBound (variable n) t = (occurs n t ≡ false) × IsYounger n t
MayBeBound _ t = ⊥

-- the number of a variable, by which an older one comes before a younger one
abbrev pub number : Tree → ℕ
number (variable n) = n
number _ = 0

-- whether a term is a variable
abbrev pub IsVariable : Tree → Type 0
IsVariable (variable n) = Unit {0}
IsVariable _ = ⊥
