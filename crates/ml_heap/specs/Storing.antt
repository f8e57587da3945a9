-- A term that is being stored: the variables that were met, and what has been made of the term so
-- far.
use Rattle.std.specs.Prelude.{◌≡◌, ℕ, ◌+◌, ◌<◌, true, false, List, map, length, Option, Some, None}
use Rattle.std.specs.BTreeMap.{get}
use Rattle.std.specs.Ordering.{nat_cmp}
use Rattle.ml_term.specs.Tree.{Tree, Trees, variable, trees_of, has, firsts, place_in, substitute}
use Rattle.ml_term.specs.Tree.{substitute_in}
use Rattle.ml_heap.specs.Changes.{Changes, cell_count, variable_count, stands_for}
use Rattle.ml_heap.specs.Changes.{AreCells}
use Rattle.ml_heap.specs.declared.met.MetVariables.{MetVariables}

-- the cell of a variable that was met
abbrev pub cell_of : MetVariables → ℕ → Option ℕ
cell_of m n = get nat_cmp m.cells n

-- the new number of a variable, from a first number on, by its first place in a list
abbrev pub new_number : ℕ → List ℕ → ℕ → Tree
new_number base ns n = variable (base + place_in (firsts ns) n)

-- whether just the variables of a list were met, and created in a heap by their first places, from
-- a first number on
pub record Knows (h : Changes) (base : ℕ) (ns : List ℕ) (m : MetVariables) : Type 0 where
  pub met : (n : ℕ) → has n ns ≡ true →
      (r : ℕ) × ((cell_of m n ≡ Some r) × (r < cell_count h)
      × (stands_for h r ≡ new_number base ns n))
  pub no_others : (n : ℕ) → has n ns ≡ false → cell_of m n ≡ None
  pub count : variable_count h ≡ base + length (firsts ns)

-- A cell stands for a term that was stored, with the new numbers.
pub record IsStored (h : Changes) (base : ℕ) (ns : List ℕ) (m : MetVariables) (r : ℕ)
    (t : Tree) : Type 0 where
  pub knows : Knows h base ns m
  pub inside : r < cell_count h
  pub stands : stands_for h r ≡ substitute (new_number base ns) t

-- The same of some cells and arguments.
pub record AreStored (h : Changes) (base : ℕ) (ns : List ℕ) (m : MetVariables) (rs : List ℕ)
    (ts : Trees) : Type 0 where
  pub knows : Knows h base ns m
  pub inside : AreCells (cell_count h) rs
  pub stand : trees_of (map (stands_for h) rs) ≡ substitute_in (new_number base ns) ts
