-- The answers of a search inside a `findall/3`, copied and made a list, which is unified with the
-- wanted one.
use Rattle.std.specs.Prelude.{◌≡◌, ℕ, Bool, true, false, List, map, Some, None}
use Rattle.std.specs.List.{flat_map}
use Rattle.ml_term.specs.Tree.{Tree}
use Rattle.ml_term.specs.Unify.{Map, unifier}
use Rattle.ml_search.specs.Actions.{copies, next_after}
use Rattle.ml_search.specs.ListTerms.{list_term}
use Rattle.ml_heap.specs.Changes.{Changes, AreCells, cell_count, stands_for, variable_count}
use Rattle.ml_heap.specs.Changes.{Grows as HeapGrows}
use Rattle.ml_stack.specs.Memories.{Contents, Grows, tree}

-- the answers of one term each, one after another
abbrev pub all_of : List (List Tree) → List Tree
all_of = flat_map (λ ts. ts)

-- a heap has grown by copies of answers
pub record AreCopied (h k : Changes) (cells : List ℕ) (found : List (List Tree)) : Type 0 where
  pub inside : AreCells (cell_count k) cells
  pub are : map (stands_for k) cells ≡ copies (variable_count h) (all_of found)
  pub counted : variable_count k ≡ next_after (variable_count h) (all_of found)
  pub grown : HeapGrows h k

-- the list of the copies
abbrev pub list_of_copies : Contents → List (List Tree) → Tree
list_of_copies M found = list_term (copies (variable_count M.heap) (all_of found))

-- memory has grown by the unifier of the wanted list and that of the copies
pub record IsGathered (M N : Contents) (list : ℕ) (found : List (List Tree)) : Type 0 where
  pub map : Map
  pub unified : unifier (tree M list) (list_of_copies M found) ≡ Some map
  pub grown : Grows M N map
  pub counted : variable_count N.heap ≡ next_after (variable_count M.heap) (all_of found)

-- there is no unifier, and memory is as it was
pub record IsNotGathered (M N : Contents) (list : ℕ) (found : List (List Tree)) : Type 0 where
  pub unlike : unifier (tree M list) (list_of_copies M found) ≡ None
  pub same : N ≡ M

-- the one or the other
abbrev pub Gathers : Contents → Contents → ℕ → List (List Tree) → Bool → Type 0
Gathers M N list found true = IsGathered M N list found
Gathers M N list found false = IsNotGathered M N list found
