-- The outline of a term that is taken as a body: a variable in place of each term in it. It is made
-- in a walk from the left, with a stack of what waits for the outline at hand.
use Rattle.std.specs.Prelude.{◌≡◌, ℕ, ◌+◌, ◌*◌, ◌<◌, List, [], ◌∷◌, ◌++◌, length, map}
use Rattle.std.specs.Prelude.{if◌then◌else◌}
use Rattle.ml_term.specs.Tree.{Tree, variable, integer, atom, compound, no_trees, tree, compound_2}
use Rattle.ml_term.specs.Tree.{trees_of, list_of, nodes}
use Rattle.ml_term.specs.Seen.{seen}
use Rattle.ml_search.specs.Bodies.{joins_bodies}
use Rattle.ml_heap.specs.Changes.{Changes, AreCells, cell_count, stands_for}
use Rattle.ml_called.specs.Called.{numbered}
use Rattle.ml_called.specs.declared.walk.Frame.{Frame}
use Rattle.ml_called.specs.declared.walk.Frame.TheVariants.{First, Second}
use Rattle.ml_called.specs.declared.walk.Step.{Step}
use Rattle.ml_called.specs.declared.walk.Step.TheVariants.{Enter, Outlined}

-- the terms in a term that is taken as a body, from the left
abbrev pub parts : Tree → List Tree
parts (variable n) = variable n ∷ []
parts (integer z) = []
parts (atom f) = []
parts (compound f (tree t (tree u no_trees))) =
    if joins_bodies f then parts t ++ parts u
    else t ∷ u ∷ []
parts (compound f ts) = list_of ts

-- the term with the variables from a number on in their places
abbrev pub outline : ℕ → Tree → Tree
outline n (variable k) = variable n
outline n (integer z) = integer z
outline n (atom f) = atom f
outline n (compound f (tree t (tree u no_trees))) =
    if joins_bodies f then compound_2 f (outline n t) (outline (n + length (parts t)) u)
    else compound_2 f (variable n) (variable (n + 1))
outline n (compound f ts) = compound f (trees_of (numbered n (list_of ts)))

-- an outline, and the terms of its variables
pub record Outline : Type 0 where
  pub term : Tree
  pub terms : List Tree

-- the outline of a term behind the terms of others
abbrev pub outline_behind : List Tree → Tree → Outline
outline_behind ts t = record { term = outline (length ts) t; terms = ts ++ parts t }

-- what a frame makes of the outline that it waits for
abbrev pub frame_outline : Changes → Frame → Outline → Outline
frame_outline h (First f r) o =
    record {
      term = compound_2 f o.term (outline (length o.terms) (stands_for h r));
      terms = o.terms ++ parts (stands_for h r);
    }
frame_outline h (Second f a) o = record { term = compound_2 f (seen a) o.term; terms = o.terms }

-- what some frames make of it, the last one first
abbrev pub frames_outline : Changes → List Frame → Outline → Outline
frames_outline h [] o = o
frames_outline h (f ∷ fs) o = frame_outline h f (frames_outline h fs o)

-- the outline that a step leads to, behind the terms so far
abbrev pub step_outline : Changes → List Tree → Step → Outline
step_outline h ts (Enter r) = outline_behind ts (stands_for h r)
step_outline h ts (Outlined a) = record { term = seen a; terms = ts }

-- Slots are those from before and some cells, which stand for some terms.
pub record HasCells (h : Changes) (old new : List ℕ) (ts : List Tree) : Type 0 where
  pub cells : List ℕ
  pub slots : new ≡ old ++ cells
  pub inside : AreCells (cell_count h) cells
  pub trees : map (stands_for h) cells ≡ ts

-- a list begins another
pub record Begins (old new : List ℕ) : Type 0 where
  pub more : List ℕ
  pub is : new ≡ old ++ more

-- whether the cell of a frame is one of the heap
abbrev pub IsSoundFrame : Changes → Frame → Type 0
IsSoundFrame h (First f r) = r < cell_count h
IsSoundFrame h (Second f a) = Unit {0}

-- whether this holds of some frames
abbrev pub AreSoundFrames : Changes → List Frame → Type 0
AreSoundFrames h [] = Unit {0}
AreSoundFrames h (f ∷ fs) = IsSoundFrame h f × AreSoundFrames h fs

-- whether the cell of a step is one of the heap
abbrev pub IsSoundStep : Changes → Step → Type 0
IsSoundStep h (Enter r) = r < cell_count h
IsSoundStep h (Outlined a) = Unit {0}

-- A walk is under way: the slots have the terms so far, and what waits makes of the step at hand
-- the outline that is wanted.
pub record IsWalking (h : Changes) (old : List ℕ) (want : Outline) (frames : List Frame)
    (slots : List ℕ) (step : Step) : Type 0 where
  pub terms : List Tree
  pub cells : HasCells h old slots terms
  pub leads : frames_outline h frames (step_outline h terms step) ≡ want
  pub sound_frames : AreSoundFrames h frames
  pub sound_step : IsSoundStep h step

-- how much of a walk a frame adds
abbrev pub work_of_frame : Changes → Frame → ℕ
work_of_frame h (First f r) = 3 * nodes (stands_for h r) + 2
work_of_frame h (Second f a) = 1

-- how much some frames add
abbrev pub work_of_frames : Changes → List Frame → ℕ
work_of_frames h [] = 0
work_of_frames h (f ∷ fs) = work_of_frame h f + work_of_frames h fs

-- how much a step leaves
abbrev pub work_of_step : Changes → Step → ℕ
work_of_step h (Enter r) = 3 * nodes (stands_for h r)
work_of_step h (Outlined a) = 0
