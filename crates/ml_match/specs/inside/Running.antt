-- The head of a clause while it is matched, one instruction after another. No public clause cites
-- this module.
use Rattle.std.specs.Prelude.{◌≡◌, ℕ, ◌+◌, ◌<◌, ◌≤◌, true, List, [], ◌∷◌, map, reverse, length}
use Rattle.std.specs.Prelude.{Option, Some, None}
use Rattle.std.specs.List.{zip}
use Rattle.ml_term.specs.Tree.{Tree, variable, occurs, substitute}
use Rattle.ml_term.specs.Unify.{Equation, apply, mgu}
use Rattle.ml_heap.specs.Changes.{Changes, cell_count, stands_for}
use Rattle.ml_compile.specs.declared.instr.Instr.{Instr}
use Rattle.ml_compile.specs.Spells.{Matches}
use Rattle.ml_match.specs.Slots.{HasSlot, slot_tree}
use Rattle.ml_match.specs.inside.Matching.{IsSolving}

-- the variables of a term are numbered below a number
abbrev pub IsBelow : ℕ → Tree → Type 0
IsBelow n t = (k : ℕ) → occurs k t ≡ true → k < n

-- cells of a heap, whose variables are numbered below a number
abbrev pub AreBelow : Changes → ℕ → List ℕ → Type 0
AreBelow h n [] = Unit {0}
AreBelow h n (q ∷ qs) = ((q < cell_count h) × IsBelow n (stands_for h q)) × AreBelow h n qs

-- a slot of a variable that the head has met: its term has none that it hasn't
pub record IsMet (h : Changes) (slots : List ℕ) (env below n : ℕ) : Type 0 where
  pub slot : HasSlot h slots (env + n)
  pub below_it : IsBelow below (slot_tree h slots env n)

-- a slot of a variable that the head hasn't met: it stands for itself
pub record IsUnmet (h : Changes) (slots : List ℕ) (env number n : ℕ) : Type 0 where
  pub slot : HasSlot h slots (env + n)
  pub itself : slot_tree h slots env n ≡ variable number

-- The instructions from a place on match the terms that are left, which are to be what the waiting
-- cells stand for, the last cell first. The call's equations are solved as far as that. No term
-- that is reached has a variable that the head hasn't met.
pub record IsRunning (code : List Instr) (es : List Equation) (old : Changes)
    (next wide env q at : ℕ) (h : Changes) (slots todo : List ℕ) : Type 0 where
  pub met : ℕ
  pub after : ℕ
  pub terms : List Tree
  pub matches : Matches code at q met terms after
  pub within : after ≤ wide
  pub many : length todo ≡ length terms
  pub solving : IsSolving es old h
      (zip (map (stands_for h) (reverse todo)) (map (substitute (slot_tree h slots env)) terms))
  pub waiting : AreBelow h (next + met) (reverse todo)
  pub older : (r : ℕ) → r < cell_count old → IsBelow (next + met) (stands_for h r)
  pub met_slots : (n : ℕ) → n < met → IsMet h slots env (next + met) n
  pub unmet_slots : (n : ℕ) → met ≤ n → n < wide → IsUnmet h slots env (next + n) n
  pub stand : (n : ℕ) → n < wide
      → slot_tree h slots env n ≡ apply solving.map_so_far (variable (next + n))

-- what comes of an instruction: the place from which on the rest is matched, or none where nothing
-- unifies the call's arguments with the head's
abbrev pub RunsOn : List Instr → List Equation → Changes → ℕ → ℕ → ℕ → ℕ → Changes → List ℕ →
    List ℕ → Option ℕ → Type 0
RunsOn code es old next wide env q h slots todo None = mgu es ≡ None
RunsOn code es old next wide env q h slots todo (Some at) =
    IsRunning code es old next wide env q at h slots todo

-- whatever the call and the clause are: where a head was matched so far, it is so after
abbrev pub GoesOn : List Instr → ℕ → ℕ → Changes → List ℕ → List ℕ → Changes → List ℕ →
    List ℕ → Option ℕ → Type 0
GoesOn code env at h slots todo h' slots' todo' found =
    (es : List Equation) (old : Changes) (next wide q : ℕ)
    → IsRunning code es old next wide env q at h slots todo
    → RunsOn code es old next wide env q h' slots' todo' found

-- some head is matched so far
pub record MayRun (code : List Instr) (env at : ℕ) (h : Changes) (slots todo : List ℕ) :
    Type 0 where
  pub equations : List Equation
  pub old : Changes
  pub next : ℕ
  pub wide : ℕ
  pub q : ℕ
  pub running : IsRunning code equations old next wide env q at h slots todo

-- the first of some terms takes the instructions up to a place
pub record FirstTerm (code : List Instr) (at end q met : ℕ) (ts : List Tree) (after : ℕ) :
    Type 0 where
  pub between : ℕ
  pub term : Tree
  pub rest : List Tree
  pub is : ts ≡ term ∷ rest
  pub front : Matches code at end met (term ∷ []) between
  pub behind : Matches code end q between rest after

-- the term at a place takes the instructions up to another place
abbrev pub EndsAt : List Instr → ℕ → ℕ → Type 0
EndsAt code at end = (q met after : ℕ) (ts : List Tree) → Matches code at q met ts after → at < q
    → FirstTerm code at end q met ts after
