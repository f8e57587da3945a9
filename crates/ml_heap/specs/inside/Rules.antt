-- Which rule of unification two cells call for.
use Rattle.std.specs.Prelude.{◌≡◌, ◌<◌, ℕ, true, false, List, map, length, slice_index}
use Rattle.std.specs.List.{zip}
use Rattle.ml_term.specs.Tree.{Tree, variable, occurs}
use Rattle.ml_term.specs.Unify.{Equation, step, decompose, eliminate, clash}
use Rattle.ml_heap.specs.Changes.{Changes, cell_count, stands_for, IsYounger}
use Rattle.ml_heap.specs.declared.unify.Rule.{Rule}
use Rattle.ml_heap.specs.declared.unify.Rule.TheVariants.{Same, Clash, Bind, Split}

-- Whether the equation of two terms is one of a variable and another term: the variable is to be
-- replaced unless it occurs there, and is the younger of two variables.
abbrev pub IsToBeBound : Tree → Tree → Tree → Tree → Type 0
IsToBeBound (variable n) w t u = IsYounger n w × (occurs n w ≡ false → step t u ≡ eliminate n w)
    × (occurs n w ≡ true → step t u ≡ clash)
IsToBeBound v w t u = ⊥

-- the equations of the terms of some cells, one pair after another
abbrev pub pairs : Changes → List ℕ → List ℕ → List Equation
pairs h qs ps = zip (map (stands_for h) qs) (map (stands_for h) ps)

-- whether some cells are in a heap
abbrev pub AreInside : Changes → List ℕ → Type 0
AreInside h qs = (i : ℕ) → i < length qs → slice_index qs i < cell_count h

-- whether a rule is the one that two terms call for
abbrev pub Applies : Changes → Tree → Tree → Rule → Type 0
Applies h t u Same = t ≡ u
Applies h t u Clash = step t u ≡ clash
Applies h t u (Bind v q) = (v < cell_count h) × (q < cell_count h)
    × IsToBeBound (stands_for h v) (stands_for h q) t u
Applies h t u (Split qs ps) = (length qs.now ≡ length ps.now) × AreInside h qs.now
    × AreInside h ps.now × (step t u ≡ decompose (pairs h qs.now ps.now))
