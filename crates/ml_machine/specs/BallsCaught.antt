-- A ball at a `catch/3`.
use Rattle.std.specs.Prelude.{◌≡◌, ℕ, suc, ◌+◌, Bool, true, false, slice_get, Some, None}
use Rattle.ml_term.specs.Tree.{Tree, rename, width}
use Rattle.ml_term.specs.Unify.{Map, unifier}
use Rattle.ml_term.specs.declared.term.Term.{Term}
use Rattle.ml_heap.specs.Changes.{variable_count}
use Rattle.ml_stack.specs.declared.frame.Frame.TheVariants.{Caught as CaughtFrame}
use Rattle.ml_stack.specs.declared.moment.Moment.{Moment}
use Rattle.ml_stack.specs.Memories.{Contents, Grows, tree}
use Rattle.ml_machine.specs.declared.machine.Machine.{Machine}
use Rattle.ml_machine.specs.declared.position.Position.TheVariants.{Throws}
use Rattle.ml_machine.specs.Positions.{StandsForAny}

-- a ball has come to a `catch/3`
abbrev pub IsCatch : Machine → Term → ℕ → Moment → ℕ → ℕ → ℕ → Type 0
IsCatch s ball height moment catcher recovery next =
    (i : ℕ)
    × (slice_get s.memory.frames i ≡ Some (CaughtFrame height moment catcher recovery next))
    × StandsForAny s (Throws ball (suc i))

-- Memory has grown by the unifier of a renamed ball and a catcher, with the ball's variables
-- counted.
pub record IsCaught (M N : Contents) (ball : Tree) (catcher : ℕ) : Type 0 where
  pub map : Map
  pub unified : unifier (rename (variable_count M.heap) ball) (tree M catcher) ≡ Some map
  pub grown : Grows M N map
  pub counted : variable_count N.heap ≡ variable_count M.heap + width ball

-- there is no unifier, and memory is as it was
pub record IsNotCaught (M N : Contents) (ball : Tree) (catcher : ℕ) : Type 0 where
  pub unlike : unifier (rename (variable_count M.heap) ball) (tree M catcher) ≡ None
  pub same : N ≡ M

-- the one or the other
abbrev pub IsTried : Contents → Contents → Tree → ℕ → Bool → Type 0
IsTried M N ball catcher true = IsCaught M N ball catcher
IsTried M N ball catcher false = IsNotCaught M N ball catcher
