-- What becomes of the stacks where a search is put aside for the one inside its `findall/3`, and
-- where it is taken back.
use Rattle.std.specs.Prelude.{◌≡◌, ℕ, List, [], ◌∷◌, ◌++◌, Option, Some, None, reverse}
use Rattle.ml_asking.specs.Asking.{FindallFrame}
use Rattle.ml_stack.specs.declared.level.Level.{Level}
use Rattle.ml_stack.specs.declared.level.Stacks.{Stacks}
use Rattle.ml_stack.specs.declared.level.FindallEnd.{FindallEnd}
use Rattle.ml_stack.specs.Memories.{Contents, IsTree, CompiledProcedure}
use Rattle.ml_stack.specs.Stands.{View, IsBranch, Stacked}

-- a search as it begins inside a `findall/3` that asks for a template
abbrev pub inner_view : View → ℕ → List Level → FindallFrame → View
inner_view w template levels o =
    record {
      choices = [];
      choice_points = [];
      terms = template ∷ [];
      levels = reverse levels;
      findalls = o ∷ w.findalls;
    }

-- a search that is taken back
abbrev pub outer_view : Stacks → FindallFrame → List FindallFrame → View
outer_view s o os =
    record {
      choices = reverse s.choices.items;
      choice_points = o.choice_points;
      terms = s.terms.items;
      levels = reverse s.levels.items;
      findalls = os;
    }

-- Some level was the last one, and this is what it hands over; or there was none.
abbrev pub HandsOver : Stacks → Stacks → Option FindallEnd → Type 0
HandsOver old new None = old.levels.items ≡ []
HandsOver old new (Some end) =
    (l : Level) × (old.levels.items ≡ new.levels.items ++ l ∷ []) × (end.kept ≡ l.kept)
    × (end.found ≡ l.found)

module _ (ps : List CompiledProcedure) where
  -- Stacks stand for a view.
  pub record StacksStand (M : Contents) (s : Stacks) (w : View) : Type 0 where
    pub choices : w.choices ≡ reverse s.choices.items
    pub terms : w.terms ≡ s.terms.items
    pub levels : w.levels ≡ reverse s.levels.items
    pub stacked : Stacked ps M w

  -- The search that waited is taken back, and goes on at a link once its list is unified.
  pub record IsBack (M : Contents) (s : Stacks) (w : View) (end : FindallEnd) : Type 0 where
    pub o : FindallFrame
    pub os : List FindallFrame
    pub findalls : w.findalls ≡ o ∷ os
    pub stands : StacksStand M s (outer_view s o os)
    pub branch : IsBranch ps M (outer_view s o os) end.next o.branch
    pub list : IsTree M end.list o.list

  -- the one or the other
  abbrev pub GivesBack : Contents → Stacks → View → Option FindallEnd → Type 0
  GivesBack M s w None = w.findalls ≡ []
  GivesBack M s w (Some end) = IsBack M s w end

-- Stacks stand for some view, under some program.
abbrev pub StacksStandForSome : Contents → Stacks → Type 0
StacksStandForSome M s = (ps : List CompiledProcedure) × (w : View) × StacksStand ps M s w
