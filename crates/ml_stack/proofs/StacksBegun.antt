-- Stacks as they begin stand for a search with nothing to choose.
use Rattle.std.specs.Prelude.{◌≡◌, ◌<◌, ℕ, List, [], ◌∷◌, length, reverse}
use Rattle.std.proofs.Common.{refl, sym, ap, arith, length-append}
use Rattle.ml_search.specs.Actions.{Branch, success}
use Rattle.ml_asking.specs.Asking.{Member, branch_choice, FindallFrame}
use Rattle.ml_heap.specs.Changes.{Changes, HasOneMore, trees, variable_count}
use Rattle.ml_term.specs.Tree.{Tree}
use Rattle.ml_stack.specs.declared.choice.Choice.{Choice}
use Rattle.ml_stack.specs.declared.choice.Left.TheVariants.{Goes}
use Rattle.ml_stack.specs.declared.level.Stacks.{Stacks}
use Rattle.ml_stack.specs.Memories.{Contents, IsTree, tree}
use Rattle.ml_stack.specs.Stands.{View, ends, IsBranch, of_link, IsLeft, of_goes, bottom, nobody}
use Rattle.ml_stack.specs.Choices.{StandFor}
use Rattle.ml_stack.specs.Levels.{StacksStand}

-- a search with nothing
abbrev pub nothing : View
nothing = record { choices = []; choice_points = []; terms = []; levels = []; findalls = [] }

-- a branch at its end
abbrev pub branch_at_end : Contents → Branch Member
branch_at_end M = record { goals = success; terms = []; next = variable_count M.heap }

-- a search with nothing that waits for a list
abbrev pub waits_for : Contents → ℕ → FindallFrame
waits_for M r = record { choice_points = []; found = []; branch = branch_at_end M; list = tree M r }

pub branch_stands : (M : Contents) → IsBranch [] M nothing 0 (branch_at_end M)
branch_stands M = of_link ends (record { terms = record { inside = tt; are = refl }; next = refl })

pub left_stands : (M : Contents) → IsLeft [] M nothing (Goes 0) (branch_choice (branch_at_end M))
left_stands M = of_goes (branch_stands M)

pub choices_begin : (M : Contents) (cs : List Choice) → cs ≡ [] → StandFor [] M cs nothing
choices_begin M cs e = record { seen = ap reverse (sym e); stacked = bottom refl refl nobody }

pub stacks_begin : (M : Contents) (s : Stacks) → s.choices.items ≡ [] → s.terms.items ≡ [] → s.levels.items ≡ [] → StacksStand [] M s nothing
stacks_begin M s c t l = record { choices = ap reverse (sym c); terms = sym t; levels = ap reverse (sym l); stacked = bottom refl refl nobody }

-- a cell that was made is one of the memory
pub made_inside : (h : Changes) (M : Contents) (r : ℕ) (t : Tree) → HasOneMore h M.heap r t → IsTree M r (tree M r)
made_inside h M r t o = record { inside = omega (arith, o.place, ap length o.trees, length-append (trees h) (t ∷ [])); is = refl }
