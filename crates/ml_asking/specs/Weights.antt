-- What falls at each turn of a search that asks, over any desk: also where a desk gives items that
-- don't unify, which use no inference. The code counts nothing of this; its loop ends by it.
use Rattle.std.specs.Prelude.{◌≡◌, ℕ, ◌+◌, ◌-◌, ◌*◌, ◌^◌, ◌<◌, ◌⊎◌, List, [], ◌∷◌}
use Rattle.ml_search.specs.Program.{Clause}
use Rattle.ml_search.specs.Bodies.{body_from, body_size}
use Rattle.ml_search.specs.Actions.{Continuation, count_inference, Branch}
use Rattle.ml_search.specs.Search.{continuation_size}
use Rattle.ml_search.specs.Operations.{Operation, next, Reply, item}
use Rattle.ml_asking.specs.Asking.{Member, ChoicePoint, branch_choice, clause_choices, item_choices}
use Rattle.ml_asking.specs.Asking.{FindallFrame, AskingSearch, Move, finish, go_on, request}

-- A branch weighs 3 to the power of its size, but one whose turn uses an inference weighs one:
-- nothing bounds the body of an item.
abbrev pub branch_weight : Continuation Member → ℕ
branch_weight (count_inference gs) = 1
branch_weight gs = 3 ^ continuation_size gs

-- the branches that clauses would be, and one more for each
abbrev pub clauses_weight : Branch Member → List Clause → ℕ
clauses_weight b [] = 0
clauses_weight b (c ∷ cs) =
    (1 + 3 ^ (body_size (body_from c.body) + continuation_size b.goals)) + clauses_weight b cs

module _ (most : ℕ) where
  -- a cursor weighs two for each item that it may still give, if it gives fewer than a number
  abbrev pub choice_point_weight : ChoicePoint → ℕ
  choice_point_weight (branch_choice b) = branch_weight b.goals
  choice_point_weight (clause_choices goal b cs) = 1 + clauses_weight b cs
  choice_point_weight (item_choices how goal b c i) = 1 + 2 * (most - i)

  -- the weight of choice points is the sum of their weights
  abbrev pub choice_points_weight : List ChoicePoint → ℕ
  choice_points_weight [] = 0
  choice_points_weight (e ∷ r) = choice_point_weight e + choice_points_weight r

  -- a search that waits weighs what its choice points weigh, and its branch with one more for what
  -- it is unified with
  abbrev pub frames_weight : List FindallFrame → ℕ
  frames_weight [] = 0
  frames_weight (w ∷ ws) =
      choice_points_weight w.choice_points + 3 ^ (1 + continuation_size w.branch.goals)
      + frames_weight ws

  -- the weight of a search
  abbrev pub weight : AskingSearch → ℕ
  weight m = choice_points_weight m.choice_points + frames_weight m.frames

  -- a reply gives an item by a number below the bound, or gives none
  abbrev pub IsBelow : Operation → Reply → Type 0
  IsBelow (next c i) (item t) = i < most
  IsBelow o p = Unit {0}

  -- A move is the end, or a state with fewer inferences left or with as many and a smaller weight,
  -- or asks what every such reply leads to such a move.
  abbrev pub FallsBelow : ℕ → ℕ → Move → Type 0
  FallsBelow left n (finish o) = Unit {0}
  FallsBelow left n (go_on m) = (m.left < left) ⊎ ((m.left ≡ left) × (weight m < n))
  FallsBelow left n (request o f) = (p : Reply) → IsBelow o p → FallsBelow left n (f p)
