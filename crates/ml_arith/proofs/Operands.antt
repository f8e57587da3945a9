-- The value of a compound by its arguments as a list.
use Rattle.std.specs.Prelude.{◌≡◌, ℕ, ◌+◌, ℤ, pos, ◌-ℤ◌, List, [], ◌∷◌, length, Bool, true, false, Some, None, codes, if◌then◌else◌}
use Rattle.std.specs.Str.{bytes_eq}
use Rattle.std.proofs.Common.{refl, sym, ap, ◌∙◌, arith}
use Rattle.ml_term.specs.Tree.{Tree, compound, trees_of, arity, nodes}
use Rattle.ml_heap.specs.Changes.{Changes, tree_in, stands_for, arguments_of}
use Rattle.ml_search.specs.Names.{look_up}
use Rattle.ml_search.specs.Evaluate.{Value, value, no_value, operations, operations_1, evaluable_error, apply_1, apply_2, evaluate, in_range}
use Rattle.ml_arith.specs.declared.operator.Operator.{Operator}
use Rattle.ml_arith.specs.declared.step.Task.TheVariants.{Negate, EvaluateRight, Operate}
use Rattle.ml_arith.specs.inside.Operators.{operation}
use Rattle.ml_arith.specs.inside.Tasks.{task_value, with_left}

pub value_of_one : (f : List ℕ) (ts : List Tree) → length ts ≡ 1
    → evaluate (compound f (trees_of ts)) ≡ apply_1 (look_up operations_1 f) (evaluable_error f 1) (evaluate (tree_in ts 0))
value_of_one f [] e = absurd (omega arith)
value_of_one f (t ∷ []) e = refl
value_of_one f (t ∷ u ∷ ts) e = absurd (omega arith)

pub value_of_two : (f : List ℕ) (ts : List Tree) → length ts ≡ 2
    → evaluate (compound f (trees_of ts)) ≡ apply_2 (look_up operations f) (evaluable_error f 2) (evaluate (tree_in ts 0)) (evaluate (tree_in ts 1))
value_of_two f [] e = absurd (omega arith)
value_of_two f (t ∷ []) e = absurd (omega arith)
value_of_two f (t ∷ u ∷ []) e = refl
value_of_two f (t ∷ u ∷ v ∷ ts) e = absurd (omega arith)

pub nodes_of_one : (f : List ℕ) (ts : List Tree) → length ts ≡ 1 → nodes (compound f (trees_of ts)) ≡ 1 + nodes (tree_in ts 0)
nodes_of_one f [] e = absurd (omega arith)
nodes_of_one f (t ∷ []) e = omega arith
nodes_of_one f (t ∷ u ∷ ts) e = absurd (omega arith)

pub nodes_of_two : (f : List ℕ) (ts : List Tree) → length ts ≡ 2 → nodes (compound f (trees_of ts)) ≡ 1 + nodes (tree_in ts 0) + nodes (tree_in ts 1)
nodes_of_two f [] e = absurd (omega arith)
nodes_of_two f (t ∷ []) e = absurd (omega arith)
nodes_of_two f (t ∷ u ∷ []) e = omega arith
nodes_of_two f (t ∷ u ∷ v ∷ ts) e = absurd (omega arith)

arity_counts : (ts : List Tree) → arity (trees_of ts) ≡ length ts
arity_counts [] = refl
arity_counts (t ∷ ts) = omega (arith, arity_counts ts)

-- a compound of another number of arguments is no expression
pub value_of_others : (f : List ℕ) (ts : List Tree) (n : ℕ) → length ts ≡ n → (n ≡ 1 → ⊥) → (n ≡ 2 → ⊥)
    → evaluate (compound f (trees_of ts)) ≡ evaluable_error f n
value_of_others f [] n e one two = ap (evaluable_error f) e
value_of_others f (t ∷ []) n e one two = absurd (one (omega arith))
value_of_others f (t ∷ u ∷ []) n e one two = absurd (two (omega arith))
value_of_others f (t ∷ u ∷ v ∷ ts) n e one two = let k : arity (trees_of (t ∷ u ∷ v ∷ ts)) ≡ n = arity_counts (t ∷ u ∷ v ∷ ts) ∙ e in ap (evaluable_error f) k

-- a task that evaluates the right operand makes what the operator makes of both
right_value : (f : ℤ → ℤ → Value) (x : ℤ) (otherwise w : Value) → with_left f x w ≡ apply_2 (Some f) otherwise (value x) w
right_value f x otherwise (value y) = refl
right_value f x otherwise (no_value e) = refl

pub operator_value : (h : Changes) (o : Operator) (r : ℕ) (otherwise v : Value)
    → task_value h (EvaluateRight o r) v ≡ apply_2 (Some (operation o)) otherwise v (evaluate (stands_for h r))
operator_value h o r otherwise (no_value e) = refl
operator_value h o r otherwise (value x) = right_value (operation o) x otherwise (evaluate (stands_for h r))

-- a task that has the left operand's value makes the same of the right one's
left_value : (h : Changes) (o : Operator) (x : ℤ) (w : Value) → task_value h (Operate o x) w ≡ with_left (operation o) x w
left_value h o x (value y) = refl
left_value h o x (no_value e) = refl

pub right_task : (h : Changes) (o : Operator) (r : ℕ) (x : ℤ)
    → task_value h (Operate o x) (evaluate (stands_for h r)) ≡ task_value h (EvaluateRight o r) (value x)
right_task h o r x = left_value h o x (evaluate (stands_for h r))

-- the operator of one argument
abbrev opposite : ℤ → Value
opposite x = in_range (pos 0 -ℤ x)

minus_value : (h : Changes) (otherwise v : Value) → task_value h Negate v ≡ apply_1 (Some opposite) otherwise v
minus_value h otherwise (value x) = refl
minus_value h otherwise (no_value e) = refl

minus_by : (f : List ℕ) (b : Bool) → bytes_eq (codes "-") f ≡ b → look_up operations_1 f ≡ (if b then Some opposite else None)
minus_by f b e = ap (λ b. if b then Some opposite else None) e

-- a compound of one argument, and one of two, by the cells of their arguments
module _ (h : Changes) (t : Tree) (f : List ℕ) (made : t ≡ compound f (trees_of (arguments_of t))) where
  pub opposite_value : (a : ℕ) → length (arguments_of t) ≡ 1 → bytes_eq (codes "-") f ≡ true → stands_for h a ≡ tree_in (arguments_of t) 0
      → task_value h Negate (evaluate (stands_for h a)) ≡ evaluate t
  opposite_value a n e s =
      minus_value h (evaluable_error f 1) (evaluate (stands_for h a))
      ∙ ap (λ u. apply_1 (Some opposite) (evaluable_error f 1) (evaluate u)) s
      ∙ sym (ap (λ o. apply_1 o (evaluable_error f 1) (evaluate (tree_in (arguments_of t) 0))) (minus_by f true e))
      ∙ sym (ap evaluate made ∙ value_of_one f (arguments_of t) n)

  pub no_opposite : length (arguments_of t) ≡ 1 → bytes_eq (codes "-") f ≡ false → evaluate t ≡ evaluable_error f 1
  no_opposite n e =
      ap evaluate made ∙ value_of_one f (arguments_of t) n
      ∙ ap (λ o. apply_1 o (evaluable_error f 1) (evaluate (tree_in (arguments_of t) 0))) (minus_by f false e)

  pub operation_value : (o : Operator) (a b : ℕ) → length (arguments_of t) ≡ 2 → look_up operations f ≡ Some (operation o)
      → stands_for h a ≡ tree_in (arguments_of t) 0 → stands_for h b ≡ tree_in (arguments_of t) 1
      → task_value h (EvaluateRight o b) (evaluate (stands_for h a)) ≡ evaluate t
  operation_value o a b n e s r =
      operator_value h o b (evaluable_error f 2) (evaluate (stands_for h a))
      ∙ ap (λ u. apply_2 (Some (operation o)) (evaluable_error f 2) (evaluate u) (evaluate (stands_for h b))) s
      ∙ ap (λ u. apply_2 (Some (operation o)) (evaluable_error f 2) (evaluate (tree_in (arguments_of t) 0)) (evaluate u)) r
      ∙ sym (ap (λ g. apply_2 g (evaluable_error f 2) (evaluate (tree_in (arguments_of t) 0)) (evaluate (tree_in (arguments_of t) 1))) e)
      ∙ sym (ap evaluate made ∙ value_of_two f (arguments_of t) n)

  pub no_operation : length (arguments_of t) ≡ 2 → look_up operations f ≡ None → evaluate t ≡ evaluable_error f 2
  no_operation n e =
      ap evaluate made ∙ value_of_two f (arguments_of t) n
      ∙ ap (λ g. apply_2 g (evaluable_error f 2) (evaluate (tree_in (arguments_of t) 0)) (evaluate (tree_in (arguments_of t) 1))) e

  pub no_expression : (n : ℕ) → length (arguments_of t) ≡ n → (n ≡ 1 → ⊥) → (n ≡ 2 → ⊥) → evaluate t ≡ evaluable_error f n
  no_expression n e one two = ap evaluate made ∙ value_of_others f (arguments_of t) n e one two
