-- What the code of unification holds: terms whose variables are counted from a base, pairs of them
-- on a stack, and bindings. No public clause cites this module.
use Rattle.std.specs.Prelude.{◌≡◌, ℕ, ◌+◌, ◌^◌, ◌==◌, nat_lt, nat_le, Bool, true, false}
use Rattle.std.specs.Prelude.{if◌then◌else◌, ◌&&◌, IsTrue, List, [], ◌∷◌, map, length, None}
use Rattle.std.specs.List.{list_all, zip}
use Rattle.ml_term.specs.Tree.{Tree, Trees, variable, integer, atom, compound}
use Rattle.ml_term.specs.Tree.{substitute_in, trees_of, occurs}
use Rattle.ml_term.specs.Seen.{seen, all_seen}
use Rattle.ml_term.specs.Valid.{is_valid, are_valid}
use Rattle.ml_term.specs.Unify.{Equation, Map, Step, delete, decompose, eliminate, clash, step}
use Rattle.ml_term.specs.Unify.{UnifierState, apply, value_of}
use Rattle.ml_term.specs.Unifiers.{equations_under}
use Rattle.ml_term.specs.declared.term.Term.{Term}
use Rattle.ml_search.specs.declared.unification.pair.Shifted.{Shifted}
use Rattle.ml_search.specs.declared.unification.pair.Pair.{Pair}
use Rattle.ml_search.specs.declared.unification.pair.Arguments.{Arguments}
use Rattle.ml_search.specs.declared.unification.pair.Rule.{Rule}
use Rattle.ml_search.specs.declared.unification.pair.Rule.TheVariants.{Dropped, Bound, Split, Clash}
use Rattle.ml_search.specs.Actions.{shift_variables}
use Rattle.ml_search.specs.MapSeen.{bound_term}
use Rattle.ml_search.specs.inside.Triangular.{is_older, map_of}

-- the tree of a term whose variables are counted from a base
abbrev pub tree_of : Shifted → Tree
tree_of s = shift_variables s.base (seen s.term.now)

-- the trees of some terms
abbrev pub trees_from : ℕ → List Term → List Tree
trees_from base ts = map (λ t. shift_variables base (seen t)) ts

-- arguments whose variables are counted from a base
abbrev pub arguments_from : ℕ → List Term → Trees
arguments_from base ts = substitute_in (λ n. variable (base + n)) (trees_of (all_seen ts))

-- the same under a map
abbrev pub trees_under : Map → ℕ → List Term → Trees
trees_under m base ts = substitute_in (value_of m) (arguments_from base ts)

-- the equation of a pair
abbrev pub equation_of : Pair → Equation
equation_of p = (tree_of p.left, tree_of p.right)

-- pairs before some equations: the last pair comes first
abbrev pub stack_equations : List Equation → List Pair → List Equation
stack_equations es [] = es
stack_equations es (p ∷ ps) = stack_equations (equation_of p ∷ es) ps

-- the equations of a stack of pairs
abbrev pub equations_of : List Pair → List Equation
equations_of ps = stack_equations [] ps

-- the bindings, the latest last
abbrev pub bindings_of : List (ℕ × Shifted) → Map
bindings_of bs = map (λ b. (b.0, tree_of b.1)) bs

-- the state of unification with these bindings and pairs
abbrev pub state_of : List (ℕ × Shifted) → List Equation → UnifierState
state_of bs es =
    record { left = equations_under (map_of (bindings_of bs)) es; map = map_of (bindings_of bs) }

-- whether a term is one of the language, and its base is at most a number
abbrev pub is_sound : ℕ → Shifted → Bool
is_sound most s = nat_le s.base most && is_valid (seen s.term.now)

-- the same of arguments
abbrev pub are_sound_arguments : ℕ → Arguments → Bool
are_sound_arguments most ts = nat_le ts.base most && are_valid (trees_of (all_seen ts.terms.now))

-- the same of pairs
abbrev pub are_sound_pairs : ℕ → List Pair → Bool
are_sound_pairs most ps = list_all (λ p. is_sound most p.left && is_sound most p.right) ps

-- the same of bindings, whose variables have numbers in range
abbrev pub are_sound_bindings : ℕ → List (ℕ × Shifted) → Bool
are_sound_bindings most bs = list_all (λ b. nat_lt b.0 (most + 2 ^ 32) && is_sound most b.1) bs

-- a rule that says what is done with two terms is the definition's
abbrev pub IsStep : Map → Rule → Step → Type 0
IsStep m Dropped s = s ≡ delete
IsStep m (Bound b) s = s ≡ eliminate b.variable (apply m (tree_of b.to))
IsStep m (Split ts us) s =
    s
    ≡ decompose
    (equations_under m (zip (trees_from ts.base ts.terms.now) (trees_from us.base us.terms.now)))
IsStep m Clash s = s ≡ clash

-- a variable is bound only once, to a term in which it doesn't stand, and to an older one if to a
-- variable
abbrev pub MayBeBound : Map → Rule → Type 0
MayBeBound bs Dropped = Unit {0}
MayBeBound bs (Bound b) =
    IsTrue (is_older b.variable (tree_of b.to))
    × (occurs b.variable (apply (map_of bs) (tree_of b.to)) ≡ false)
    × (bound_term bs b.variable ≡ None)
MayBeBound bs (Split ts us) = Unit {0}
MayBeBound bs Clash = Unit {0}

-- what a rule leads to is sound
abbrev pub is_sound_rule : ℕ → Rule → Bool
is_sound_rule most Dropped = true
is_sound_rule most (Bound b) = nat_lt b.variable (most + 2 ^ 32) && is_sound most b.to
is_sound_rule most (Split ts us) =
    are_sound_arguments most ts && are_sound_arguments most us
    && (length us.terms.now == length ts.terms.now)
is_sound_rule most Clash = true

-- what is to be done with two terms under bindings
pub record Decides (bs : Map) (rule : Rule) (t u : Tree) : Type 0 where
  pub is : IsStep (map_of bs) rule (step (apply (map_of bs) t) (apply (map_of bs) u))
  pub may : MayBeBound bs rule

-- whether a term is no variable
abbrev pub IsPlain : Tree → Type 0
IsPlain (variable n) = ⊥
IsPlain (integer z) = Unit {0}
IsPlain (atom f) = Unit {0}
IsPlain (compound f ts) = Unit {0}

-- what the definition does with a variable against a term that is none
abbrev pub binding_step : ℕ → Tree → Step
binding_step n t = if occurs n t then clash else eliminate n t

-- what is to be done with a variable and a term under bindings
pub record Binds (bs : Map) (rule : Rule) (n : ℕ) (t : Tree) : Type 0 where
  pub is : IsStep (map_of bs) rule (binding_step n (apply (map_of bs) t))
  pub may : MayBeBound bs rule
