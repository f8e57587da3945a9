-- A clause that is entered, from its parts.
use Rattle.std.proofs.Common.{◌≡◌, ℕ, ◌+◌, ◌<◌, ◌≤◌, ◌⊎◌, inl, inr, List, [], ◌∷◌, ◌++◌, map, length, refl, ap, subst, ◌∙◌, arith}
use Rattle.ml_term.specs.Tree.{Tree, Trees, no_trees, tree, variable, integer, atom, compound, trees_of, list_of, arity, width, variables, variables_of, substitute}
use Rattle.ml_term.specs.Keys.{arguments}
use Rattle.ml_term.proofs.DistinctCounts.{In}
use Rattle.ml_term.proofs.UnificationEnds.{in_left, in_right}
use Rattle.ml_term.proofs.Substitutions.{alike, in_itself}
use Rattle.ml_search.specs.Program.{Clause, clause_term, arity_of}
use Rattle.ml_search.specs.Actions.{shift_variables}
use Rattle.ml_heap.specs.Changes.{Changes, stands_for}
use Rattle.ml_compile.specs.declared.instr.Instr.{Instr}
use Rattle.ml_compile.specs.Spells.{Matches, nothing_matched, first_matched, again_matched, integer_matched, atom_matched, compound_matched, SpellsClause}
use Rattle.ml_match.specs.Slots.{HasSlot, slot_tree}
use Rattle.ml_match.specs.inside.Matching.{HasNewSlot}
use Rattle.ml_match.proofs.CellLists.{slot_is}

-- a head has as many arguments as it says
pub as_many_arguments : (t : Tree) → length (list_of (arguments t)) ≡ arity_of t
as_many_arguments (variable n) = refl
as_many_arguments (integer z) = refl
as_many_arguments (atom f) = refl
as_many_arguments (compound f ts) = listed ts
  where
    listed : (us : Trees) → length (list_of us) ≡ arity us
    listed no_trees = refl
    listed (tree u us) = omega (arith, listed us)

trees_listed : (us : Trees) → trees_of (list_of us) ≡ us
trees_listed no_trees = refl
trees_listed (tree u us) = ap (tree u) (trees_listed us)

-- the variables that are met on the way stand in the terms
here_or_later : (k m : ℕ) → m ≤ k → (k ≡ m) ⊎ (m + 1 ≤ k)
here_or_later k m l = grind arith

before_or_behind : (k b : ℕ) → (k < b) ⊎ (b ≤ k)
before_or_behind k b = grind arith

met_inside : {code : List Instr} {p q met after : ℕ} {ts : List Tree} (k : ℕ) → Matches code p q met ts after → met ≤ k → k < after →
    In k (variables_of (trees_of ts))
met_inside k nothing_matched l h = absurd (omega arith)
met_inside {met} k (first_matched {ts = rest} s m) l h = elim (here_or_later k met l) [
  | inl e ↦ in_left k (variables (variable met)) (variables_of (trees_of rest)) (subst (λ (x : ℕ). In k (variables (variable x))) e (in_itself k))
  | inr b ↦ in_right k (variables (variable met)) (variables_of (trees_of rest)) (met_inside k m b h)
]
met_inside k (again_matched {n} {ts = rest} s x m) l h = in_right k (variables (variable n)) (variables_of (trees_of rest)) (met_inside k m l h)
met_inside k (integer_matched {z} {ts = rest} s m) l h = met_inside k m l h
met_inside k (atom_matched {f} {ts = rest} s m) l h = met_inside k m l h
met_inside k (compound_matched {between} {f} {us} {ts = rest} s n inner m) l h = elim (before_or_behind k between) [
  | inl b ↦ in_left k (variables_of us) (variables_of (trees_of rest)) (subst (λ (vs : Trees). In k (variables_of vs)) (trees_listed us)
      (met_inside k inner l b))
  | inr b ↦ in_right k (variables_of us) (variables_of (trees_of rest)) (met_inside k m b h)
]

-- a variable of a head is one of the clause
in_head : (k : ℕ) (t : Tree) → In k (variables_of (trees_of (list_of (arguments t)))) → In k (variables t)
in_head k (variable n) i = absurd (cc i)
in_head k (integer z) i = absurd (cc i)
in_head k (atom f) i = absurd (cc i)
in_head k (compound f ts) i = subst (λ (us : Trees). In k (variables_of us)) (trees_listed ts) i

module _ (code : List Instr) (c : Clause) (s : SpellsClause code c) where
  in_clause : (k : ℕ) → In k (variables_of (trees_of (list_of (arguments c.head)))) → k < width (clause_term c.head c.body)
  in_clause k i = s.within k (in_left k (variables c.head) (variables c.body ++ []) (in_head k c.head i))

  -- the variables of the head have slots
  pub met_below : (k : ℕ) → k < s.met → k < width (clause_term c.head c.body)
  met_below k l = in_clause k (met_inside k s.head (omega arith) l)

  -- the head's arguments, with what the slots have for the new variables
  pub shifted : (next : ℕ) (value : ℕ → Tree) → ((n : ℕ) → n < width (clause_term c.head c.body) → value n ≡ variable (next + n))
      → map (substitute value) (list_of (arguments c.head)) ≡ map (shift_variables next) (list_of (arguments c.head))
  shifted next value v = each (list_of (arguments c.head)) (λ k i. i)
    where
      each : (ts : List Tree) → ((k : ℕ) → In k (variables_of (trees_of ts)) → In k (variables_of (trees_of (list_of (arguments c.head)))))
          → map (substitute value) ts ≡ map (shift_variables next) ts
      each [] f = refl
      each (t ∷ ts) f =
          let e : substitute value t ≡ shift_variables next t =
          alike value (λ n. variable (next + n)) t (λ n i. v n (in_clause n (f n (in_left n (variables t) (variables_of (trees_of ts)) i)))) in
          let r = each ts (λ k i. f k (in_right k (variables t) (variables_of (trees_of ts)) i)) in
          ap (λ u. u ∷ map (substitute value) ts) e ∙ ap (λ us. shift_variables next t ∷ us) r

-- the slots of new variables
module _ (h : Changes) (slots : List ℕ) (env number n : ℕ) (s : HasNewSlot h slots (env + n) (number + n)) where
  pub new_slot : HasSlot h slots (env + n)
  new_slot = record { cell = s.cell; slot = s.slot; inside = s.alone.inside }

  pub new_tree : slot_tree h slots env n ≡ variable (number + n)
  unfolding new_slot
  new_tree = ap (stands_for h) (slot_is h slots (env + n) new_slot 0) ∙ s.alone.stands
