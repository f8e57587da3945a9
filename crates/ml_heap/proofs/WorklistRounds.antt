-- How many turns the equations of unification take, whatever map there is: the measure of a worklist.
use Rattle.std.specs.Prelude.{◌≡◌, ℕ, ◌<◌, ◌≤◌, List, [], ◌∷◌, ◌++◌, Option}
use Rattle.std.proofs.Common.{inl, inr, refl, ap, subst, arith}
use Rattle.std.proofs.lemmas.Bool.Decides.{Decides-int_eq}
use Rattle.std.proofs.lemmas.Bool.{eq-eqb}
use Rattle.std.proofs.lemmas.Slice.Eq.{bytes_eq-Decides}
use Rattle.std.specs.List.{zip}
use Rattle.ml_term.specs.Tree.{Tree, Trees, variable, integer, atom, compound, no_trees, tree, list_of, arity}
use Rattle.ml_term.specs.Unify.{Equation, Map, delete, decompose, eliminate, step, UnifierState, after_step, turn, variables_left, nodes_left}
use Rattle.ml_term.specs.Unifiers.{equations_under}
use Rattle.ml_term.specs.Unify.{binding}
use Rattle.ml_term.specs.Runs.{Next, now, ask}
use Rattle.ml_term.specs.Falling.{Falls, AlwaysFalls}
use Rattle.ml_term.proofs.Runs as R
use Rattle.ml_heap.specs.inside.Equations.{IsTurn, same_sides, sides_split, variable_replaced}
use Rattle.ml_term.proofs.UnificationEnds.{turn_falls, none_left}

-- the equations that a turn leads to, if it goes on
abbrev next_of : Next UnifierState (Option Map) → Next (List Equation) (Unit {0})
next_of (now (inl r)) = now (inl tt)
next_of (now (inr s)) = now (inr s.left)
next_of (ask s k) = now (inl tt)

abbrev pub state_of : List Equation → UnifierState
state_of es = record { left = es; map = [] }

abbrev pub next : List Equation → Next (List Equation) (Unit {0})
next es = next_of (turn (state_of es))

abbrev first : List Equation → ℕ
first es = variables_left (state_of es)

abbrev second : List Equation → ℕ
second es = nodes_left (state_of es)

abbrev none : Unit {0} → ℕ
none r = 0

falls : AlwaysFalls first second none next
falls es = fall es (turn (state_of es)) (turn_falls (state_of es))
  where
    fall : (es : List Equation) (x : Next UnifierState (Option Map)) → Falls variables_left nodes_left none_left (state_of es) x →
        Falls first second none es (next_of x)
    fall es (now (inl r)) f = omega arith
    fall es (now (inr s)) f = f
    fall es (ask s k) f = omega arith

-- how many turns are left
pub rounds : List Equation → ℕ
rounds = R.turns next first second (λ es. tt) none falls

pub rounds_fall : (es fs : List Equation) → next es ≡ now (inr fs) → rounds fs < rounds es
unfolding rounds
rounds_fall = R.turns_fall next first second (λ es. tt) none falls

-- by what the rules say of the first equation
pub fewer_bound : (e : Equation) (es : List Equation) (n : ℕ) (t : Tree) → step e.0 e.1 ≡ eliminate n t →
    rounds (equations_under (binding n t) es) < rounds (e ∷ es)
fewer_bound e es n t s = rounds_fall (e ∷ es) (equations_under (binding n t) es) (ap (λ x. next_of (after_step x es [])) s)

pub fewer_split : (e : Equation) (es us : List Equation) → step e.0 e.1 ≡ decompose us → rounds (us ++ es) < rounds (e ∷ es)
fewer_split e es us s = rounds_fall (e ∷ es) (us ++ es) (ap (λ x. next_of (after_step x es [])) s)

pub fewer_dropped : (e : Equation) (es : List Equation) → step e.0 e.1 ≡ delete → rounds es < rounds (e ∷ es)
fewer_dropped e es s = rounds_fall (e ∷ es) es (ap (λ x. next_of (after_step x es [])) s)

mutual
  -- equal sides, at any size
  pub fewer_same : (t : Tree) (es : List Equation) → rounds es < rounds ((t, t) ∷ es)
  fewer_same (variable n) es = fewer_dropped (variable n, variable n) es (rw (eq-eqb n n refl) refl)
  fewer_same (integer z) es = fewer_dropped (integer z, integer z) es (rw ((Decides-int_eq z z).1 refl) refl)
  fewer_same (atom f) es = fewer_dropped (atom f, atom f) es (rw ((bytes_eq-Decides f f).1 refl) refl)
  fewer_same (compound f ts) es =
      let s : step (compound f ts) (compound f ts) ≡ decompose (zip (list_of ts) (list_of ts)) =
      rw ((bytes_eq-Decides f f).1 refl, eq-eqb (arity ts) (arity ts) refl) refl in
      let a = fewer_split (compound f ts, compound f ts) es (zip (list_of ts) (list_of ts)) s in
      let b = no_more ts es in
      omega arith

  pub no_more : (ts : Trees) (es : List Equation) → rounds es ≤ rounds (zip (list_of ts) (list_of ts) ++ es)
  no_more no_trees es = omega arith
  no_more (tree t ts) es =
      let a = fewer_same t (zip (list_of ts) (list_of ts) ++ es) in
      let b = no_more ts es in
      omega arith

-- each rule takes a turn
pub turn_falls_by : (ts : List Tree) (t u : Tree) (es : List Equation) (ts' : List Tree) (es' : List Equation) → IsTurn ts t u es ts' es' →
    rounds es' < rounds ((t, u) ∷ es)
turn_falls_by ts t u es ts' es' (same_sides e p q) = rw q (subst (λ w. rounds es < rounds ((t, w) ∷ es)) e (fewer_same t es))
turn_falls_by ts t u es ts' es' (sides_split us s p q) = rw q (fewer_split (t, u) es us s)
turn_falls_by ts t u es ts' es' (variable_replaced n w s p q) = rw q (fewer_bound (t, u) es n w s)
