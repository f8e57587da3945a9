-- The loop of unification, turn by turn.
use Rattle.std.specs.Prelude.{◌≡◌, ℕ, ◌<◌, Bool, true, false, ◌&&◌, cond, List, [], ◌∷◌, ◌++◌, Option, Some, None}
use Rattle.std.proofs.Common.{refl, sym, ap, ◌∙◌, inl, inr}
use Rattle.std.proofs.lemmas.Bool.{and_parts, and_from}
use Rattle.ml_term.specs.Runs.{Next, now}
use Rattle.ml_term.specs.Unify.{Equation, Map, UnifierState, solve_equations, turn, unifier}
use Rattle.ml_term.specs.Unifiers.{equations_under}
use Rattle.ml_term.proofs.UnificationEnds.{solved_goes, solved_over, turns, turns_fall}
use Rattle.ml_term.proofs.UnificationRules.{solved_none_left}
use Rattle.ml_term.proofs.MapComposition.{under_empty}
use Rattle.ml_search.specs.declared.unification.pair.Pair.{Pair}
use Rattle.ml_search.specs.declared.unification.pair.Shifted.{Shifted}
use Rattle.ml_search.specs.inside.Triangular.{IsTriangular, map_of}
use Rattle.ml_search.specs.inside.Unifying.{are_sound_pairs, bindings_of, equation_of, equations_of, is_sound, state_of, tree_of}
use Rattle.ml_search.proofs.Unifying.OneBindingMore.{last_first}

-- what is left to solve, under the map so far
abbrev pub to_solve : List (ℕ × Shifted) → List Equation → Option Map
to_solve bs es = solve_equations (equations_under (map_of (bindings_of bs)) es) (map_of (bindings_of bs))

abbrev pub led_to : Bool → UnifierState → Next UnifierState (Option Map)
led_to goes_on s = cond goes_on (now (inr s)) (now (inl None))

pub begins : (l r : Shifted) (p : Pair) (bs : List (ℕ × Shifted)) (ps : List Pair) → bs ≡ [] → ps ≡ p ∷ [] → equation_of p ≡ (tree_of l, tree_of r) →
    to_solve bs (equations_of ps) ≡ unifier (tree_of l) (tree_of r)
unfolding map_of
begins l r p bs ps none one is = rw (none, one) (ap (λ e. solve_equations e []) (under_empty (equation_of p ∷ [])) ∙ ap (λ e. solve_equations (e ∷ []) []) is)

pub no_bindings : IsTriangular (bindings_of [])
unfolding map_of
no_bindings = record { resolved = refl; older = refl }

module _ (bs : List (ℕ × Shifted)) (ps ps' : List Pair) (p : Pair) (more : ps ≡ ps' ++ p ∷ []) where
  first : equations_of ps ≡ equation_of p ∷ equations_of ps'
  first = ap equations_of more ∙ last_first [] ps' p

  pub ends : (goes_on : Bool) (s : UnifierState) → goes_on ≡ false → turn (state_of bs (equation_of p ∷ equations_of ps')) ≡ led_to goes_on s →
      to_solve bs (equations_of ps) ≡ None
  ends goes_on s stopped turned =
      ap (to_solve bs) first
      ∙ solved_over (equations_under (map_of (bindings_of bs)) (equation_of p ∷ equations_of ps')) (map_of (bindings_of bs)) None
      (turned ∙ ap (λ b. led_to b s) stopped)

  module _ (goes_on : Bool) (bs' : List (ℕ × Shifted)) (qs : List Pair) (yes : goes_on ≡ true)
      (turned : turn (state_of bs (equation_of p ∷ equations_of ps')) ≡ led_to goes_on (state_of bs' (equations_of qs))) where
    went : turn (state_of bs (equation_of p ∷ equations_of ps')) ≡ now (inr (state_of bs' (equations_of qs)))
    went = turned ∙ ap (λ b. led_to b (state_of bs' (equations_of qs))) yes

    pub goes : to_solve bs (equations_of ps) ≡ to_solve bs' (equations_of qs)
    goes =
        ap (to_solve bs) first
        ∙ solved_goes (equations_under (map_of (bindings_of bs)) (equation_of p ∷ equations_of ps'))
        (equations_under (map_of (bindings_of bs')) (equations_of qs)) (map_of (bindings_of bs)) (map_of (bindings_of bs')) went

    pub falls : turns (state_of bs' (equations_of qs)) < turns (state_of bs (equations_of ps))
    falls =
        let e =
        ap (λ es. turns (state_of bs es)) first in rw e (turns_fall (state_of bs (equation_of p ∷ equations_of ps')) (state_of bs' (equations_of qs)) went)

-- nothing is left
pub done : (bs : List (ℕ × Shifted)) (ps : List Pair) → ps ≡ [] → to_solve bs (equations_of ps) ≡ Some (map_of (bindings_of bs))
done bs ps none = ap (λ xs. to_solve bs (equations_of xs)) none ∙ solved_none_left (map_of (bindings_of bs))

-- the pair that was taken, and the others, are sound where all were
sound_parts : (most : ℕ) (ps' : List Pair) (p : Pair) → are_sound_pairs most (ps' ++ p ∷ []) ≡ true →
    (are_sound_pairs most ps' ≡ true) × (is_sound most p.left ≡ true) × (is_sound most p.right ≡ true)
sound_parts most [] p h =
    let parts = and_parts (is_sound most p.left && is_sound most p.right) true h in let sides =
    and_parts (is_sound most p.left) (is_sound most p.right) parts.0 in (refl, sides.0, sides.1)
sound_parts most (q ∷ ps') p h =
    let parts = and_parts (is_sound most q.left && is_sound most q.right) (are_sound_pairs most (ps' ++ p ∷ [])) h in
    let rest = sound_parts most ps' p parts.1 in
    (and_from _ _ parts.0 rest.0, rest.1, rest.2)

pub taken : (most : ℕ) (ps ps' : List Pair) (p : Pair) → ps ≡ ps' ++ p ∷ [] → are_sound_pairs most ps ≡ true →
    (are_sound_pairs most ps' ≡ true) × (is_sound most p.left ≡ true) × (is_sound most p.right ≡ true)
taken most ps ps' p more h = sound_parts most ps' p (sym (ap (are_sound_pairs most) more) ∙ h)
