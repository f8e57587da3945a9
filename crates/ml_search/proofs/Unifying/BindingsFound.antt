-- Bindings are found in their table by their variables.
use Rattle.std.specs.Prelude.{◌≡◌, ℕ, suc, zero, ◌+◌, ◌==◌, nat_eq, nat_lt, ◌^◌, Bool, true, false, ◌&&◌, cond, List, [], ◌∷◌, ◌++◌, slice_get, Option, Some, None, MatchOption, IfSome}
use Rattle.std.specs.List.{IsDistinct, AllByRecursion}
use Rattle.std.specs.Map.{lookup, keys_of}
use Rattle.std.proofs.Common.{refl, sym, ap, subst, ◌∙◌, inl, inr}
use Rattle.std.proofs.lemmas.Bool.{and_parts, and_from}
use Rattle.std.proofs.lemmas.Bool.Decides.{eqb_tells}
use Rattle.ml_term.specs.Tree.{Tree}
use Rattle.ml_search.specs.MapSeen.{bound_term}
use Rattle.ml_search.specs.declared.unification.pair.Shifted.{Shifted}
use Rattle.ml_search.specs.inside.Unifying.{are_sound_bindings, bindings_of, is_sound, tree_of}
use Rattle.ml_search.proofs.DeclarationsFound.{equal_swapped}

abbrev IsFound : ℕ → List (ℕ × Shifted) → Option Shifted → Type 0
IsFound n es r = MatchOption r (bound_term (bindings_of es) n ≡ None) (λ to. bound_term (bindings_of es) n ≡ Some (tree_of to))

pub bound_is_found : (n : ℕ) (es : List (ℕ × Shifted)) → IsFound n es (lookup (nat_eq n) es)
bound_is_found n [] = refl
bound_is_found n (e ∷ es) = subst (λ b. IsFound n (e ∷ es) (cond b (Some e.1) (lookup (nat_eq n) es))) (equal_swapped e.0 n) (by (e.0 == n)
    (bound_is_found n es))
  where
    by : (b : Bool) → IsFound n es (lookup (nat_eq n) es) →
        MatchOption (cond b (Some e.1) (lookup (nat_eq n) es)) (cond b (Some (tree_of e.1)) (bound_term (bindings_of es) n) ≡ None)
        (λ to. cond b (Some (tree_of e.1)) (bound_term (bindings_of es) n) ≡ Some (tree_of to))
    by true h = refl
    by false h = h

pub bound_is_sound : (most n : ℕ) (es : List (ℕ × Shifted)) → are_sound_bindings most es ≡ true → IfSome (lookup (nat_eq n) es) (λ to. is_sound most to ≡ true)
bound_is_sound most n [] h = tt
bound_is_sound most n (e ∷ es) h =
    let parts = and_parts (nat_lt e.0 (most + 2 ^ 32) && is_sound most e.1) (are_sound_bindings most es) h in
    let here = and_parts (nat_lt e.0 (most + 2 ^ 32)) (is_sound most e.1) parts.0 in
    by (n == e.0) here.1 (bound_is_sound most n es parts.1)
  where
    by : (b : Bool) → is_sound most e.1 ≡ true → IfSome (lookup (nat_eq n) es) (λ to. is_sound most to ≡ true) →
        IfSome (cond b (Some e.1) (lookup (nat_eq n) es)) (λ to. is_sound most to ≡ true)
    by true i r = i
    by false i r = r

-- a variable that isn't bound is no key
pub free_is_no_key : (n : ℕ) (es : List (ℕ × Shifted)) → bound_term (bindings_of es) n ≡ None → lookup (nat_eq n) es ≡ None
free_is_no_key n [] h = refl
free_is_no_key n (e ∷ es) h = ap (λ b. cond b (Some e.1) (lookup (nat_eq n) es)) (equal_swapped n e.0) ∙ by (e.0 == n) h (free_is_no_key n es)
  where
    by : (b : Bool) → cond b (Some (tree_of e.1)) (bound_term (bindings_of es) n) ≡ None → (bound_term (bindings_of es) n ≡ None → lookup (nat_eq n) es ≡ None)
        → cond b (Some e.1) (lookup (nat_eq n) es) ≡ None
    by true f r = absurd (cc f)
    by false f r = r f

-- each binding is the one that is found by its variable, where no two are of one variable
not_the_first : (k n : ℕ) (es : List (ℕ × Shifted)) (t : Tree) → AllByRecursion (λ y. nat_eq k y ≡ false) (keys_of es) → bound_term (bindings_of es) n ≡ Some t
    → (k == n) ≡ false
not_the_first k n [] t h e = absurd (cc e)
not_the_first k n (b ∷ es) t h e = elim (eqb_tells b.0 n) [
  | inl q ↦ ap (λ x. k == x) (sym q.1) ∙ h.0
  | inr q ↦ not_the_first k n es t h.1 (ap (λ c. cond c (Some (tree_of b.1)) (bound_term (bindings_of es) n)) (sym q.0) ∙ e)
]

pub further_is_found : (k n : ℕ) (to : Shifted) (es : List (ℕ × Shifted)) (t : Tree) → IsDistinct nat_eq (keys_of ((k, to) ∷ es)) →
    bound_term (bindings_of es) n ≡ Some t →
    bound_term (bindings_of ((k, to) ∷ es)) n ≡ Some t
unfolding IsDistinct
further_is_found k n to es t h e = ap (λ c. cond c (Some (tree_of to)) (bound_term (bindings_of es) n)) (not_the_first k n es t h.0 e) ∙ e

pub others_are_distinct : (e : ℕ × Shifted) (es : List (ℕ × Shifted)) → IsDistinct nat_eq (keys_of (e ∷ es)) → IsDistinct nat_eq (keys_of es)
unfolding IsDistinct
others_are_distinct e es h = h.1

pub first_is_found : (e : ℕ × Shifted) (es : List (ℕ × Shifted)) → bound_term (bindings_of (e ∷ es)) e.0 ≡ Some (tree_of e.1)
first_is_found e es = elim (eqb_tells e.0 e.0) [
  | inl q ↦ ap (λ c. cond c (Some (tree_of e.1)) (bound_term (bindings_of es) e.0)) q.0
  | inr q ↦ absurd (q.1 refl)
]

-- one binding more is sound
all_more : (most : ℕ) (es : List (ℕ × Shifted)) (e : ℕ × Shifted) → are_sound_bindings most es ≡ true → (nat_lt e.0 (most + 2 ^ 32) && is_sound most e.1) ≡ true
    → are_sound_bindings most (es ++ e ∷ []) ≡ true
all_more most [] e h s = and_from _ _ s refl
all_more most (f ∷ es) e h s =
    let parts = and_parts (nat_lt f.0 (most + 2 ^ 32) && is_sound most f.1) (are_sound_bindings most es) h in and_from _ _ parts.0
    (all_more most es e parts.1 s)

pub sound_with_one_more : (most : ℕ) (es es' : List (ℕ × Shifted)) (n : ℕ) (to : Shifted) → es' ≡ es ++ (n, to) ∷ [] → are_sound_bindings most es ≡ true →
    (nat_lt n (most + 2 ^ 32) && is_sound most to) ≡ true → are_sound_bindings most es' ≡ true
sound_with_one_more most es es' n to more h s = ap (are_sound_bindings most) more ∙ all_more most es (n, to) h s

pub sound_at : (most : ℕ) (es : List (ℕ × Shifted)) (i n : ℕ) (to : Shifted) → are_sound_bindings most es ≡ true → slice_get es i ≡ Some (n, to)
    → (nat_lt n (most + 2 ^ 32) && is_sound most to) ≡ true
sound_at most [] i n to h at = absurd (cc at)
sound_at most (e ∷ es) zero n to h at =
    let parts = and_parts (nat_lt e.0 (most + 2 ^ 32) && is_sound most e.1) (are_sound_bindings most es) h in
    let same : e ≡ (n, to) = cc at in
    subst (λ (b : ℕ × Shifted). (nat_lt b.0 (most + 2 ^ 32) && is_sound most b.1) ≡ true) same parts.0
sound_at most (e ∷ es) (suc i) n to h at =
    let parts = and_parts (nat_lt e.0 (most + 2 ^ 32) && is_sound most e.1) (are_sound_bindings most es) h in sound_at most es i n to parts.1 at
