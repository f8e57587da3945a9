-- Terms with all that is bound replaced in them, one after the other.
use Rattle.std.specs.Prelude.{◌≡◌, ℕ, zero, suc, ◌+◌, ◌<◌, ◌≤◌, ◌^◌, nat_lt, nat_le, true, ◌&&◌, List, [], ◌∷◌, ◌++◌, map, length, take, slice_get, Some}
use Rattle.std.proofs.Common.{refl, sym, ap, ◌∙◌, arith, get_or}
use Rattle.std.proofs.lemmas.List.{map_push}
use Rattle.std.proofs.lemmas.Bool.{and_parts, and_from, ltb-true, lt-ltb, leb-true, le-leb}
use Rattle.ml_term.specs.Seen.{seen}
use Rattle.ml_term.specs.Tree.{Tree, trees_of, nodes, nodes_of}
use Rattle.ml_term.specs.Unify.{Map, apply}
use Rattle.ml_term.specs.Valid.{is_valid, are_valid}
use Rattle.ml_term.specs.declared.term.Term.{Term}
use Rattle.ml_search.specs.declared.unification.pair.Shifted.{Shifted}
use Rattle.ml_search.specs.Actions.{shift_variables}
use Rattle.ml_search.specs.MapSeen.{map_seen}
use Rattle.ml_search.specs.inside.Unifying.{are_sound_bindings, bindings_of, is_sound, tree_of, trees_under}
use Rattle.ml_search.proofs.DeclarationsFound.{up_to}

-- the trees of some terms under a map
abbrev pub under_map : Map → List Term → List Tree
under_map m ts = map (λ t. apply m (shift_variables 0 (seen t))) ts

pub all_under : (m : Map) (ts : List Term) → trees_of (under_map m ts) ≡ trees_under m 0 ts
all_under m [] = refl
all_under m (t ∷ ts) = rw (← all_under m ts) refl

pub valid_more : (ts : List Tree) (t : Tree) → are_valid (trees_of ts) ≡ true → is_valid t ≡ true → are_valid (trees_of (ts ++ t ∷ [])) ≡ true
valid_more [] t h v = and_from _ _ v refl
valid_more (u ∷ ts) t h v = let parts = and_parts (is_valid u) (are_valid (trees_of ts)) h in and_from _ _ parts.0 (valid_more ts t parts.1 v)

-- an argument has at most the nodes of all
pub one_of_the_nodes : (m : Map) (ts : List Term) (i : ℕ) (d : Term) → i < length ts →
    nodes (apply m (shift_variables 0 (seen (get_or ts i d)))) ≤ nodes_of (trees_under m 0 ts)
one_of_the_nodes m [] i d low = absurd (omega (arith, low))
one_of_the_nodes m (t ∷ ts) zero d low = omega arith
one_of_the_nodes m (t ∷ ts) (suc i) d low = omega (arith, one_of_the_nodes m ts i d (omega (arith, low)))

-- bindings of terms whose variables are counted from 0 are bindings of terms whose variables are counted from more
sound_one : (most : ℕ) (b : ℕ × Shifted) → (nat_lt b.0 (0 + 2 ^ 32) && (nat_le b.1.base 0 && is_valid (seen b.1.term.now))) ≡ true
    → (nat_lt b.0 (most + 2 ^ 32) && (nat_le b.1.base most && is_valid (seen b.1.term.now))) ≡ true
sound_one most b h =
    let parts = and_parts (nat_lt b.0 (0 + 2 ^ 32)) (nat_le b.1.base 0 && is_valid (seen b.1.term.now)) h in
    let to = and_parts (nat_le b.1.base 0) (is_valid (seen b.1.term.now)) parts.1 in
    and_from _ _ (lt-ltb b.0 (most + 2 ^ 32) (omega (arith, ltb-true b.0 (0 + 2 ^ 32) parts.0)))
    (and_from _ _ (le-leb b.1.base most (omega (arith, leb-true b.1.base 0 to.0))) to.1)

pub sound_for_more : (most : ℕ) (bs : List (ℕ × Shifted)) → are_sound_bindings 0 bs ≡ true → are_sound_bindings most bs ≡ true
sound_for_more most [] h = refl
sound_for_more most (b ∷ bs) h =
    let parts = and_parts (nat_lt b.0 (0 + 2 ^ 32) && is_sound 0 b.1) (are_sound_bindings 0 bs) h in
    and_from _ _ (sound_one most b parts.0) (sound_for_more most bs parts.1)

-- one term more of those that bindings stand for
pub built_more : (m : Map) (es : List (ℕ × Shifted)) (i v : ℕ) (to : Shifted) (ps ps' : List (ℕ × Term)) (u : Term) → slice_get es i ≡ Some (v, to) →
    ps' ≡ ps ++ (v, u) ∷ [] → seen u ≡ apply m (tree_of to) → map_seen ps ≡ map (λ b. (b.0, apply m b.1)) (bindings_of (take i es))
    → map_seen ps' ≡ map (λ b. (b.0, apply m b.1)) (bindings_of (take (i + 1) es))
built_more m es i v to ps ps' u at more e so_far =
    let f : ℕ × Tree → ℕ × Tree = λ b. (b.0, apply m b.1) in
    let g : ℕ × Shifted → ℕ × Tree = λ b. (b.0, tree_of b.1) in
    let s : ℕ × Term → ℕ × Tree = λ b. (b.0, seen b.1) in
    ap map_seen more
    ∙ map_push s ps (v, u)
    ∙ ap (λ xs. xs ++ (v, seen u) ∷ []) so_far
    ∙ ap (λ t. map f (bindings_of (take i es)) ++ (v, t) ∷ []) e
    ∙ sym (ap (map f) (ap bindings_of (sym (up_to es i (v, to) at)) ∙ map_push g (take i es) (v, to)) ∙ map_push f (bindings_of (take i es)) (v, tree_of to))

pub base_is_zero : (s : Shifted) → is_sound 0 s ≡ true → s.base ≡ 0
base_is_zero s h = let parts = and_parts (nat_le s.base 0) (is_valid (seen s.term.now)) h in omega (arith, leb-true s.base 0 parts.0)
