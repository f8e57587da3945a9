-- Terms numbered anew: once is enough, and a term that is numbered from 0 stays as it is.
use Rattle.std.specs.Prelude.{◌≡◌, ◌≢◌, ℕ, ◌+◌, true, false, Bool, ◌==◌, cond, not, ◌⊎◌, List, [], ◌∷◌, map, length}
use Rattle.std.proofs.Common.{inl, inr, refl, sym, ap, ◌∙◌, arith, get_or}
use Rattle.std.proofs.lemmas.Bool.{eq-eqb}
use Rattle.std.proofs.lemmas.Bool.Decides.{eqb_tells}
use Rattle.std.proofs.lemmas.List.{length-map, map-append}
use Rattle.ml_term.specs.Tree.{Tree, Trees, variable, integer, atom, compound, no_trees, tree, has, variables, variables_of, nodes, nodes_of, substitute}
use Rattle.ml_term.specs.Tree.{substitute_in, rename, firsts, without, place_in, width, counts_from, is_numbered}
use Rattle.ml_term.specs.Keys.{are_different}
use Rattle.ml_term.proofs.DistinctCounts.{In, in_tail, in_head}
use Rattle.ml_term.proofs.MostGeneralUnifiers.{not_in_false}
use Rattle.ml_term.proofs.Substitutions.{twice, alike, as_it_is}
use Rattle.ml_term.proofs.RenamedTerms.{in_firsts, at_its_place}
use Rattle.ml_term.proofs.KeyColumns.{and_first, and_second}

mutual
  variables_numbered : (f : ℕ → ℕ) (t : Tree) → variables (substitute (λ n. variable (f n)) t) ≡ map f (variables t)
  variables_numbered f (variable n) = refl
  variables_numbered f (integer z) = refl
  variables_numbered f (atom g) = refl
  variables_numbered f (compound g ts) = all_variables_numbered f ts

  all_variables_numbered : (f : ℕ → ℕ) (ts : Trees) → variables_of (substitute_in (λ n. variable (f n)) ts) ≡ map f (variables_of ts)
  all_variables_numbered f no_trees = refl
  all_variables_numbered f (tree t ts) = rw (variables_numbered f t, all_variables_numbered f ts) (sym (map-append f (variables t) (variables_of ts)))

mutual
  pub nodes_numbered : (f : ℕ → ℕ) (t : Tree) → nodes (substitute (λ n. variable (f n)) t) ≡ nodes t
  nodes_numbered f (variable n) = refl
  nodes_numbered f (integer z) = refl
  nodes_numbered f (atom g) = refl
  nodes_numbered f (compound g ts) = ap (λ n. 1 + n) (all_nodes_numbered f ts)

  pub all_nodes_numbered : (f : ℕ → ℕ) (ts : Trees) → nodes_of (substitute_in (λ n. variable (f n)) ts) ≡ nodes_of ts
  all_nodes_numbered f no_trees = refl
  all_nodes_numbered f (tree t ts) = rw (nodes_numbered f t, all_nodes_numbered f ts) refl

-- numbers that are different stay different
abbrev IsOneToOne : (ℕ → ℕ) → List ℕ → Type 0
IsOneToOne f ms = (m n : ℕ) → In m ms → In n ms → f m ≡ f n → m ≡ n

in_left_out : (k n : ℕ) (ms : List ℕ) → In k (without n ms) → In k ms
in_left_out k n [] h = h
in_left_out k n (m ∷ ms) h = grind (arith, eqb_tells m n, eqb_tells m k, in_left_out k n ms)

firsts_in : (k : ℕ) (ms : List ℕ) → In k (firsts ms) → In k ms
firsts_in k [] h = h
firsts_in k (m ∷ ms) h = elim (eqb_tells m k) [ inl q ↦ rw q.0 refl | inr q ↦ rw q.0 (firsts_in k ms (in_left_out k m (firsts ms) (rw q.0 at h))) ]

same_test : (f : ℕ → ℕ) (m n : ℕ) → (f m ≡ f n → m ≡ n) → (f m == f n) ≡ (m == n)
same_test f m n h = elim (eqb_tells m n) [
  | inl q ↦ rw q.0 (eq-eqb (f m) (f n) (ap f q.1))
  | inr q ↦ rw q.0 (elim (eqb_tells (f m) (f n)) [ inl p ↦ absurd (q.1 (h p.1)) | inr p ↦ p.0 ])
]

without_numbered : (f : ℕ → ℕ) (n : ℕ) (ms : List ℕ) → ((m : ℕ) → In m ms → f m ≡ f n → m ≡ n) → without (f n) (map f ms) ≡ map f (without n ms)
without_numbered f n [] h = refl
without_numbered f n (m ∷ ms) h =
    rw (same_test f m n (h m (in_head m ms)), without_numbered f n ms (λ k i. h k (in_tail k m ms i))) (either (m == n))
  where
    either : (b : Bool) → cond b (map f (without n ms)) (f m ∷ map f (without n ms)) ≡ map f (cond b (without n ms) (m ∷ without n ms))
    either true = refl
    either false = refl

firsts_numbered : (f : ℕ → ℕ) (ms : List ℕ) → IsOneToOne f ms → firsts (map f ms) ≡ map f (firsts ms)
firsts_numbered f [] h = refl
firsts_numbered f (m ∷ ms) h =
    rw (firsts_numbered f ms (λ a b i j. h a b (in_tail a m ms i) (in_tail b m ms j)))
    (ap (λ z. f m ∷ z) (without_numbered f m (firsts ms) (λ k i. h k m (in_tail k m ms (firsts_in k ms i)) (in_head m ms))))

place_numbered : (f : ℕ → ℕ) (ms : List ℕ) (n : ℕ) → ((m : ℕ) → In m ms → f m ≡ f n → m ≡ n) → place_in (map f ms) (f n) ≡ place_in ms n
place_numbered f [] n h = refl
place_numbered f (m ∷ ms) n h = rw (same_test f m n (h m (in_head m ms)), place_numbered f ms n (λ k i. h k (in_tail k m ms i))) refl

-- the number that a variable gets
abbrev new : ℕ → List ℕ → ℕ → ℕ
new next ms n = next + place_in (firsts ms) n

one_to_one : (next : ℕ) (ms : List ℕ) → IsOneToOne (new next ms) ms
one_to_one next ms m n i j e =
    let p : place_in (firsts ms) m ≡ place_in (firsts ms) n = omega (arith, e) in
    sym (at_its_place (firsts ms) m (in_firsts m ms i)) ∙ (ap (λ z. get_or (firsts ms) z 0) p ∙ at_its_place (firsts ms) n (in_firsts n ms j))

renamed_firsts : (next : ℕ) (t : Tree) → firsts (variables (rename next t)) ≡ map (new next (variables t)) (firsts (variables t))
renamed_firsts next t = ap firsts (variables_numbered (new next (variables t)) t)
    ∙ firsts_numbered (new next (variables t)) (variables t) (one_to_one next (variables t))

pub renamed_again : (next before : ℕ) (t : Tree) → rename next (rename before t) ≡ rename next t
renamed_again next before t =
    let f = new before (variables t) in
    twice (λ n. variable (next + place_in (firsts (variables (rename before t))) n)) (λ n. variable (f n)) t
    ∙ alike _ _ t (λ n i. ap (λ z. variable (next + z)) (ap (λ z. place_in z (f n)) (renamed_firsts before t)
    ∙ place_numbered f (firsts (variables t)) n (λ m j e. one_to_one before (variables t) m n (firsts_in m (variables t) j) i e)))

pub renamed_width : (next : ℕ) (t : Tree) → width (rename next t) ≡ width t
renamed_width next t = ap length (renamed_firsts next t) ∙ length-map (firsts (variables t)) (new next (variables t))

pub renamed_nodes : (next : ℕ) (t : Tree) → nodes (rename next t) ≡ nodes t
renamed_nodes next t = nodes_numbered (new next (variables t)) t

-- a list whose numbers follow one another
place_counted : (next : ℕ) (ms : List ℕ) (n : ℕ) → counts_from next ms ≡ true → In n ms → next + place_in ms n ≡ n
place_counted next [] n h i = absurd (cc i)
place_counted next (m ∷ ms) n h i =
    let e : m ≡ next = equal (eqb_tells m next) (and_first (m == next) (counts_from (1 + next) ms) h) in
    elim (eqb_tells m n) [
      | inl q ↦ rw q.0 (omega (arith, e, q.1))
      | inr q ↦ rw q.0 (omega (arith, place_counted (1 + next) ms n (and_second (m == next) (counts_from (1 + next) ms) h) (rw q.0 at i)))
    ]
  where
    equal : (((m == next) ≡ true) × (m ≡ next)) ⊎ (((m == next) ≡ false) × (m ≢ next)) → (m == next) ≡ true → m ≡ next
    equal (inl q) h = q.1
    equal (inr q) h = absurd (cc (q.0, h))

pub numbered_stays : (t : Tree) → is_numbered t ≡ true → rename 0 t ≡ t
numbered_stays t h = alike _ variable t (λ n i. ap variable (place_counted 0 (firsts (variables t)) n h (in_firsts n (variables t) i))) ∙ as_it_is t

map_alike : (f g : ℕ → ℕ) (ms : List ℕ) → ((n : ℕ) → In n ms → f n ≡ g n) → map f ms ≡ map g ms
map_alike f g [] h = refl
map_alike f g (m ∷ ms) h = rw (h m (in_head m ms), map_alike f g ms (λ n i. h n (in_tail n m ms i))) refl

not_without : (n : ℕ) (ms : List ℕ) → has n (without n ms) ≡ false
not_without n [] = refl
not_without n (m ∷ ms) = elim (eqb_tells m n) [ inl q ↦ rw q.0 (not_without n ms) | inr q ↦ rw (q.0, q.0) (not_without n ms) ]

not_left_out : (k n : ℕ) (ms : List ℕ) → has k ms ≡ false → has k (without n ms) ≡ false
not_left_out k n ms h = not_in_false k (without n ms) (has k (without n ms)) refl (λ i. cc (in_left_out k n ms i, h))

not_true : (b : Bool) → not b ≡ true → b ≡ false
not_true true h = absurd (cc h)
not_true false h = refl

different_without : (n : ℕ) (ms : List ℕ) → are_different ms ≡ true → are_different (without n ms) ≡ true
different_without n [] h = refl
different_without n (m ∷ ms) h =
    let out : has m ms ≡ false = not_true (has m ms) (and_first (not (has m ms)) (are_different ms) h) in
    let rest : are_different (without n ms) ≡ true = different_without n ms (and_second (not (has m ms)) (are_different ms) h) in
    elim (eqb_tells m n) [ inl q ↦ rw q.0 rest | inr q ↦ rw (q.0, not_left_out m n ms out) rest ]

different_firsts : (ms : List ℕ) → are_different (firsts ms) ≡ true
different_firsts [] = refl
different_firsts (m ∷ ms) = rw (not_without m (firsts ms)) (different_without m (firsts ms) (different_firsts ms))

counted_places : (next : ℕ) (ms : List ℕ) → are_different ms ≡ true → counts_from next (map (λ n. next + place_in ms n) ms) ≡ true
counted_places next [] h = refl
counted_places next (m ∷ ms) h =
    let out : has m ms ≡ false = not_true (has m ms) (and_first (not (has m ms)) (are_different ms) h) in
    let itself : (next + place_in (m ∷ ms) m == next) ≡ true = eq-eqb _ _ (rw (eq-eqb m m refl) (omega arith)) in
    let others : map (λ n. next + place_in (m ∷ ms) n) ms ≡ map (λ n. 1 + next + place_in ms n) ms =
    map_alike _ _ ms (λ n i. next_place next m ms n (λ e. cc (ap (λ z. has z ms) e, out, i))) in
    rw (itself, others) (counted_places (1 + next) ms (and_second (not (has m ms)) (are_different ms) h))
  where
    next_place : (next m : ℕ) (ms : List ℕ) (n : ℕ) → m ≢ n → next + place_in (m ∷ ms) n ≡ 1 + next + place_in ms n
    next_place next m ms n d = elim (eqb_tells m n) [ inl q ↦ absurd (d q.1) | inr q ↦ rw q.0 (omega arith) ]

pub renamed_counts : (next : ℕ) (t : Tree) → counts_from next (firsts (variables (rename next t))) ≡ true
renamed_counts next t = ap (counts_from next) (renamed_firsts next t) ∙ counted_places next (firsts (variables t)) (different_firsts (variables t))
