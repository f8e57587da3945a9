-- The variables of a term, those of what these are bound to, and so on, each looked up once: a variable that isn't bound stands
-- in the term, once all that is bound is replaced in it, just where it is met so.
use Rattle.std.specs.Prelude.{◌≡◌, ◌≢◌, ℕ, zero, suc, ◌+◌, ◌≤◌, ◌==◌, nat_eq, Bool, true, false, ◌||◌, cond, List, [], ◌∷◌, ◌++◌, take, length, slice_get, Some, None}
use Rattle.std.specs.List.{IsDistinct}
use Rattle.std.specs.Map.{keys_of}
use Rattle.std.proofs.Common.{refl, sym, ap, subst, ◌∙◌, inl, inr, ◌⊎◌, arith, append_assoc}
use Rattle.std.proofs.lemmas.Bool.Decides.{eqb_tells}
use Rattle.std.proofs.lemmas.List.{append-nil, take_all, take-append-le}
use Rattle.std.proofs.lemmas.Option.{slice_get_within}
use Rattle.ml_term.specs.Seen.{seen}
use Rattle.ml_term.specs.Tree.{Tree, Trees, variable, integer, atom, compound, no_trees, tree, has, firsts, occurs, variables, variables_of, substitute_in}
use Rattle.ml_term.specs.Unify.{Map, apply, binding, value_of}
use Rattle.ml_term.specs.Unifiers.{compose}
use Rattle.ml_term.specs.declared.term.Term.{Term}
use Rattle.ml_term.proofs.DistinctCounts.{In, in_tail, in_head}
use Rattle.ml_term.proofs.MapComposition.{applied_followed, applied_empty}
use Rattle.ml_term.proofs.MostGeneralUnifiers.{not_in_false}
use Rattle.ml_term.proofs.UnificationEnds.{in_either, in_left, in_right, in_one_only}
use Rattle.ml_search.specs.MapSeen.{bound_term}
use Rattle.ml_search.specs.Actions.{shift_variables}
use Rattle.ml_search.specs.declared.unification.pair.Shifted.{Shifted}
use Rattle.ml_search.specs.inside.Meeting.{variables_met}
use Rattle.ml_search.specs.inside.Triangular.{IsTriangular, map_after, map_of}
use Rattle.ml_search.specs.inside.Unifying.{arguments_from, bindings_of, tree_of}
use Rattle.ml_search.proofs.DeclarationsFound.{up_to}
use Rattle.ml_search.proofs.Unifying.BindingsFound.{first_is_found, further_is_found, others_are_distinct}
use Rattle.ml_search.proofs.Unifying.BoundChains.{stands_for_bound, stands_for_itself}
use Rattle.ml_search.proofs.Unifying.FirstPlaces.{met_then_others, left_out}

-- what was met stays met
stays_met : (k : ℕ) (ms ns : List ℕ) → In k ms → In k (variables_met ms ns)
stays_met k ms [] h = h
stays_met k ms (n ∷ ns) h = stays_met k (cond (has n ms) ms (ms ++ n ∷ [])) ns (by (has n ms))
  where
    by : (b : Bool) → In k (cond b ms (ms ++ n ∷ []))
    by true = h
    by false = in_left k ms (n ∷ []) h

is_met : (k : ℕ) (ms ns : List ℕ) → In k ns → In k (variables_met ms ns)
is_met k ms [] h = absurd (cc h)
is_met k ms (n ∷ ns) h = elim (eqb_tells n k) [
  | inl q ↦ stays_met k (cond (has n ms) ms (ms ++ n ∷ [])) ns (subst (λ x. In x (cond (has n ms) ms (ms ++ n ∷ []))) q.1 (here (has n ms) refl))
  | inr q ↦ is_met k (cond (has n ms) ms (ms ++ n ∷ [])) ns (ap (λ b. b || has k ns) (sym q.0) ∙ h)
]
  where
    here : (b : Bool) → has n ms ≡ b → In n (cond b ms (ms ++ n ∷ []))
    here true i = i
    here false i = in_right n ms (n ∷ []) (in_head n [])

met_from : (k : ℕ) (ms ns : List ℕ) → In k (variables_met ms ns) → In k ms ⊎ In k ns
met_from k ms [] h = inl h
met_from k ms (n ∷ ns) h = elim (met_from k (cond (has n ms) ms (ms ++ n ∷ [])) ns h) [
  | inl i ↦ by (has n ms) i
  | inr i ↦ inr (in_tail k n ns i)
]
  where
    by : (b : Bool) → In k (cond b ms (ms ++ n ∷ [])) → In k ms ⊎ In k (n ∷ ns)
    by true i = inl i
    by false i = elim (in_either k ms (n ∷ []) i) [
      | inl j ↦ inl j
      | inr j ↦ inr (subst (λ x. In x (n ∷ ns)) (sym (in_one_only k n j)) (in_head n ns))
    ]

at_is_in : (ms : List ℕ) (i n : ℕ) → slice_get ms i ≡ Some n → In n ms
at_is_in [] i n e = absurd (cc e)
at_is_in (m ∷ ms) zero n e = let same : m ≡ n = cc e in subst (λ x. In x (m ∷ ms)) same (in_head m ms)
at_is_in (m ∷ ms) (suc i) n e = in_tail n m ms (at_is_in ms i n e)

none_at : (ms : List ℕ) (i : ℕ) → slice_get ms i ≡ None → length ms ≤ i
none_at [] i e = omega arith
none_at (m ∷ ms) zero e = absurd (cc e)
none_at (m ∷ ms) (suc i) e = omega (arith, none_at ms i e)

-- one term of many is in their places
module _ (v x : ℕ) (m : Map) where
  mutual
    within : (t : Tree) → In x (variables t) → In v (variables (apply m (variable x))) → In v (variables (apply m t))
    within (variable n) h o = subst (λ k. In v (variables (apply m (variable k)))) (in_one_only x n h) o
    within (integer z) h o = absurd (cc h)
    within (atom f) h o = absurd (cc h)
    within (compound f ts) h o = within_all ts h o

    within_all : (ts : Trees) → In x (variables_of ts) → In v (variables (apply m (variable x))) → In v (variables_of (substitute_in (value_of m) ts))
    within_all no_trees h o = absurd (cc h)
    within_all (tree t ts) h o = elim (in_either x (variables t) (variables_of ts) h) [
      | inl j ↦ in_left v (variables (apply m t)) (variables_of (substitute_in (value_of m) ts)) (within t j o)
      | inr j ↦ in_right v (variables (apply m t)) (variables_of (substitute_in (value_of m) ts)) (within_all ts j o)
    ]

-- all variables of a term are among some
abbrev AreAmong : List ℕ → Tree → Type 0
AreAmong ms t = (k : ℕ) → In k (variables t) → In k ms

abbrev AllAmong : List ℕ → Trees → Type 0
AllAmong ms ts = (k : ℕ) → In k (variables_of ts) → In k ms

module _ (ms : List ℕ) (n : ℕ) (w : Tree) (put : In n ms → AreAmong ms w) where
  put_in : (m : ℕ) → In m ms → AreAmong ms (apply (binding n w) (variable m))
  put_in m i k h = by (n == m) refl h
    where
      by : (b : Bool) → (n == m) ≡ b → In k (variables (cond (n == m) w (variable m))) → In k ms
      by true e g = elim (eqb_tells n m) [
        | inl q ↦ put (subst (λ x. In x ms) (sym q.1) i) k (ap (λ b. has k (variables (cond b w (variable m)))) (sym e) ∙ g)
        | inr q ↦ absurd (cc (e, q.0))
      ]
      by false e g = subst (λ x. In x ms) (sym (in_one_only k m (ap (λ b. has k (variables (cond b w (variable m)))) (sym e) ∙ g))) i

  mutual
    replaced : (u : Tree) → AreAmong ms u → AreAmong ms (apply (binding n w) u)
    replaced (variable m) h k i = put_in m (h m (in_head m [])) k i
    replaced (integer z) h k i = absurd (cc i)
    replaced (atom f) h k i = absurd (cc i)
    replaced (compound f us) h k i = all_replaced us h k i

    all_replaced : (us : Trees) → AllAmong ms us → AllAmong ms (substitute_in (value_of (binding n w)) us)
    all_replaced no_trees h k i = absurd (cc i)
    all_replaced (tree u us) h k i =
        elim (in_either k (variables (apply (binding n w) u)) (variables_of (substitute_in (value_of (binding n w)) us)) i) [
          | inl j ↦ replaced u (λ x g. h x (in_left x (variables u) (variables_of us) g)) k j
          | inr j ↦ all_replaced us (λ x g. h x (in_right x (variables u) (variables_of us) g)) k j
        ]

abbrev AreKept : List ℕ → Map → Type 0
AreKept ms [] = Unit {0}
AreKept ms (b ∷ bs) = (In b.0 ms → AreAmong ms b.1) × AreKept ms bs

kept_after : (ms : List ℕ) (m bs : Map) → ((t : Tree) → AreAmong ms t → AreAmong ms (apply m t)) → AreKept ms bs → (t : Tree) → AreAmong ms t
    → AreAmong ms (apply (map_after m bs) t)
kept_after ms m [] h kept t i = h t i
kept_after ms m (b ∷ bs) h kept t i =
    let w = apply m b.1 in
    let next : (u : Tree) → AreAmong ms u → AreAmong ms (apply (compose m (binding b.0 w)) u) =
    λ u j. subst (AreAmong ms) (sym (applied_followed m (binding b.0 w) u)) (replaced ms b.0 w (λ g. h b.1 (kept.0 g)) (apply m u) (h u j)) in
    kept_after ms (compose m (binding b.0 w)) bs next kept.1 t i

all_kept : (ms : List ℕ) (bs : Map) → AreKept ms bs → (t : Tree) → AreAmong ms t → AreAmong ms (apply (map_of bs) t)
unfolding map_of
all_kept ms bs kept t i = kept_after ms [] bs (λ u j. subst (AreAmong ms) (sym (applied_empty u)) j) kept t i

kept_from : (ms : List ℕ) (es : List (ℕ × Shifted)) → IsDistinct nat_eq (keys_of es) →
    ((x : ℕ) (t : Tree) → In x ms → bound_term (bindings_of es) x ≡ Some t → AreAmong ms t) → AreKept ms (bindings_of es)
kept_from ms [] d h = tt
kept_from ms (e ∷ es) d h = (
  λ i. h e.0 (tree_of e.1) i (first_is_found e es),
  kept_from ms es (others_are_distinct e es d) (λ x t i b. h x t i (further_is_found e.0 x e.1 es t d b)),
)

-- a variable whose term's variables were all met, or that isn't bound and is another one than the variable that is looked for
pub record IsWalked (bs : Map) (v : ℕ) (ms : List ℕ) (x : ℕ) : Type 0 where
  pub bound : (t : Tree) → bound_term bs x ≡ Some t → (k : ℕ) → In k (variables t) → In k ms
  pub other : bound_term bs x ≡ None → x ≢ v

wider : (bs : Map) (v : ℕ) (ms ms' : List ℕ) (x : ℕ) → ((k : ℕ) → In k ms → In k ms') → IsWalked bs v ms x → IsWalked bs v ms' x
wider bs v ms ms' x more h = record { bound = λ t e k i. more k (h.bound t e k i); other = h.other }

-- how far a walk from a term came: the first variables that were met are walked
pub record Walk (bs : Map) (v : ℕ) (t : Tree) (i : ℕ) (ms : List ℕ) : Type 0 where
  pub whole : (k : ℕ) → In k (variables t) → In k ms
  pub walked : (x : ℕ) → In x (take i ms) → IsWalked bs v ms x
  pub reached : (x : ℕ) → In x ms → In v (variables (apply (map_of bs) (variable x))) → In v (variables (apply (map_of bs) t))

pub walk_begins : (bs : Map) (v : ℕ) (t : Tree) (old ms : List ℕ) → old ≡ [] → ms ≡ variables_met old (variables t) → Walk bs v t 0 ms
walk_begins bs v t old ms none e =
    let is : ms ≡ variables_met [] (variables t) = e ∙ ap (λ x. variables_met x (variables t)) none in
    record {
      whole = λ k h. subst (In k) (sym is) (is_met k [] (variables t) h);
      walked = λ x h. absurd (cc h);
      reached = λ x h o. elim (met_from x [] (variables t) (subst (In x) is h)) [ inl j ↦ absurd (cc j) | inr j ↦ within v x (map_of bs) t j o ];
    }

taken_longer : (ms ns : List ℕ) (i n : ℕ) → slice_get ms i ≡ Some n → take (i + 1) (variables_met ms ns) ≡ take i ms ++ n ∷ []
taken_longer ms ns i n at =
    let low : i + 1 ≤ length ms = omega (arith, slice_get_within ms i n at) in
    ap (take (i + 1)) (met_then_others ms ns) ∙ take-append-le (i + 1) ms (left_out ms (firsts ns)) low ∙ sym (up_to ms i n at)

module _ (bs : Map) (v : ℕ) (t : Tree) (i n : ℕ) (ms : List ℕ) (w : Walk bs v t i ms) (at : slice_get ms i ≡ Some n) where
  -- the variable is bound
  pub walk_passes_bound : (u : Tree) (ms' : List ℕ) → IsTriangular bs → bound_term bs n ≡ Some u → ms' ≡ variables_met ms (variables u) →
      Walk bs v t (i + 1) ms'
  walk_passes_bound u ms' h e more =
      let kept : (k : ℕ) → In k ms → In k ms' = λ k j. subst (In k) (sym more) (stays_met k ms (variables u) j) in
      let here : IsWalked bs v ms' n = record {
        bound = λ s f k j. let same : u ≡ s = cc in subst (In k) (sym more) (is_met k ms (variables u) (subst (λ y. In k (variables y)) (sym same) j));
        other = λ f. absurd (cc);
      } in
      record {
        whole = λ k j. kept k (w.whole k j);
        walked = λ x j.
            elim (in_either x (take i ms) (n ∷ []) (subst (In x) (ap (take (i + 1)) more ∙ taken_longer ms (variables u) i n at) j)) [
              | inl g ↦ wider bs v ms ms' x kept (w.walked x g)
              | inr g ↦ subst (IsWalked bs v ms') (sym (in_one_only x n g)) here
            ];
        reached = λ x j o. elim (met_from x ms (variables u) (subst (In x) more j)) [
          | inl g ↦ w.reached x g o
          | inr g ↦ w.reached n (at_is_in ms i n at)
              (subst (λ y. In v (variables y)) (sym (stands_for_bound bs n u h e)) (within v x (map_of bs) u g o))
        ];
      }

  -- the variable isn't bound, and is another one
  pub walk_passes_free : bound_term bs n ≡ None → n ≢ v → Walk bs v t (i + 1) ms
  walk_passes_free e d =
      let here : IsWalked bs v ms n = record { bound = λ s f. absurd (cc); other = λ f. d } in
      record {
        whole = w.whole;
        walked = λ x j. elim (in_either x (take i ms) (n ∷ []) (subst (In x) (sym (up_to ms i n at)) j)) [
          | inl g ↦ w.walked x g
          | inr g ↦ subst (IsWalked bs v ms) (sym (in_one_only x n g)) here
        ];
        reached = w.reached;
      }

  -- the variable is found
  pub walk_finds : IsTriangular bs → bound_term bs n ≡ None → n ≡ v → occurs v (apply (map_of bs) t) ≡ true
  walk_finds h e same =
      w.reached n (at_is_in ms i n at)
      (subst (λ y. In v (variables y)) (sym (stands_for_itself bs n h e)) (subst (λ k. In k (variables (variable n))) same (in_head n [])))

-- all that was met is walked
pub walk_ends : (es : List (ℕ × Shifted)) (v : ℕ) (t : Tree) (i : ℕ) (ms : List ℕ) → Walk (bindings_of es) v t i ms → slice_get ms i ≡ None
    → IsDistinct nat_eq (keys_of es) → bound_term (bindings_of es) v ≡ None → occurs v (apply (map_of (bindings_of es)) t) ≡ false
walk_ends es v t i ms w none d free =
    let bs = bindings_of es in
    let all : take i ms ≡ ms = take_all i ms (none_at ms i none) in
    let each : (x : ℕ) → In x ms → IsWalked bs v ms x = λ x j. w.walked x (subst (In x) (sym all) j) in
    let kept : AreKept ms bs = kept_from ms es d (λ x u j e. (each x j).bound u e) in
    not_in_false v (variables (apply (map_of bs) t)) (has v (variables (apply (map_of bs) t))) refl
    (λ j. (each v (all_kept ms bs kept t w.whole v j)).other free refl)

-- the variables of one argument more
pub variables_more_from : (base : ℕ) (ts : List Term) (t : Term) →
    variables_of (arguments_from base (ts ++ t ∷ [])) ≡ variables_of (arguments_from base ts) ++ variables (shift_variables base (seen t))
variables_more_from base [] t = append-nil (variables (shift_variables base (seen t)))
variables_more_from base (u ∷ ts) t =
    ap (λ b. variables (shift_variables base (seen u)) ++ b) (variables_more_from base ts t)
    ∙ sym (append_assoc (variables (shift_variables base (seen u))) (variables_of (arguments_from base ts)) (variables (shift_variables base (seen t))))
