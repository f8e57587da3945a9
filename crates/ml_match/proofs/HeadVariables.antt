-- The variables of a head that was matched so far, and of the terms that are left.
use Rattle.std.proofs.Common.{◌≡◌, ◌≢◌, ℕ, ◌+◌, ◌<◌, ◌≤◌, Bool, true, false, cond, nat_lt, ◌⊎◌, inl, inr, List, [], ◌∷◌, ◌++◌, map, Some, refl, sym, ap, subst, ◌∙◌, arith}
use Rattle.std.specs.List.{zip}
use Rattle.std.proofs.lemmas.Bool.Decides.{eqb_tells, nat_tests}
use Rattle.ml_term.specs.Tree.{Tree, Trees, no_trees, tree, variable, integer, atom, compound, trees_of, list_of, variables, variables_of, occurs, has, substitute}
use Rattle.ml_term.specs.Unify.{Map, eliminate, step, apply, value_of, binding, unifier}
use Rattle.ml_term.specs.Unifiers.{equations_under, replaced_variables}
use Rattle.ml_term.proofs.DistinctCounts.{In}
use Rattle.ml_term.proofs.UnificationEnds.{in_either, in_left, in_right, equations_variables}
use Rattle.ml_term.proofs.Substitutions.{alike, as_it_is, twice, comes, in_itself}
use Rattle.ml_term.proofs.UnifierIsOne.{is_most_general, not_replaced}
use Rattle.ml_term.proofs.UnificationRules.{solved_step, solved_none_left}
use Rattle.ml_heap.specs.Changes.{Changes, cell_count, stands_for}
use Rattle.ml_compile.specs.declared.instr.Instr.{Instr}
use Rattle.ml_compile.specs.Spells.{Matches, nothing_matched, first_matched, again_matched, integer_matched, atom_matched, compound_matched}
use Rattle.ml_match.specs.inside.Running.{IsBelow, AreBelow}
use Rattle.ml_match.proofs.HeadParts.{matches_rises}

pub weaker : (m n : ℕ) (t : Tree) → m ≤ n → IsBelow m t → IsBelow n t
weaker m n t l b k i = let h = b k i in omega arith

-- a number that isn't in a list
absent : (n : ℕ) (ns : List ℕ) → (In n ns → ⊥) → has n ns ≡ false
absent n ns h = none (has n ns) refl
  where
    none : (b : Bool) → has n ns ≡ b → b ≡ false
    none true e = absurd (h e)
    none false e = refl

-- the variables of one equation
in_one : (k : ℕ) (a b : Tree) → In k (equations_variables ((a, b) ∷ [])) → In k (variables a) ⊎ In k (variables b)
in_one k a b i = elim (in_either k (variables a ++ variables b) [] i) [ inl j ↦ in_either k (variables a) (variables b) j | inr j ↦ absurd (cc j) ]

module _ (c : ℕ) (a b : Tree) (n : Map) (u : unifier a b ≡ Some n) (p : IsBelow c a) (q : IsBelow c b) where
  equations_below : (k : ℕ) → In k (equations_variables ((a, b) ∷ [])) → k < c
  equations_below k i = elim (in_one k a b i) [ inl j ↦ p k j | inr j ↦ q k j ]

  -- what a unifier makes of a term below a number is below it
  pub below_applied : (t : Tree) → IsBelow c t → IsBelow c (apply n t)
  below_applied t r k i =
      let f = comes (value_of n) k t i in
      elim ((is_most_general ((a, b) ∷ []) n u).kept f.0 k f.1.1) [
        | inl g ↦ let j : In k (variables t) = subst (λ x. In x (variables t)) (sym g) f.1.0 in r k j
        | inr g ↦ equations_below k g
      ]

  -- and leaves all other variables
  pub others_stay : (v : ℕ) → c ≤ v → value_of n v ≡ variable v
  others_stay v l = not_replaced n v (absent v (replaced_variables n) (λ i.
      let h = equations_below v ((is_most_general ((a, b) ∷ []) n u).of_them v i) in omega arith))

-- a term without the variable stays
pub stays_below : (v : ℕ) (t u : Tree) → IsBelow v u → apply (binding v t) u ≡ u
stays_below v t u b = alike (value_of (binding v t)) variable u (λ k i. other k (b k i)) ∙ as_it_is u
  where
    other : (k : ℕ) → k < v → value_of (binding v t) k ≡ variable k
    other k l = elim (eqb_tells v k) [ inl e ↦ absurd (omega (arith, e.1)) | inr e ↦ rw e.0 refl ]

pub binds_itself : (v : ℕ) (t : Tree) → value_of (binding v t) v ≡ t
binds_itself v t = elim (eqb_tells v v) [ inl e ↦ rw e.0 refl | inr e ↦ absurd (e.1 refl) ]

pub binds_no_other : (v k : ℕ) (t : Tree) → (v ≢ k) → value_of (binding v t) k ≡ variable k
binds_no_other v k t d = elim (eqb_tells v k) [ inl e ↦ absurd (d e.1) | inr e ↦ rw e.0 refl ]

-- a new variable is bound to what is older
eliminated : (t : Tree) (v : ℕ) → IsBelow v t → step t (variable v) ≡ eliminate v t
eliminated (variable j) v b =
    let l : j < v = b j (in_itself j) in
    elim (eqb_tells j v) [ inl e ↦ absurd (omega (arith, e.1)) | inr e ↦ rw e.0 (less l) ]
  where
    less : j < v → cond (nat_lt j v) (eliminate v (variable j)) (eliminate j (variable v)) ≡ eliminate v (variable j)
    less l = let e : nat_lt j v ≡ true = grind (arith, nat_tests) in rw e refl
eliminated (integer z) v b = refl
eliminated (atom f) v b = refl
eliminated (compound f ts) v b =
    let e : occurs v (compound f ts) ≡ false = absent v (variables_of ts) (λ i. let l = b v i in omega arith) in rw e refl

pub bound_new : (t : Tree) (v : ℕ) → IsBelow v t → unifier t (variable v) ≡ Some (binding v t)
bound_new t v b = solved_step (t, variable v) [] [] ∙ (rw (eliminated t v b) (solved_none_left (binding v t)))

-- equations by their sides
pub zip_under : (n : Map) (ts us : List Tree) → equations_under n (zip ts us) ≡ zip (map (apply n) ts) (map (apply n) us)
zip_under n [] us = refl
zip_under n (t ∷ ts) [] = refl
zip_under n (t ∷ ts) (u ∷ us) = ap (λ es. (apply n t, apply n u) ∷ es) (zip_under n ts us)

pub cells_carried : (h h' : Changes) (n : Map) (c : ℕ) (qs : List ℕ) → AreBelow h c qs
    → ((r : ℕ) → r < cell_count h → IsBelow c (stands_for h r) → stands_for h' r ≡ apply n (stands_for h r))
    → map (stands_for h') qs ≡ map (apply n) (map (stands_for h) qs)
cells_carried h h' n c [] a k = refl
cells_carried h h' n c (q ∷ qs) a k =
    ap (λ x. x ∷ map (stands_for h') qs) (k q a.0.0 a.0.1) ∙ ap (λ xs. apply n (stands_for h q) ∷ xs) (cells_carried h h' n c qs a.1 k)

pub terms_carried : (n : Map) (s r : ℕ → Tree) (ts : List Tree) → ((k : ℕ) → In k (variables_of (trees_of ts)) → r k ≡ apply n (s k))
    → map (substitute r) ts ≡ map (apply n) (map (substitute s) ts)
terms_carried n s r [] f = refl
terms_carried n s r (t ∷ ts) f =
    let e : substitute r t ≡ apply n (substitute s t) =
    alike r (λ k. apply n (s k)) t (λ k i. f k (in_left k (variables t) (variables_of (trees_of ts)) i)) ∙ sym (twice (value_of n) s t) in
    ap (λ x. x ∷ map (substitute r) ts) e
    ∙ ap (λ xs. apply n (substitute s t) ∷ xs) (terms_carried n s r ts (λ k i. f k (in_right k (variables t) (variables_of (trees_of ts)) i)))

pub trees_listed : (us : Trees) → trees_of (list_of us) ≡ us
trees_listed no_trees = refl
trees_listed (tree u us) = ap (tree u) (trees_listed us)

pub only : (k n : ℕ) → In k (n ∷ []) → n ≡ k
only k n i = grind (arith, eqb_tells n k)

-- the variables of the terms that are left
pub matched_below : {code : List Instr} {p q met after : ℕ} {ts : List Tree} → Matches code p q met ts after → (k : ℕ) → In k (variables_of (trees_of ts))
    → k < after
matched_below nothing_matched k i = absurd (cc i)
matched_below {met} (first_matched {ts = rest} s m) k i = elim (in_either k (met ∷ []) (variables_of (trees_of rest)) i) [
  | inl j ↦ let l = matches_rises m in let e = only k met j in omega arith
  | inr j ↦ matched_below m k j
]
matched_below {met} (again_matched {n} {ts = rest} s x m) k i = elim (in_either k (n ∷ []) (variables_of (trees_of rest)) i) [
  | inl j ↦ let l = matches_rises m in let e = only k n j in omega arith
  | inr j ↦ matched_below m k j
]
matched_below (integer_matched s m) k i = matched_below m k i
matched_below (atom_matched s m) k i = matched_below m k i
matched_below (compound_matched {us} {ts = rest} s n inner m) k i = elim (in_either k (variables_of us) (variables_of (trees_of rest)) i) [
  | inl j ↦ let l = matches_rises m in
      let b = matched_below inner k (subst (λ (vs : Trees). In k (variables_of vs)) (sym (trees_listed us)) j) in omega arith
  | inr j ↦ matched_below m k j
]

-- cells below a number later
pub below_later : (h h' : Changes) (c d : ℕ) (qs : List ℕ) → cell_count h ≤ cell_count h'
    → ((r : ℕ) → r < cell_count h → IsBelow c (stands_for h r) → IsBelow d (stands_for h' r)) → AreBelow h c qs → AreBelow h' d qs
below_later h h' c d [] l k a = tt
below_later h h' c d (q ∷ qs) l k a = ((omega (arith, a.0.0, l), k q a.0.0 a.0.1), below_later h h' c d qs l k a.1)

pub met_or_unmet : (n met : ℕ) → (n < met) ⊎ (met ≤ n)
met_or_unmet n met = grind arith
