-- A variable that stands alone in a cell: how it comes to, and what keeps it so.
use Rattle.std.specs.Prelude.{◌≡◌, ◌≢◌, ℕ, zero, suc, ◌+◌, ◌<◌, ◌≤◌, Bool, true, false, pos, List, [], ◌∷◌, ◌++◌, ◌⊎◌, map, length, get_or, Some}
use Rattle.std.proofs.Common.{inl, inr, refl, sym, ap, ◌∙◌, subst, arith, length-append}
use Rattle.std.proofs.Math.ListN.{get_or-map, get_or-append}
use Rattle.std.proofs.lemmas.List.{length-map}
use Rattle.ml_term.specs.Tree.{Tree, variable, integer, compound, trees_of, occurs, variables, variables_of, has}
use Rattle.ml_term.specs.Unify.{Map, apply, value_of, mgu, unifier, Equation}
use Rattle.ml_term.specs.Unifiers.{replaced_variables}
use Rattle.ml_term.proofs.DistinctCounts.{In}
use Rattle.ml_term.proofs.UnificationEnds.{in_either, equations_variables}
use Rattle.ml_term.proofs.Substitutions.{comes}
use Rattle.ml_term.proofs.UnifierIsOne.{is_most_general, not_replaced}
use Rattle.ml_heap.specs.Changes.{Changes, state, trees, cell_count, variable_count, stands_for, tree_in, HasOneMore}
use Rattle.ml_heap.specs.Carries.{IsAlone}
use Rattle.ml_heap.proofs.NumbersBelow.{absent}
use Rattle.ml_heap.proofs.StoredTerms.{one_cell, grows_one, one_inside, one_stands}

-- a variable that can't stand in a list doesn't
absent_in : (n : ℕ) (ns : List ℕ) → (In n ns → ⊥) → has n ns ≡ false
absent_in n ns h = none (has n ns) refl
  where
    none : (b : Bool) → has n ns ≡ b → b ≡ false
    none true e = absurd (h e)
    none false e = refl

pub alone_when_made : (h h' : Changes) (r : ℕ) → HasOneMore h h' r (variable (variable_count h)) → IsAlone h' (variable_count h) r
alone_when_made h h' r m = record {
  inside = one_inside h h' r _ m;
  stands = one_stands h h' r _ m;
  others = λ q l d. ap (occurs (variable_count h)) ((grows_one h h' r _ m).others q (older q l d)) ∙ absent h q;
}
  where
    older : (q : ℕ) → q < cell_count h' → q ≢ r → q < cell_count h
    older q l d = grind (arith, d, m.place, one_cell h h' r _ m)

pub alone_among_same : (h h' : Changes) (n r : ℕ) → IsAlone h n r → trees h' ≡ trees h → IsAlone h' n r
alone_among_same h h' n r a e = record {
  inside = omega (arith, a.inside, ap length e);
  stands = ap (λ ts. tree_in ts r) e ∙ a.stands;
  others = λ q l d. ap (λ ts. occurs n (tree_in ts q)) e ∙ a.others q (omega (arith, l, ap length e)) d;
}

pub alone_with_one_more : (h h' : Changes) (n r q : ℕ) (t : Tree) → IsAlone h n r → HasOneMore h h' q t → occurs n t ≡ false → IsAlone h' n r
alone_with_one_more h h' n r q t a m o = record {
  inside = omega (arith, a.inside, one_cell h h' q t m);
  stands = (grows_one h h' q t m).others r a.inside ∙ a.stands;
  others = λ p l d. elim (last_or_older p (omega (arith, l, one_cell h h' q t m))) [
    | inl e ↦ ap (λ p. occurs n (stands_for h' p)) (e ∙ sym m.place) ∙ (ap (occurs n) (one_stands h h' q t m) ∙ o)
    | inr i ↦ ap (occurs n) ((grows_one h h' q t m).others p i) ∙ a.others p i d
  ];
}
  where
    last_or_older : (p : ℕ) → p < cell_count h + 1 → (p ≡ cell_count h) ⊎ (p < cell_count h)
    last_or_older p l = grind arith

pub not_among_arguments : (h : Changes) (n r : ℕ) (f qs : List ℕ) → IsAlone h n r
    → ((i : ℕ) → i < length qs → (get_or qs i 0 < cell_count h) × (get_or qs i 0 ≢ r)) → occurs n (compound f (trees_of (map (stands_for h) qs))) ≡ false
not_among_arguments h n r f qs a o = absent_in n (variables_of (trees_of (map (stands_for h) qs))) (none qs o)
  where
    none : (qs : List ℕ) → ((i : ℕ) → i < length qs → (get_or qs i 0 < cell_count h) × (get_or qs i 0 ≢ r)) →
        In n (variables_of (trees_of (map (stands_for h) qs))) → ⊥
    none [] o i = cc i
    none (q ∷ qs) o i = elim (in_either n (variables (stands_for h q)) (variables_of (trees_of (map (stands_for h) qs))) i) [
      | inl j ↦ let l = o 0 (omega arith) in let e = a.others q l.0 l.1 in cc (j, e)
      | inr j ↦ none qs (λ i l. o (suc i) (omega arith)) j
    ]

module _ (h h' : Changes) (n r q p : ℕ) (m : Map) (a : IsAlone h n r) (in_q : q < cell_count h) (in_p : p < cell_count h) (not_q : q ≢ r) (not_p : p ≢ r)
    (u : unifier (stands_for h q) (stands_for h p) ≡ Some m) (e : trees h' ≡ map (apply m) (trees h)) where
  abbrev both : List Equation
  both = (stands_for h q, stands_for h p) ∷ []

  elsewhere : In n (equations_variables both) → ⊥
  elsewhere i = elim (in_either n (variables (stands_for h q) ++ variables (stands_for h p)) [] i) [
    | inl j ↦ elim (in_either n (variables (stands_for h q)) (variables (stands_for h p)) j)
        [ inl k ↦ let f = a.others q in_q not_q in cc (k, f) | inr k ↦ let f = a.others p in_p not_p in cc (k, f) ]
    | inr j ↦ cc j
  ]

  after : (s : ℕ) → stands_for h' s ≡ apply m (stands_for h s)
  after s = ap (λ ts. tree_in ts s) e ∙ get_or-map (apply m) (trees h) s (integer (pos 0))

  stays_itself : value_of m n ≡ variable n
  stays_itself = not_replaced m n (absent_in n (replaced_variables m) (λ i. elsewhere ((is_most_general both m u).of_them n i)))

  not_brought : (s : ℕ) → s < cell_count h → s ≢ r → In n (variables (apply m (stands_for h s))) → ⊥
  not_brought s l d i =
      let c = comes (value_of m) n (stands_for h s) i in
      elim ((is_most_general both m u).kept c.0 n c.1.1) [
        | inl g ↦ let j : In n (variables (stands_for h s)) = subst (λ k. In k (variables (stands_for h s))) (sym g) c.1.0 in let f = a.others s l d in
            cc (j, f)
        | inr g ↦ elsewhere g
      ]

  as_many : cell_count h' ≡ cell_count h
  as_many = ap length e ∙ length-map (trees h) (apply m)

  pub alone_when_unified : IsAlone h' n r
  alone_when_unified = record {
    inside = omega (arith, a.inside, as_many);
    stands = after r ∙ (ap (apply m) a.stands ∙ stays_itself);
    others = λ s l d. ap (occurs n) (after s) ∙ absent_in n (variables (apply m (stands_for h s))) (not_brought s (omega (arith, l, as_many)) d);
  }
