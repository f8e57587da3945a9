-- A term that is being stored: each variable that was met has its cell, and each part stands for its renamed term.
use Rattle.std.specs.Prelude.{◌≡◌, ◌≢◌, ℕ, zero, suc, ◌+◌, ◌<◌, ◌≤◌, ℤ, pos, true, false, Bool, ◌||◌, ◌==◌, cond, List, [], ◌∷◌, ◌++◌, map, length, take}
use Rattle.std.specs.Prelude.{get_or, Option, Some, None}
use Rattle.std.proofs.Common.{inl, inr, refl, sym, ap, ◌∙◌, subst, arith, append_assoc, length-append}
use Rattle.std.proofs.Math.ListN.{get_or-append}
use Rattle.std.proofs.Math.Seq.{get_or-append_seam}
use Rattle.std.proofs.lemmas.Bool.{and_parts}
use Rattle.std.proofs.lemmas.Bool.Decides.{eqb_tells}
use Rattle.std.proofs.lemmas.List.{map-append, take_more}
use Rattle.ml_term.specs.Tree.{Tree, Trees, variable, integer, atom, compound, no_trees, tree, trees_of, has, firsts, place_in, variables, variables_of, nodes}
use Rattle.ml_term.specs.Tree.{nodes_of, substitute, substitute_in}
use Rattle.ml_term.specs.Seen.{seen, seen_step, all_seen}
use Rattle.ml_term.specs.Valid.{is_valid, are_valid}
use Rattle.ml_term.specs.declared.term.Term.{Term, Term-F, fold-roll-Term}
use Rattle.ml_term.specs.declared.term.Term.TheVariants.{Var, rolls-Var}
use Rattle.ml_term.proofs.DistinctCounts.{In, has_append}
use Rattle.ml_term.proofs.UnificationEnds.{in_right}
use Rattle.ml_term.proofs.Substitutions.{alike_in}
use Rattle.ml_heap.specs.Changes.{Changes, state, cell_count, variable_count, stands_for, tree_in, HasOneMore, Grows}
use Rattle.ml_heap.specs.Changes.{AreCells}
use Rattle.ml_heap.specs.Storing.{cell_of, new_number, Knows, IsStored, AreStored}
use Rattle.ml_heap.specs.declared.met.MetVariables.{MetVariables}
use Rattle.ml_heap.proofs.HeapMarks.{marks_stay, marks_go_on}
use Rattle.ml_heap.proofs.ListEnds.{map_alike}
use Rattle.ml_heap.proofs.FirstPlaces.{place_stays, new_last, new_place, known_adds_none}
use Rattle.ml_heap.proofs.TermWalks.{cells_append, cells_wider, cells_at}

-- a heap that grows
pub grows_none : (h : Changes) → Grows h h
grows_none h = record { cells = omega arith; others = λ q l. refl; marks = marks_stay h }

pub grows_on : (a b c : Changes) → Grows a b → Grows b c → Grows a c
grows_on a b c g k = record {
  cells = omega (arith, g.cells, k.cells);
  others = λ q l. k.others q (omega (arith, l, g.cells)) ∙ g.others q l;
  marks = marks_go_on a b c g.marks k.marks;
}

module _ (h h' : Changes) (r : ℕ) (t : Tree) (m : HasOneMore h h' r t) where
  pub one_cell : cell_count h' ≡ cell_count h + 1
  one_cell = ap length m.trees ∙ length-append (state h).trees (t ∷ [])

  pub grows_one : Grows h h'
  grows_one = record {
    cells = omega (arith, one_cell);
    others = λ q l. ap (λ ts. tree_in ts q) m.trees ∙ get_or-append (state h).trees (t ∷ []) (integer (pos 0)) q l;
    marks = m.marks;
  }

  pub one_inside : r < cell_count h'
  one_inside = omega (arith, m.place, one_cell)

  pub one_stands : stands_for h' r ≡ t
  one_stands = ap (λ ts. tree_in ts r) m.trees ∙ (ap (tree_in ((state h).trees ++ t ∷ [])) m.place ∙ get_or-append_seam (state h).trees t [] (integer (pos 0)))

pub nothing_met : (h : Changes) (m : MetVariables) → ((n : ℕ) → cell_of m n ≡ None) → Knows h (variable_count h) [] m
nothing_met h m e = record { met = λ n i. absurd (cc i); no_others = λ n i. e n; count = omega arith }

-- no variable more
pub knows_grown : (h h' : Changes) (base : ℕ) (ns : List ℕ) (m : MetVariables) → Knows h base ns m → Grows h h' → variable_count h' ≡ variable_count h →
    Knows h' base ns m
knows_grown h h' base ns m w g e = record {
  met = λ k i. let a = w.met k i in (a.0, (a.1.0, omega (arith, a.1.1, g.cells), g.others a.0 a.1.1 ∙ a.1.2));
  no_others = w.no_others;
  count = e ∙ w.count;
}

has_added : (k n : ℕ) (ns : List ℕ) → (n ≢ k) → has k (ns ++ n ∷ []) ≡ has k ns
has_added k n ns d = has_append k ns (n ∷ []) ∙ elim (eqb_tells n k) [ inl q ↦ absurd (d q.1) | inr q ↦ rw q.0 (or_false (has k ns)) ]
  where
    or_false : (b : Bool) → (b || false) ≡ b
    or_false true = refl
    or_false false = refl

-- a variable that was met before
module _ (h : Changes) (base : ℕ) (ns : List ℕ) (m : MetVariables) (n r : ℕ) (w : Knows h base ns m) (e : cell_of m n ≡ Some r) where
  was_met : has n ns ≡ true
  was_met = known (has n ns) refl
    where
      known : (b : Bool) → has n ns ≡ b → b ≡ true
      known true q = refl
      known false q = absurd (cc (w.no_others n q, e))

  same_members : (k : ℕ) → has k (ns ++ n ∷ []) ≡ has k ns
  same_members k = elim (eqb_tells n k) [
    | inl q ↦ let i : has k ns ≡ true = subst (λ k. has k ns ≡ true) q.1 was_met in has_append k ns (n ∷ []) ∙ rw i refl
    | inr q ↦ has_added k n ns q.1
  ]

  same_places : firsts (ns ++ n ∷ []) ≡ firsts ns
  same_places = known_adds_none ns n was_met

  same_new_number : (k : ℕ) → new_number base ns k ≡ new_number base (ns ++ n ∷ []) k
  same_new_number k = ap (λ fs. variable (base + place_in fs k)) (sym same_places)

  pub met_before : IsStored h base (ns ++ n ∷ []) m r (variable n)
  met_before =
      let a = w.met n was_met in
      let same : a.0 ≡ r = cc (a.1.0, e) in
      record {
        knows = record {
          met = λ k i. let b = w.met k (sym (same_members k) ∙ i) in (b.0, (b.1.0, b.1.1, b.1.2 ∙ same_new_number k));
          no_others = λ k i. w.no_others k (sym (same_members k) ∙ i);
          count = w.count ∙ ap (λ fs. base + length fs) (sym same_places);
        };
        inside = omega (arith, a.1.1, same);
        stands = sym (ap (stands_for h) same) ∙ (a.1.2 ∙ same_new_number n);
      }

-- a variable that is met now
module _ (h h' : Changes) (base : ℕ) (ns : List ℕ) (m m' : MetVariables) (n r : ℕ) (w : Knows h base ns m) (e : cell_of m n ≡ None)
    (one : HasOneMore h h' r (variable (variable_count h))) (more : variable_count h' ≡ variable_count h + 1)
    (added : (k : ℕ) → cell_of m' k ≡ cond (n == k) (Some r) (cell_of m k)) where
  is_new : has n ns ≡ false
  is_new = known (has n ns) refl
    where
      known : (b : Bool) → has n ns ≡ b → b ≡ false
      known true q = let a = w.met n q in absurd (cc (a.1.0, e))
      known false q = refl

  its_number : stands_for h' r ≡ new_number base (ns ++ n ∷ []) n
  its_number = one_stands h h' r (variable (variable_count h)) one ∙ ap variable (omega (arith, w.count, new_place ns n is_new))

  its_cell : cell_of m' n ≡ Some r
  its_cell = added n ∙ elim (eqb_tells n n) [ inl q ↦ rw q.0 refl | inr q ↦ absurd (q.1 refl) ]

  abbrev HasCell : ℕ → Type 0
  HasCell k = (q : ℕ) × ((cell_of m' k ≡ Some q) × (q < cell_count h') × (stands_for h' q ≡ new_number base (ns ++ n ∷ []) k))

  grown : Grows h h'
  grown = grows_one h h' r (variable (variable_count h)) one

  older : (k : ℕ) → (n ≢ k) → (n == k) ≡ false → has k ns ≡ true → HasCell k
  older k d f i =
      let a = w.met k i in (
        a.0,
        (
          added k ∙ (rw f a.1.0),
          omega (arith, a.1.1, grown.cells),
          grown.others a.0 a.1.1 ∙ (a.1.2 ∙ ap (λ p. variable (base + p)) (sym (place_stays ns (n ∷ []) k i))),
        ),
      )

  pub met_now : IsStored h' base (ns ++ n ∷ []) m' r (variable n)
  met_now = record {
    knows = record {
      met = λ k i. elim (eqb_tells n k) [
        | inl q ↦ subst HasCell q.1 (r, (its_cell, one_inside h h' r (variable (variable_count h)) one, its_number))
        | inr q ↦ older k q.1 q.0 (sym (has_added k n ns q.1) ∙ i)
      ];
      no_others = λ k i. elim (eqb_tells n k) [
        | inl q ↦ absurd (now_known k q.1 i)
        | inr q ↦ added k ∙ (rw q.0 (w.no_others k (sym (has_added k n ns q.1) ∙ i)))
      ];
      count = more ∙ omega (arith, w.count, ap length (new_last ns n is_new), length-append (firsts ns) (n ∷ []));
    };
    inside = one_inside h h' r (variable (variable_count h)) one;
    stands = its_number;
  }
    where
      now_known : (k : ℕ) → n ≡ k → has k (ns ++ n ∷ []) ≡ false → ⊥
      now_known k p i =
          let j : has k (n ∷ []) ≡ true = elim (eqb_tells n k) [ inl q ↦ rw q.0 refl | inr q ↦ absurd (q.1 p) ] in
          cc (in_right k ns (n ∷ []) j, i)

no_more : (ns : List ℕ) → ns ++ [] ≡ ns
no_more [] = refl
no_more (n ∷ ns) = ap (λ zs. n ∷ zs) (no_more ns)

-- a term without variables and arguments
module _ (h h' : Changes) (base : ℕ) (ns : List ℕ) (m : MetVariables) (r : ℕ) (t : Tree)
    (w : Knows h base ns m) (one : HasOneMore h h' r t) (count : variable_count h' ≡ variable_count h) where
  constant : variables t ≡ [] → ((s : ℕ → Tree) → substitute s t ≡ t) → IsStored h' base (ns ++ variables t) m r t
  constant v s =
      let same : ns ++ variables t ≡ ns = ap (λ vs. ns ++ vs) v ∙ no_more ns in
      subst (λ ms. IsStored h' base ms m r t) (sym same)
      (record {
        knows = knows_grown h h' base ns m w (grows_one h h' r t one) count;
        inside = one_inside h h' r t one;
        stands = one_stands h h' r t one ∙ sym (s (new_number base ns));
      })

  pub stored_integer : (z : ℤ) → t ≡ integer z → IsStored h' base (ns ++ variables t) m r t
  stored_integer z e = constant (ap variables e) (λ s. ap (substitute s) e ∙ sym e)

  pub stored_atom : (f : List ℕ) → t ≡ atom f → IsStored h' base (ns ++ variables t) m r t
  stored_atom f e = constant (ap variables e) (λ s. ap (substitute s) e ∙ sym e)

pub stored_variable : (h : Changes) (base : ℕ) (ns : List ℕ) (m : MetVariables) (n r : ℕ) (t : Tree) → t ≡ variable n
    → IsStored h base (ns ++ n ∷ []) m r (variable n) → IsStored h base (ns ++ variables t) m r t
stored_variable h base ns m n r t e s = subst (λ u. IsStored h base (ns ++ variables u) m r u) (sym e) s

pub stored_compound : (h h' : Changes) (base : ℕ) (ns : List ℕ) (m : MetVariables) (r : ℕ) (f qs : List ℕ) (ts : Trees) (t : Tree) → t ≡ compound f ts
    → AreStored h base (ns ++ variables_of ts) m qs ts → HasOneMore h h' r (compound f (trees_of (map (stands_for h) qs))) →
    variable_count h' ≡ variable_count h
    → IsStored h' base (ns ++ variables t) m r t
stored_compound h h' base ns m r f qs ts t e a one count =
    let whole = compound f (trees_of (map (stands_for h) qs)) in
    subst (λ u. IsStored h' base (ns ++ variables u) m r u) (sym e)
    (record {
      knows = knows_grown h h' base (ns ++ variables_of ts) m a.knows (grows_one h h' r whole one) count;
      inside = one_inside h h' r whole one;
      stands = one_stands h h' r whole one ∙ ap (compound f) a.stand;
    })

-- arguments with one more at their end
with_last : Trees → Tree → Trees
with_last no_trees x = tree x no_trees
with_last (tree t ts) x = tree t (with_last ts x)

trees_with_last : (xs : List Tree) (x : Tree) → trees_of (xs ++ x ∷ []) ≡ with_last (trees_of xs) x
unfolding with_last
trees_with_last [] x = refl
trees_with_last (y ∷ xs) x = ap (tree y) (trees_with_last xs x)

substituted_last : (s : ℕ → Tree) (ts : Trees) (x : Tree) → substitute_in s (with_last ts x) ≡ with_last (substitute_in s ts) (substitute s x)
unfolding with_last
substituted_last s no_trees x = refl
substituted_last s (tree t ts) x = ap (tree (substitute s t)) (substituted_last s ts x)

variables_last : (ts : List Tree) (x : Tree) → variables_of (trees_of (ts ++ x ∷ [])) ≡ variables_of (trees_of ts) ++ variables x
variables_last [] x = no_more (variables x)
variables_last (t ∷ ts) x = ap (λ vs. variables t ++ vs) (variables_last ts x) ∙ sym (append_assoc (variables t) (variables_of (trees_of ts)) (variables x))

pub none_stored : (h : Changes) (base : ℕ) (ns : List ℕ) (m : MetVariables) → Knows h base ns m → AreStored h base (ns ++ []) m [] no_trees
none_stored h base ns m w = record { knows = subst (λ ms. Knows h base ms m) (sym (no_more ns)) w; inside = tt; stand = refl }

module _ (h h' : Changes) (base : ℕ) (ns : List ℕ) (m m' : MetVariables) (qs : List ℕ) (r : ℕ) (ts : List Tree) (t : Tree)
    (a : AreStored h base (ns ++ variables_of (trees_of ts)) m qs (trees_of ts))
    (s : IsStored h' base ((ns ++ variables_of (trees_of ts)) ++ variables t) m' r t) (g : Grows h h') where
  abbrev vs : List ℕ
  vs = ns ++ variables_of (trees_of ts)

  abbrev number : ℕ → Tree
  number = new_number base (vs ++ variables t)

  all : vs ++ variables t ≡ ns ++ variables_of (trees_of (ts ++ t ∷ []))
  all = append_assoc ns (variables_of (trees_of ts)) (variables t) ∙ ap (λ zs. ns ++ zs) (sym (variables_last ts t))

  still : trees_of (map (stands_for h') qs) ≡ substitute_in number (trees_of ts)
  still =
      ap trees_of (map_alike (stands_for h') (stands_for h) qs (λ i l. g.others (get_or qs i 0) (cells_at (cell_count h) qs a.inside i l)))
      ∙ (a.stand
      ∙ alike_in (new_number base vs) number (trees_of ts)
      (λ k i. ap (λ p. variable (base + p)) (sym (place_stays vs (variables t) k (in_right k ns (variables_of (trees_of ts)) i)))))

  stand : trees_of (map (stands_for h') (qs ++ r ∷ [])) ≡ substitute_in number (trees_of (ts ++ t ∷ []))
  stand =
      ap trees_of (map-append (stands_for h') qs (r ∷ []))
      ∙ (trees_with_last (map (stands_for h') qs) (stands_for h' r)
      ∙ (ap (λ x. with_last (trees_of (map (stands_for h') qs)) x) s.stands
      ∙ (ap (λ us. with_last us (substitute number t)) still
      ∙ (sym (substituted_last number (trees_of ts) t) ∙ ap (substitute_in number) (sym (trees_with_last ts t))))))

  pub one_more_stored : AreStored h' base (ns ++ variables_of (trees_of (ts ++ t ∷ []))) m' (qs ++ r ∷ []) (trees_of (ts ++ t ∷ []))
  one_more_stored = subst (λ ms. AreStored h' base ms m' (qs ++ r ∷ []) (trees_of (ts ++ t ∷ []))) all
      (record {
        knows = s.knows;
        inside = cells_append (cell_count h') qs (r ∷ []) (cells_wider (cell_count h) (cell_count h') qs g.cells a.inside) (s.inside, tt);
        stand = stand;
      })

-- one of some terms has no more nodes than all
pub nodes_of_item : (ts : List Term) (i : ℕ) (t : Term) → i < length ts → t ≡ get_or ts i t → nodes (seen t) ≤ nodes_of (trees_of (all_seen ts))
nodes_of_item [] i t l e = absurd (omega arith)
nodes_of_item (u ∷ ts) zero t l e = omega (arith, ap (λ u. nodes (seen u)) e)
nodes_of_item (u ∷ ts) (suc i) t l e = omega (arith, nodes_of_item ts i t (omega arith) e)

-- one of some valid terms is valid
pub valid_item : (ts : List Term) (i : ℕ) (t : Term) → i < length ts → t ≡ get_or ts i t → are_valid (trees_of (all_seen ts)) ≡ true → is_valid (seen t) ≡ true
valid_item [] i t l e v = absurd (omega arith)
valid_item (u ∷ ts) zero t l e v = ap (λ u. is_valid (seen u)) e ∙ (and_parts _ _ v).0
valid_item (u ∷ ts) (suc i) t l e v = valid_item ts i t (omega arith) e (and_parts _ _ v).1

-- the terms up to one that is read, and that one
pub seen_so_far : (ts : List Term) (i : ℕ) (t : Term) → i < length ts → t ≡ get_or ts i t → all_seen (take (i + 1) ts) ≡ all_seen (take i ts) ++ seen t ∷ []
seen_so_far ts i t l e = ap all_seen (take_more ts i t l ∙ ap (λ u. take i ts ++ u ∷ []) (sym e)) ∙ map-append seen (take i ts) (t ∷ [])

pub seen_variable : (n : ℕ) → seen (Var n) ≡ variable n
seen_variable n = ap seen (sym (rolls-Var n)) ∙ fold-roll-Term Tree seen_step (Term-F.Var n)
