-- To bind a variable's cell is to replace the variable in every tree.
use Rattle.std.specs.Prelude.{◌≡◌, ◌≢◌, ℕ, suc, zero, ◌<◌, ◌≤◌, ◌==◌, true, false, ◌⊎◌, pos, List, [], ◌∷◌, ◌++◌, map, reverse, length, get_or, set, cond}
use Rattle.std.proofs.Common.{refl, sym, ap, ◌∙◌, subst, inl, inr, arith}
use Rattle.std.proofs.lemmas.List.{length-set, get_or-set_same, get_or-set_other, reverse-append}
use Rattle.std.proofs.lemmas.List as L
use Rattle.std.specs.List.{list_all}
use Rattle.std.proofs.Math.ListN.{get_or-map}
use Rattle.std.proofs.lemmas.Bool.Decides.{eqb_tells}
use Rattle.ml_term.specs.Tree.{Tree, variable, integer, compound, trees_of, is_ground, occurs, substitute, substitute_in, variables}
use Rattle.ml_term.specs.Unify.{apply, binding, value_of}
use Rattle.ml_term.proofs.GroundTerms.{ground_stays}
use Rattle.ml_term.proofs.Substitutions.{alike, as_it_is}
use Rattle.ml_term.proofs.DistinctCounts.{In}
use Rattle.ml_heap.specs.Changes.{variable_bound, State, state, apply_change, bind_in, tree_in, KeepsMarks}
use Rattle.ml_heap.specs.declared.cell.Cell.{Cell}
use Rattle.ml_heap.specs.declared.cell.Cell.TheVariants.{Unbound, Bound, Int, Atom, Cmp}
use Rattle.ml_heap.specs.declared.cell.Step.{Step}
use Rattle.ml_heap.specs.declared.cell.Step.TheVariants.{Binding}
use Rattle.ml_heap.specs.inside.Layout.{change_of_cell, is_valid_change, changes_of, cell_in, number_of, rank_of, Fits, StandFor, free_cell, AreKept, IsKept}
use Rattle.ml_heap.proofs.KeptCells.{one_replaced, stand_now}
use Rattle.ml_heap.proofs.HeapMarks.{marks_kept}

-- an element that is put back
pub put_back : {A : Type 0} (xs : List A) (i : ℕ) (x y : A) → get_or xs i y ≡ y → set (set xs i x) i y ≡ xs
put_back [] i x y e = refl
put_back (z ∷ zs) zero x y e = ap (λ w. w ∷ zs) (sym e)
put_back (z ∷ zs) (suc i) x y e = ap (λ ws. z ∷ ws) (put_back zs i x y e)

-- a substitution of arguments that are read from places
pub placed : (s : ℕ → Tree) (ts : List Tree) (qs : List ℕ) →
    substitute_in s (trees_of (map (tree_in ts) qs)) ≡ trees_of (map (tree_in (map (substitute s) ts)) qs)
placed s ts [] = refl
placed s ts (q ∷ qs) = rw (get_or-map (substitute s) ts q (integer (pos 0)), placed s ts qs) refl

-- a variable that doesn't occur isn't replaced
pub not_there : (n : ℕ) (u t : Tree) → occurs n t ≡ false → apply (binding n u) t ≡ t
not_there n u t h = alike (value_of (binding n u)) variable t (λ k i. other k i (eqb_tells n k)) ∙ as_it_is t
  where
    other : (k : ℕ) → In k (variables t) → (((n == k) ≡ true) × (n ≡ k)) ⊎ (((n == k) ≡ false) × (n ≢ k)) → cond (n == k) u (variable k) ≡ variable k
    other k i (inl e) = absurd (cc (subst (λ m. In m (variables t)) (sym e.1) i, h))
    other k i (inr e) = ap (λ b. cond b u (variable k)) e.0

module _ (cells : List Cell) (s : State) (v n q : ℕ) (k : StandFor cells s) (in_v : v < length cells) (in_q : q < length cells)
    (at_v : cell_in cells v ≡ Unbound n) (lower : rank_of (cell_in cells q) ≤ n) (absent : occurs n (tree_in s.trees q) ≡ false) where
  abbrev pub put : Tree
  put = tree_in s.trees q

  abbrev pub replaced_trees : List Tree
  replaced_trees = map (apply (binding n put)) s.trees

  abbrev pub with_bound : List Cell
  with_bound = set cells v (Bound n q)

  read : (r : ℕ) → tree_in replaced_trees r ≡ apply (binding n put) (tree_in s.trees r)
  read r = get_or-map (apply (binding n put)) s.trees r (integer (pos 0))

  pub tree_at_v : tree_in s.trees v ≡ variable n
  tree_at_v = subst (Fits s.trees cells (tree_in s.trees v)) at_v (k.fit v in_v)

  itself : apply (binding n put) (variable n) ≡ put
  itself = elim (eqb_tells n n) [ inl e ↦ ap (λ b. cond b put (variable n)) e.0 | inr e ↦ absurd (e.1 refl) ]

  same_number : (r : ℕ) → number_of (cell_in with_bound r) ≡ number_of (cell_in cells r)
  same_number r = elim (eqb_tells r v) [
    | inl e ↦ ap (λ i. number_of (cell_in with_bound i)) e.1
        ∙ (ap number_of (get_or-set_same cells v (Bound n q) (Unbound 0) in_v) ∙ (sym (ap number_of at_v) ∙ ap (λ i. number_of (cell_in cells i)) (sym e.1)))
    | inr e ↦ ap number_of (get_or-set_other cells v r (Bound n q) (Unbound 0) e.1)
  ]

  same_rank : (r : ℕ) → rank_of (cell_in with_bound r) ≡ rank_of (cell_in cells r)
  same_rank r = elim (eqb_tells r v) [
    | inl e ↦ ap (λ i. rank_of (cell_in with_bound i)) e.1
        ∙ (ap rank_of (get_or-set_same cells v (Bound n q) (Unbound 0) in_v) ∙ (sym (ap rank_of at_v) ∙ ap (λ i. rank_of (cell_in cells i)) (sym e.1)))
    | inr e ↦ ap rank_of (get_or-set_other cells v r (Bound n q) (Unbound 0) e.1)
  ]

  same_length : length with_bound ≡ length cells
  same_length = length-set cells v (Bound n q)

  -- every other cell fits its tree with the variable replaced
  fits_replaced : (t : Tree) (c : Cell) → (c ≢ Unbound n) → Fits s.trees cells t c → Fits replaced_trees with_bound (apply (binding n put) t) c
  fits_replaced t (Unbound m) d h = ap (apply (binding n put)) h
      ∙ elim (eqb_tells n m) [ inl e ↦ absurd (d (ap Unbound (sym e.1))) | inr e ↦ ap (λ b. cond b put (variable m)) e.0 ]
  fits_replaced t (Bound m p) d h = (ap (apply (binding n put)) h.0 ∙ sym (read p), omega (arith, same_length, h.1), omega (arith, same_rank p, h.2))
  fits_replaced t (Int z) d h = ap (apply (binding n put)) h
  fits_replaced t (Atom f) d h = ap (apply (binding n put)) h
  fits_replaced t (Cmp f qs g) d h = (
    ap (apply (binding n put)) h.0 ∙ ap (compound f) (placed (value_of (binding n put)) s.trees qs),
    (λ i l. omega (arith, same_length, h.1 i l)),
    (λ e. ap is_ground (ground_stays (value_of (binding n put)) t (h.2 e)) ∙ h.2 e),
  )

  put_stays : tree_in replaced_trees q ≡ put
  put_stays = read q ∙ not_there n put put absent

  fits_bound : Fits replaced_trees with_bound (tree_in replaced_trees v) (Bound n q)
  fits_bound = (
    read v ∙ (ap (apply (binding n put)) tree_at_v ∙ (itself ∙ sym put_stays)),
    omega (arith, same_length, in_q),
    omega (arith, same_rank q, lower),
  )

  not_unbound : (r : ℕ) → r < length cells → r ≢ v → cell_in cells r ≢ Unbound n
  not_unbound r l d e = d (k.apart r v n (ap number_of e) (ap number_of at_v) l in_v)

  fit_each : (r : ℕ) → r < length with_bound → Fits replaced_trees with_bound (tree_in replaced_trees r) (cell_in with_bound r)
  fit_each r l = elim (eqb_tells r v) [
    | inl e ↦ subst (λ i. Fits replaced_trees with_bound (tree_in replaced_trees i) (cell_in with_bound i)) (sym e.1)
        (subst (Fits replaced_trees with_bound (tree_in replaced_trees v)) (sym (get_or-set_same cells v (Bound n q) (Unbound 0) in_v)) fits_bound)
    | inr e ↦ subst (Fits replaced_trees with_bound (tree_in replaced_trees r)) (sym (get_or-set_other cells v r (Bound n q) (Unbound 0) e.1))
        (subst (λ t. Fits replaced_trees with_bound t (cell_in cells r)) (sym (read r))
        (fits_replaced (tree_in s.trees r) (cell_in cells r) (not_unbound r (omega (arith, same_length, l)) e.1) (k.fit r (omega (arith, same_length, l)))))
  ]

  pub bound_stands : StandFor with_bound (record { trees = replaced_trees; created = s.created })
  bound_stands = record {
    size = L.length-map s.trees (apply (binding n put)) ∙ (k.size ∙ sym same_length);
    fit = fit_each;
    apart = λ r p m a b l j. k.apart r p m (sym (same_number r) ∙ a) (sym (same_number p) ∙ b) (omega (arith, same_length, l)) (omega (arith, same_length, j));
    created = λ r m l a. k.created r m (omega (arith, same_length, l)) (sym (same_number r) ∙ a);
  }

  pub bound_change : apply_change (variable_bound v q) s ≡ record { trees = replaced_trees; created = s.created }
  bound_change = let f : Tree → State = λ t. record { trees = bind_in t put s.trees; created = s.created } in ap f tree_at_v

-- the steps go on to be kept
module _ (steps : List Step) (cells : List Cell) (m v n q : ℕ) (k : IsKept steps cells m) (in_v : v < length cells) (in_q : q < length cells)
    (at_v : cell_in cells v ≡ Unbound n) (lower : rank_of (cell_in cells q) ≤ n)
    (absent : occurs n (tree_in (state (changes_of steps cells)).trees q) ≡ false) where
  abbrev earlier : State
  earlier = state (changes_of steps cells)

  abbrev after_it : List Cell
  after_it = set cells v (Bound n q)

  stands : StandFor cells earlier
  stands = stand_now (reverse steps) cells k.kept

  made_alike : change_of_cell (Bound n q) ≡ change_of_cell (cell_in cells v)
  made_alike = sym (ap change_of_cell at_v)

  pub bound_changes : changes_of (steps ++ Binding v q ∷ []) after_it ≡ variable_bound v q ∷ changes_of steps cells
  bound_changes = rw (reverse-append steps (Binding v q ∷ [])) (ap (λ h. variable_bound v q ∷ h) (one_replaced (reverse steps) cells v (Bound n q) made_alike))

  state_after : state (variable_bound v q ∷ changes_of steps cells)
      ≡ record { trees = replaced_trees cells earlier v n q stands in_v in_q at_v lower absent; created = earlier.created }
  unfolding state
  state_after = bound_change cells earlier v n q stands in_v in_q at_v lower absent

  was_free : set after_it v (free_cell (cell_in after_it v)) ≡ cells
  was_free = ap (λ c. set after_it v (free_cell c)) (get_or-set_same cells v (Bound n q) (Unbound 0) in_v)
      ∙ put_back cells v (Bound n q) (Unbound n) (other_default cells v n in_v at_v)
    where
      other_default : (cs : List Cell) (i n : ℕ) → i < length cs → get_or cs i (Unbound 0) ≡ Unbound n → get_or cs i (Unbound n) ≡ Unbound n
      other_default [] i n l e = refl
      other_default (c ∷ cs) zero n l e = e
      other_default (c ∷ cs) (suc i) n l e = other_default cs i n (omega arith) e

  all_kept : AreKept (Binding v q ∷ reverse steps) after_it
  all_kept = (
    subst (λ h. StandFor after_it (state h)) (sym (ap (λ h. variable_bound v q ∷ h) (one_replaced (reverse steps) cells v (Bound n q) made_alike)))
        (subst (StandFor after_it) (sym state_after) (bound_stands cells earlier v n q stands in_v in_q at_v lower absent)),
    omega (arith, length-set cells v (Bound n q), in_v),
    subst (AreKept (reverse steps)) (sym was_free) k.kept,
  )

  pub binding_kept : IsKept (steps ++ Binding v q ∷ []) after_it m
  binding_kept = record {
    kept = subst (λ ss. AreKept ss after_it) (sym (reverse-append steps (Binding v q ∷ []))) all_kept;
    count = k.count ∙ sym (ap (λ h. (state h).created) bound_changes ∙ ap (λ s. s.created) state_after);
    few = k.few;
    valid = ap (list_all is_valid_change) bound_changes ∙ k.valid;
  }

  pub binding_trees : (state (changes_of (steps ++ Binding v q ∷ []) after_it)).trees
      ≡ bind_in (tree_in earlier.trees v) (tree_in earlier.trees q) earlier.trees
  unfolding state
  binding_trees = ap (λ h. (state h).trees) bound_changes

  pub binding_count : (state (changes_of (steps ++ Binding v q ∷ []) after_it)).created ≡ earlier.created
  unfolding state
  binding_count = ap (λ h. (state h).created) bound_changes

  pub binding_marks : KeepsMarks (changes_of steps cells) (changes_of (steps ++ Binding v q ∷ []) after_it)
  binding_marks = subst (KeepsMarks (changes_of steps cells)) (sym bound_changes) (marks_kept (variable_bound v q) (changes_of steps cells))
