-- Every variable of a heap's trees has a number below the count of those created.
use Rattle.std.specs.Prelude.{◌≡◌, ℕ, zero, suc, ◌+◌, ◌<◌, ◌≤◌, false, Bool, true, pos, List, [], ◌∷◌, ◌++◌, map, get_or}
use Rattle.std.proofs.Common.{inl, inr, refl, sym, ap, ◌∙◌, subst, arith}
use Rattle.std.proofs.Math.ListN.{get_or-map, get_or-append}
use Rattle.std.proofs.Math.Seq.{get_or-append_seam}
use Rattle.std.proofs.lemmas.Bool.Decides.{eqb_tells}
use Rattle.ml_term.specs.Tree.{Tree, variable, integer, atom, compound, trees_of, variables, variables_of, occurs}
use Rattle.ml_term.specs.Unify.{apply, binding}
use Rattle.ml_term.proofs.DistinctCounts.{In}
use Rattle.ml_term.proofs.UnificationEnds.{in_either, variables_after}
use Rattle.ml_heap.specs.Changes.{Changes, variable_made, integer_made, atom_made, compound_made, variable_bound, numbers_left_out, ground_found, state}
use Rattle.ml_heap.specs.Changes.{tree_in, bind_in, stands_for, cell_count, variable_count, HasOneMore, MayBeBound}

-- a tree's variables are below a number, and those of some trees
abbrev Below : ℕ → Tree → Type 0
Below c t = (n : ℕ) → In n (variables t) → n < c

abbrev AllBelow : ℕ → List Tree → Type 0
AllBelow c ts = (r : ℕ) → Below c (tree_in ts r)

only : (n m : ℕ) → In n (m ∷ []) → m ≡ n
only n m i = grind (arith, eqb_tells m n)

one_more : (c : ℕ) (t : Tree) (ts : List Tree) → Below c t → AllBelow c ts → AllBelow c (ts ++ t ∷ [])
one_more c t [] b a zero = b
one_more c t [] b a (suc r) = λ n i. absurd (cc i)
one_more c t (u ∷ us) b a zero = a 0
one_more c t (u ∷ us) b a (suc r) = one_more c t us b (λ r. a (suc r)) r

wider : (c : ℕ) (ts : List Tree) → AllBelow c ts → AllBelow (c + 1) ts
wider c ts a r n i = omega (arith, a r n i)

of_places : (c : ℕ) (ts : List Tree) → AllBelow c ts → (qs : List ℕ) (n : ℕ) → In n (variables_of (trees_of (map (tree_in ts) qs))) → n < c
of_places c ts a [] n i = absurd (cc i)
of_places c ts a (q ∷ qs) n i = elim (in_either n (variables (tree_in ts q)) (variables_of (trees_of (map (tree_in ts) qs))) i)
    [ inl j ↦ a q n j | inr j ↦ of_places c ts a qs n j ]

replaced : (c m : ℕ) (u t : Tree) → Below c u → Below c t → Below c (apply (binding m u) t)
replaced c m u t b a n i = elim (variables_after n m u t i) [ inl j ↦ b n j | inr j ↦ a n j.0 ]

all_bound : (c : ℕ) (v u : Tree) (ts : List Tree) → Below c u → AllBelow c ts → AllBelow c (bind_in v u ts)
all_bound c (variable m) u ts b a = λ r. subst (Below c) (sym (get_or-map (apply (binding m u)) ts r (integer (pos 0)))) (replaced c m u (tree_in ts r) b (a r))
all_bound c (integer z) u ts b a = a
all_bound c (atom f) u ts b a = a
all_bound c (compound f us) u ts b a = a

all_below : (h : Changes) → AllBelow (state h).created (state h).trees
unfolding state
all_below [] = λ r n i. absurd (cc i)
all_below (variable_made ∷ h) =
    let k = (state h).created in
    one_more (k + 1) (variable k) (state h).trees (λ n i. omega (arith, only n k i)) (wider k (state h).trees (all_below h))
all_below (integer_made z ∷ h) = one_more (state h).created (integer z) (state h).trees (λ n i. absurd (cc i)) (all_below h)
all_below (atom_made f ∷ h) = one_more (state h).created (atom f) (state h).trees (λ n i. absurd (cc i)) (all_below h)
all_below (compound_made f qs ∷ h) =
    one_more (state h).created (compound f (trees_of (map (tree_in (state h).trees) qs))) (state h).trees
    (of_places (state h).created (state h).trees (all_below h) qs) (all_below h)
all_below (variable_bound v q ∷ h) = all_bound (state h).created (tree_in (state h).trees v) (tree_in (state h).trees q) (state h).trees (all_below h q)
    (all_below h)
all_below (numbers_left_out n ∷ h) = λ r k i. omega (arith, all_below h r k i)
all_below (ground_found r ∷ h) = all_below h

pub below : (h : Changes) (r n : ℕ) → In n (variables (stands_for h r)) → n < variable_count h
below h r n i = all_below h r n i

-- the next number stands in no tree
pub absent : (h : Changes) (r : ℕ) → occurs (variable_count h) (stands_for h r) ≡ false
absent h r = none (occurs (variable_count h) (stands_for h r)) refl
  where
    none : (b : Bool) → occurs (variable_count h) (stands_for h r) ≡ b → b ≡ false
    none true e = absurd (omega (arith, below h r (variable_count h) e))
    none false e = refl

younger : (c : ℕ) (t : Tree) → Below c t → occurs c t ≡ false → MayBeBound (variable c) t
younger c (variable k) b o = (o, b k (grind (arith, eqb_tells k k)))
younger c (integer z) b o = (o, tt)
younger c (atom f) b o = (o, tt)
younger c (compound f ts) b o = (o, tt)

-- a variable that was made just now may be bound to every older cell
pub new_is_free : (h h' : Changes) (v r : ℕ) → HasOneMore h h' v (variable (variable_count h)) → r < cell_count h →
    MayBeBound (stands_for h' v) (stands_for h' r)
new_is_free h h' v r m l =
    let t = variable (variable_count h) in
    let first : stands_for h' v ≡ t =
    ap (λ ts. tree_in ts v) m.trees ∙ (ap (tree_in ((state h).trees ++ t ∷ [])) m.place ∙ get_or-append_seam (state h).trees t [] (integer (pos 0))) in
    let second : stands_for h' r ≡ stands_for h r = ap (λ ts. tree_in ts r) m.trees ∙ get_or-append (state h).trees (t ∷ []) (integer (pos 0)) r l in
    subst (λ x. MayBeBound x (stands_for h' r)) (sym first)
    (subst (MayBeBound t) (sym second) (younger (variable_count h) (stands_for h r) (below h r) (absent h r)))
