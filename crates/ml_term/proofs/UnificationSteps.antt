-- What each step of unification says of the substitutions that make its two sides equal.
use Rattle.std.specs.Prelude.{◌≡◌, ℕ, true, false, Bool, ◌&&◌, ◌==◌, cond, nat_lt, List, [], ◌∷◌, ◌++◌}
use Rattle.std.specs.List.{zip}
use Rattle.std.specs.Ordering.{int_eq}
use Rattle.std.specs.Str.{bytes_eq}
use Rattle.std.proofs.Common.{inl, inr, refl, sym, ap, ◌∙◌, arith}
use Rattle.std.proofs.lemmas.Bool.Decides.{eqb_tells, Decides-int_eq}
use Rattle.std.proofs.lemmas.Slice.Eq.{bytes_eq-Decides}
use Rattle.ml_term.specs.Tree.{Tree, Trees, variable, integer, atom, compound, no_trees, tree, has, variables, nodes, list_of, arity, occurs, substitute}
use Rattle.ml_term.specs.Tree.{substitute_in}
use Rattle.ml_term.specs.Unify.{Equation, Step, delete, decompose, eliminate, clash, step, value_of, apply, binding}
use Rattle.ml_term.specs.Unifiers.{Unifies, equations_under}
use Rattle.ml_term.proofs.Substitutions.{twice, alike, as_it_is, inside_of}

pub unifies_append : (s : ℕ → Tree) (us es : List Equation) → Unifies s us → Unifies s es → Unifies s (us ++ es)
unifies_append s [] es h k = k
unifies_append s (u ∷ us) es h k = (h.0, unifies_append s us es h.1 k)

pub unifies_front : (s : ℕ → Tree) (us es : List Equation) → Unifies s (us ++ es) → Unifies s us
unifies_front s [] es h = tt
unifies_front s (u ∷ us) es h = (h.0, unifies_front s us es h.1)

pub unifies_back : (s : ℕ → Tree) (us es : List Equation) → Unifies s (us ++ es) → Unifies s es
unifies_back s [] es h = h
unifies_back s (u ∷ us) es h = unifies_back s us es h.1

pub pairs_unified : (s : ℕ → Tree) (ts us : Trees) → (arity ts ≡ arity us) → Unifies s (zip (list_of ts) (list_of us)) → substitute_in s ts ≡ substitute_in s us
pairs_unified s no_trees no_trees a h = refl
pairs_unified s no_trees (tree u us) a h = absurd (omega arith)
pairs_unified s (tree t ts) no_trees a h = absurd (omega arith)
pairs_unified s (tree t ts) (tree u us) a h = rw (h.0, pairs_unified s ts us (omega arith) h.1) refl

pub pairs_unify : (s : ℕ → Tree) (ts us : Trees) → substitute_in s ts ≡ substitute_in s us → Unifies s (zip (list_of ts) (list_of us))
pairs_unify s no_trees us e = tt
pairs_unify s (tree t ts) no_trees e = tt
pairs_unify s (tree t ts) (tree u us) e = (cc e, pairs_unify s ts us (cc e))

pub arities_agree : (s : ℕ → Tree) (ts us : Trees) → substitute_in s ts ≡ substitute_in s us → arity ts ≡ arity us
arities_agree s no_trees no_trees e = refl
arities_agree s no_trees (tree u us) e = absurd (cc e)
arities_agree s (tree t ts) no_trees e = absurd (cc e)
arities_agree s (tree t ts) (tree u us) e = let q : substitute_in s ts ≡ substitute_in s us = cc e in omega (arith, arities_agree s ts us q)

-- what a step says of what makes its sides equal
abbrev pub Says : Step → Tree → Tree → Type 0
Says delete t u = (s : ℕ → Tree) → substitute s t ≡ substitute s u
Says (decompose us) t u = ((s : ℕ → Tree) → Unifies s us → substitute s t ≡ substitute s u) × ((s : ℕ → Tree) → substitute s t ≡ substitute s u → Unifies s us)
Says (eliminate n w) t u = (has n (variables w) ≡ false) × ((s : ℕ → Tree) → s n ≡ substitute s w → substitute s t ≡ substitute s u)
    × ((s : ℕ → Tree) → substitute s t ≡ substitute s u → s n ≡ substitute s w)
Says clash t u = (s : ℕ → Tree) → substitute s t ≡ substitute s u → ⊥

cond_says : (t u : Tree) (b c : Bool) (x y : Step) → b ≡ c → (c ≡ true → Says x t u) → (c ≡ false → Says y t u) → Says (cond b x y) t u
cond_says t u b true x y e h k = rw e (h refl)
cond_says t u b false x y e h k = rw e (k refl)

two_says : (m n : ℕ) → Says (step (variable m) (variable n)) (variable m) (variable n)
two_says m n = elim (eqb_tells m n) [
  | inl e ↦ rw e.0 (λ s. ap s e.1)
  | inr e ↦ rw e.0 (cond_says (variable m) (variable n) (nat_lt m n) (nat_lt m n) (eliminate n (variable m)) (eliminate m (variable n)) refl
      (λ _. (grind (arith, eqb_tells m n, e), λ s q. sym q, λ s q. sym q)) (λ _. (grind (arith, eqb_tells n m, e), λ s q. q, λ s q. q)))
]

left_says : (m : ℕ) (f : List ℕ) (us : Trees) → Says (cond (occurs m (compound f us)) clash (eliminate m (compound f us))) (variable m) (compound f us)
left_says m f us = cond_says (variable m) (compound f us) (occurs m (compound f us)) (occurs m (compound f us)) clash (eliminate m (compound f us)) refl
    (λ i s e. omega (arith, inside_of s m us i, ap nodes e)) (λ i. (i, λ s q. q, λ s q. q))

right_says : (m : ℕ) (f : List ℕ) (us : Trees) → Says (cond (occurs m (compound f us)) clash (eliminate m (compound f us))) (compound f us) (variable m)
right_says m f us = cond_says (compound f us) (variable m) (occurs m (compound f us)) (occurs m (compound f us)) clash (eliminate m (compound f us)) refl
    (λ i s e. omega (arith, inside_of s m us i, ap nodes e)) (λ i. (i, λ s q. sym q, λ s q. sym q))

compounds_says : (f g : List ℕ) (ts us : Trees) (b : Bool) → bytes_eq f g ≡ b →
    Says (cond (b && (arity ts == arity us)) (decompose (zip (list_of ts) (list_of us))) clash) (compound f ts) (compound g us)
compounds_says f g ts us false e = λ s q. let i : f ≡ g = cc q in cc (e, (bytes_eq-Decides f g).1 i)
compounds_says f g ts us true e = elim (eqb_tells (arity ts) (arity us)) [
  | inl a ↦ rw a.0 (λ s h. rw ((bytes_eq-Decides f g).0 e, pairs_unified s ts us a.1 h) refl, λ s q. pairs_unify s ts us (cc q))
  | inr a ↦ rw a.0 (λ s q. a.1 (arities_agree s ts us (cc q)))
]

pub step_says : (t u : Tree) → Says (step t u) t u
step_says (variable m) (variable n) = two_says m n
step_says (variable m) (integer z) = (refl, λ s q. q, λ s q. q)
step_says (variable m) (atom f) = (refl, λ s q. q, λ s q. q)
step_says (variable m) (compound f us) = left_says m f us
step_says (integer z) (variable m) = (refl, λ s q. sym q, λ s q. sym q)
step_says (atom f) (variable m) = (refl, λ s q. sym q, λ s q. sym q)
step_says (compound f us) (variable m) = right_says m f us
step_says (integer y) (integer z) = cond_says (integer y) (integer z) (int_eq y z) (int_eq y z) delete clash refl (λ e s. ap integer ((Decides-int_eq y z).0 e))
    (λ e s q. let i : y ≡ z = cc q in cc (e, (Decides-int_eq y z).1 i))
step_says (atom f) (atom g) = cond_says (atom f) (atom g) (bytes_eq f g) (bytes_eq f g) delete clash refl (λ e s. ap atom ((bytes_eq-Decides f g).0 e))
    (λ e s q. let i : f ≡ g = cc q in cc (e, (bytes_eq-Decides f g).1 i))
step_says (compound f ts) (compound g us) = compounds_says f g ts us (bytes_eq f g) refl
step_says (integer y) (atom g) = λ s q. cc q
step_says (integer y) (compound g us) = λ s q. cc q
step_says (atom f) (integer z) = λ s q. cc q
step_says (atom f) (compound g us) = λ s q. cc q
step_says (compound f ts) (integer z) = λ s q. cc q
step_says (compound f ts) (atom g) = λ s q. cc q

-- a variable that is replaced
pub looked_up : (s : ℕ → Tree) (n k : ℕ) (w : Tree) → s n ≡ substitute s w → substitute s (value_of (binding n w) k) ≡ s k
looked_up s n k w e = elim (eqb_tells n k) [ inl q ↦ rw q.0 (sym e ∙ ap s q.1) | inr q ↦ rw q.0 refl ]

pub replaced_away : (s : ℕ → Tree) (n : ℕ) (w u : Tree) → s n ≡ substitute s w → substitute s (apply (binding n w) u) ≡ substitute s u
replaced_away s n w u e = twice s (value_of (binding n w)) u ∙ alike (λ k. substitute s (value_of (binding n w) k)) s u (λ k i. looked_up s n k w e)

pub unifies_each : (s : ℕ → Tree) (n : ℕ) (w : Tree) (es : List Equation) → s n ≡ substitute s w → Unifies s es → Unifies s (equations_under (binding n w) es)
unifies_each s n w [] e h = tt
unifies_each s n w (x ∷ es) e h = (replaced_away s n w x.0 e ∙ (h.0 ∙ sym (replaced_away s n w x.1 e)), unifies_each s n w es e h.1)

pub unifies_before : (s : ℕ → Tree) (n : ℕ) (w : Tree) (es : List Equation) → Unifies s (equations_under (binding n w) es) →
    Unifies (λ k. substitute s (value_of (binding n w) k)) es
unifies_before s n w [] h = tt
unifies_before s n w (x ∷ es) h = (sym (twice s (value_of (binding n w)) x.0) ∙ (h.0 ∙ twice s (value_of (binding n w)) x.1), unifies_before s n w es h.1)

-- a term in which the variable doesn't occur stays
pub stays : (n : ℕ) (w : Tree) → has n (variables w) ≡ false → apply (binding n w) w ≡ w
stays n w h = alike (value_of (binding n w)) variable w
    (λ k i. elim (eqb_tells n k) [ inl q ↦ absurd (cc (ap (λ m. has m (variables w)) q.1, h, i)) | inr q ↦ rw q.0 refl ]) ∙ as_it_is w

pub says_of_itself : (s : ℕ → Tree) (n : ℕ) (w : Tree) → has n (variables w) ≡ false →
    substitute s (value_of (binding n w) n) ≡ substitute (λ k. substitute s (value_of (binding n w) k)) w
says_of_itself s n w h =
    elim (eqb_tells n n) [ inl q ↦ rw q.0 (ap (substitute s) (sym (stays n w h)) ∙ twice s (value_of (binding n w)) w) | inr q ↦ absurd (q.1 refl) ]
