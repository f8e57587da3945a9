-- The worklist of unification: what is put on it and taken from it, as equations.
use Rattle.std.specs.Prelude.{◌≡◌, ℕ, suc, ◌+◌, ◌-◌, ◌<◌, false, List, [], ◌∷◌, ◌++◌, map, reverse, length, take, get_or}
use Rattle.std.specs.List.{zip}
use Rattle.std.proofs.Common.{refl, sym, ap, ◌∙◌, subst, arith, append_assoc}
use Rattle.std.proofs.lemmas.List.{reverse-append, length-map}
use Rattle.ml_term.specs.Tree.{Tree, variable, integer, atom, compound, occurs}
use Rattle.ml_term.specs.Unify.{Equation, binding, step, decompose}
use Rattle.ml_heap.specs.Changes.{Changes, tree_in, trees, stands_for, bind_in, number}
use Rattle.ml_heap.specs.inside.Equations.{stack_equations, equations_left, AreBelow, IsTurn, sides_split, variable_replaced}
use Rattle.ml_heap.specs.inside.Rules.{IsToBeBound, AreInside, pairs}
use Rattle.ml_heap.proofs.EquationWorklists.{one_more, all_replaced}

abbrev pub pair : ℕ → ℕ → ℕ × ℕ
pair q r = (q, r)

turned : (q r : ℕ) (ps : List (ℕ × ℕ)) → reverse ((q, r) ∷ ps) ≡ reverse ps ++ (q, r) ∷ []
turned q r ps = reverse-append (pair q r ∷ []) ps

pub below_append : (n : ℕ) (ps qs : List (ℕ × ℕ)) → AreBelow n ps → AreBelow n qs → AreBelow n (ps ++ qs)
below_append n [] qs a b = b
below_append n (p ∷ ps) qs a b = (a.0, a.1, below_append n ps qs a.2 b)

pub below_front : (n : ℕ) (ps qs : List (ℕ × ℕ)) → AreBelow n (ps ++ qs) → AreBelow n ps
below_front n [] qs a = tt
below_front n (p ∷ ps) qs a = (a.0, a.1, below_front n ps qs a.2)

pub below_back : (n : ℕ) (ps qs : List (ℕ × ℕ)) → AreBelow n (ps ++ qs) → AreBelow n qs
below_back n [] qs a = a
below_back n (p ∷ ps) qs a = below_back n ps qs a.2

below_pairs : (n : ℕ) (qs rs : List ℕ) → ((i : ℕ) → i < length qs → get_or qs i 0 < n) → ((i : ℕ) → i < length rs → get_or rs i 0 < n) →
    AreBelow n (reverse (zip qs rs))
below_pairs n [] rs a b = tt
below_pairs n (q ∷ qs) [] a b = tt
below_pairs n (q ∷ qs) (r ∷ rs) a b =
    rw (turned q r (zip qs rs))
    (below_append n (reverse (zip qs rs)) ((q, r) ∷ []) (below_pairs n qs rs (λ i l. a (suc i) (omega arith)) (λ i l. b (suc i) (omega arith)))
    (a 0 (omega arith), b 0 (omega arith), tt))

-- pairs that are put last are the first equations
pairs_first : (ts : List Tree) (es : List Equation) (ps : List (ℕ × ℕ)) (qs rs : List ℕ)
    → stack_equations ts es (ps ++ reverse (zip qs rs)) ≡ zip (map (tree_in ts) qs) (map (tree_in ts) rs) ++ stack_equations ts es ps
pairs_first ts es ps [] rs = ap (stack_equations ts es) (no_more ps)
  where
    no_more : (ps : List (ℕ × ℕ)) → ps ++ [] ≡ ps
    no_more [] = refl
    no_more (p ∷ ps) = ap (λ zs. p ∷ zs) (no_more ps)
pairs_first ts es ps (q ∷ qs) [] = ap (stack_equations ts es) (no_more ps)
  where
    no_more : (ps : List (ℕ × ℕ)) → ps ++ [] ≡ ps
    no_more [] = refl
    no_more (p ∷ ps) = ap (λ zs. p ∷ zs) (no_more ps)
pairs_first ts es ps (q ∷ qs) (r ∷ rs) =
    ap (λ zs. stack_equations ts es (ps ++ zs)) (turned q r (zip qs rs))
    ∙ (ap (stack_equations ts es) (sym (append_assoc ps (reverse (zip qs rs)) (pair q r ∷ [])))
    ∙ (one_more ts es (ps ++ reverse (zip qs rs)) (q, r) ∙ ap (λ fs. (tree_in ts q, tree_in ts r) ∷ fs) (pairs_first ts es ps qs rs)))

-- the arguments' pairs are put last
module _ (h : Changes) (t u : Tree) (qs rs : List ℕ) (s : step t u ≡ decompose (pairs h qs rs)) (ps ps' : List (ℕ × ℕ))
    (e : ps' ≡ ps ++ reverse (zip qs rs)) where
  pub splits : IsTurn (trees h) t u (equations_left (trees h) ps) (trees h) (equations_left (trees h) ps')
  splits = sides_split (pairs h qs rs) s refl (ap (equations_left (trees h)) e ∙ pairs_first (trees h) [] ps qs rs)

  pub stay_below : (n : ℕ) → AreBelow n ps → ((i : ℕ) → i < length qs → get_or qs i 0 < n) → ((i : ℕ) → i < length rs → get_or rs i 0 < n) → AreBelow n ps'
  stay_below n a b c = rw e (below_append n ps (reverse (zip qs rs)) a (below_pairs n qs rs b c))

-- the variable is bound
pub binds : (v w t u : Tree) (ts ts' : List Tree) (ps : List (ℕ × ℕ)) → IsToBeBound v w t u → occurs (number v) w ≡ false → ts' ≡ bind_in v w ts
    → IsTurn ts t u (equations_left ts ps) ts' (equations_left ts' ps)
binds (variable n) w t u ts ts' ps b o e = variable_replaced n w (b.1 o) e (ap (λ x. equations_left x ps) e ∙ all_replaced (binding n w) ts [] ps)
binds (integer z) w t u ts ts' ps b o e = absurd b
binds (atom f) w t u ts ts' ps b o e = absurd b
binds (compound f us) w t u ts ts' ps b o e = absurd b

pub as_many_trees : (v w : Tree) (ts : List Tree) → length (bind_in v w ts) ≡ length ts
as_many_trees (variable n) w ts = length-map ts _
as_many_trees (integer z) w ts = refl
as_many_trees (atom f) w ts = refl
as_many_trees (compound f us) w ts = refl

-- the same of equal trees
pub turned_as : (t t' u u' : Tree) (ts : List Tree) (es : List Equation) (ts' : List Tree) (es' : List Equation) → t ≡ t' → u ≡ u'
    → IsTurn ts t u es ts' es' → IsTurn ts t' u' es ts' es'
turned_as t t' u u' ts es ts' es' e k r = subst (λ x. IsTurn ts t' x es ts' es') k (subst (λ x. IsTurn ts x u es ts' es') e r)

-- the pair that is taken is the first equation
module _ (left rest : List (ℕ × ℕ)) (a b : ℕ) (e : left ≡ rest ++ pair a b ∷ []) where
  pub taken : (ts : List Tree) → equations_left ts left ≡ (tree_in ts a, tree_in ts b) ∷ equations_left ts rest
  taken ts = ap (equations_left ts) e ∙ one_more ts [] rest (a, b)

  module _ (n : ℕ) (k : AreBelow n left) where
    pub first_below : a < n
    first_below = (below_back n rest (pair a b ∷ []) (subst (AreBelow n) e k)).0

    pub second_below : b < n
    second_below = (below_back n rest (pair a b ∷ []) (subst (AreBelow n) e k)).1

    pub rest_below : AreBelow n rest
    rest_below = below_front n rest (pair a b ∷ []) (subst (AreBelow n) e k)

-- nothing was taken: nothing was left
pub none_left : {A : Type 0} (left rest out : List A) (n m : ℕ) → n ≡ 0 → left ≡ rest ++ out → rest ≡ take (n - 1) left → m + length out ≡ n → left ≡ []
none_left left rest out n m z e t l =
    let first : rest ≡ [] = t ∙ ap (λ n. take (n - 1) left) z in
    let second : out ≡ [] = empty out (omega arith) in
    e ∙ (ap (λ r. r ++ out) first ∙ second)
  where
    empty : {A : Type 0} (xs : List A) → length xs ≡ 0 → xs ≡ []
    empty [] k = refl
    empty (x ∷ xs) k = absurd (omega arith)
