-- What the code's built-ins are in the tables of the definitions.
use Rattle.std.specs.Prelude.{◌≡◌, ℕ, zero, suc, ◌<◌, Bool, true, false, is_some, List, [], ◌∷◌, map, length, get_or, Option, None, codes}
use Rattle.std.specs.declared.cmp.Ordering.{Ordering}
use Rattle.std.specs.Str.{bytes_eq}
use Rattle.std.proofs.Common.{refl, sym, ap, ◌∙◌, cond, arith}
use Rattle.std.proofs.lemmas.List.{get_or_read}
use Rattle.ml_term.specs.Tree.{Tree, variable}
use Rattle.ml_term.specs.Order.{tree_cmp}
use Rattle.ml_heap.specs.Changes.{Changes, variable_count, AreCells}
use Rattle.ml_heap.proofs.TermWalks.{cells_at}
use Rattle.ml_search.specs.Builtins.{BuiltinResult, builtin, builtins_2, builtins_3, type_tests, order_tests, value_tests, is_plain, test_result, compare_values, or_else, with}
use Rattle.ml_search.specs.Evaluate.{evaluate}
use Rattle.ml_search.specs.Names.{look_up}
use Rattle.ml_builtin.specs.declared.outcome.Outcome.{Outcome}
use Rattle.ml_builtin.specs.declared.relation.Relation.{Relation}
use Rattle.ml_builtin.specs.declared.relation.Relation.TheVariants.{Equal, NotEqual, Less, LessOrEqual, Greater, GreaterOrEqual}
use Rattle.ml_builtin.specs.declared.type_test.TypeTest.{TypeTest}
use Rattle.ml_builtin.specs.declared.type_test.TypeTest.TheVariants.{Variable, NoVariable, Atom, Integer, Atomic, Compound, Callable, Ground}
use Rattle.ml_builtin.specs.Outcomes.{Agrees, DoesBuiltin}
use Rattle.ml_builtin.specs.Tables.{test_name, order_name, value_name}
use Rattle.ml_builtin.specs.inside.Meanings.{type_test, relation_test, IsNoBinary}

pub test_means : (test : TypeTest) (h h' : Changes) (t : Tree) (o : Outcome) → Agrees h h' (test_result (type_test test t) (variable_count h)) o
    → DoesBuiltin h h' (builtin (test_name test) (t ∷ [])) o
test_means Variable h h' t o a = a
test_means NoVariable h h' t o a = a
test_means Atom h h' t o a = a
test_means Integer h h' t o a = a
test_means Atomic h h' t o a = a
test_means Compound h h' t o a = a
test_means Callable h h' t o a = a
test_means Ground h h' t o a = a

pub order_means : (r : Relation) (h h' : Changes) (t u : Tree) (o : Outcome) → Agrees h h' (test_result (relation_test r (tree_cmp t u)) (variable_count h)) o
    → DoesBuiltin h h' (builtin (order_name r) (t ∷ u ∷ [])) o
order_means Equal h h' t u o a = a
order_means NotEqual h h' t u o a = a
order_means Less h h' t u o a = a
order_means LessOrEqual h h' t u o a = a
order_means Greater h h' t u o a = a
order_means GreaterOrEqual h h' t u o a = a

pub value_means : (r : Relation) (h h' : Changes) (t u : Tree) (o : Outcome)
    → Agrees h h' (compare_values (relation_test r) (evaluate t) (evaluate u) (variable_count h)) o
    → DoesBuiltin h h' (builtin (value_name r) (t ∷ u ∷ [])) o
value_means Equal h h' t u o a = a
value_means NotEqual h h' t u o a = a
value_means Less h h' t u o a = a
value_means LessOrEqual h h' t u o a = a
value_means Greater h h' t u o a = a
value_means GreaterOrEqual h h' t u o a = a

-- there is none of another name
pub no_test : (f : List ℕ) → look_up type_tests f ≡ None → is_plain f 1 ≡ false
no_test f e =
    let g : Option (Tree → Bool) → Bool = λ o. is_some (with (λ p. test_result (p (variable 0))) o) in
    ap g e

pub no_binary : (f : List ℕ) → IsNoBinary f → is_plain f 2 ≡ false
no_binary f n =
    let t : Tree = variable 0 in
    let u : Tree = variable 1 in
    let g : Option (Tree → Tree → ℕ → BuiltinResult) → Option (Ordering → Bool) → Option (Ordering → Bool) → Bool =
    λ a b c. is_some
    (or_else (with (λ d. d t u) a) (or_else (with (λ p. test_result (p (tree_cmp t u))) b) (with (λ p. compare_values p (evaluate t) (evaluate u)) c))) in
    ap (λ o. g o (look_up order_tests f) (look_up value_tests f)) n.0 ∙ (ap (λ o. g None o (look_up value_tests f)) n.1 ∙ ap (g None None) n.2)

pub no_ternary : (f : List ℕ) → look_up builtins_3 f ≡ None → is_plain f 3 ≡ false
no_ternary f e =
    let g : Option (Tree → Tree → Tree → ℕ → BuiltinResult) → Bool = λ o. is_some (with (λ d. d (variable 0) (variable 1) (variable 2)) o) in
    ap g e

pub no_other : (f : List ℕ) (n : ℕ) → (n ≡ 1 → ⊥) → (n ≡ 2 → ⊥) → (n ≡ 3 → ⊥) → is_plain f n ≡ false
no_other f zero a b c = refl
no_other f (suc zero) a b c = absurd (a refl)
no_other f (suc (suc zero)) a b c = absurd (b refl)
no_other f (suc (suc (suc zero))) a b c = absurd (c refl)
no_other f (suc (suc (suc (suc n)))) a b c = refl

-- the terms of as many cells
pub one_argument : (f : ℕ → Tree) (qs : List ℕ) (a : ℕ) → length qs ≡ 1 → a ≡ get_or qs 0 a → f a ∷ [] ≡ map f qs
one_argument f [] a e at = absurd (omega (arith, e))
one_argument f (q ∷ []) a e at = ap (λ x. f x ∷ []) at
one_argument f (q ∷ r ∷ qs) a e at = absurd (omega (arith, e))

pub two_arguments : (f : ℕ → Tree) (qs : List ℕ) (a b : ℕ) → length qs ≡ 2 → a ≡ get_or qs 0 a → b ≡ get_or qs 1 b → f a ∷ f b ∷ [] ≡ map f qs
two_arguments f [] a b e at_a at_b = absurd (omega (arith, e))
two_arguments f (q ∷ []) a b e at_a at_b = absurd (omega (arith, e))
two_arguments f (q ∷ r ∷ []) a b e at_a at_b = ap (λ x. f x ∷ f b ∷ []) at_a ∙ ap (λ x. f q ∷ f x ∷ []) at_b
two_arguments f (q ∷ r ∷ s ∷ qs) a b e at_a at_b = absurd (omega (arith, e))

pub three_arguments : (f : ℕ → Tree) (qs : List ℕ) (a b d : ℕ) → length qs ≡ 3 → a ≡ get_or qs 0 a → b ≡ get_or qs 1 b → d ≡ get_or qs 2 d
    → f a ∷ f b ∷ f d ∷ [] ≡ map f qs
three_arguments f [] a b d e at_a at_b at_d = absurd (omega (arith, e))
three_arguments f (q ∷ []) a b d e at_a at_b at_d = absurd (omega (arith, e))
three_arguments f (q ∷ r ∷ []) a b d e at_a at_b at_d = absurd (omega (arith, e))
three_arguments f (q ∷ r ∷ s ∷ []) a b d e at_a at_b at_d =
    ap (λ x. f x ∷ f b ∷ f d ∷ []) at_a ∙ (ap (λ x. f q ∷ f x ∷ f d ∷ []) at_b ∙ ap (λ x. f q ∷ f r ∷ f x ∷ []) at_d)
three_arguments f (q ∷ r ∷ s ∷ t ∷ qs) a b d e at_a at_b at_d = absurd (omega (arith, e))

-- the cell that is read is one of the heap
pub cell_read : (n : ℕ) (qs : List ℕ) (i a : ℕ) → AreCells n qs → i < length qs → a ≡ get_or qs i a → a < n
cell_read n qs i a inside l at =
    let same : a ≡ get_or qs i 0 = get_or_read qs i a l at 0 in
    omega (arith, same, cells_at n qs inside i l)

-- a table has nothing under a name that is none of its own
skipped : {A : Type 0} (b : Bool) (o r : Option A) → b ≡ false → r ≡ None → cond b o r ≡ None
skipped true o r e n = absurd (cc e)
skipped false o r e n = n

pub no_builtin_2 : (f : List ℕ) → bytes_eq (codes "=") f ≡ false → bytes_eq (codes "\\=") f ≡ false → bytes_eq (codes "=..") f ≡ false
    → bytes_eq (codes "copy_term") f ≡ false → bytes_eq (codes "is") f ≡ false → look_up builtins_2 f ≡ None
no_builtin_2 f a b c d e =
    skipped (bytes_eq (codes "=") f) _ _ a
    (skipped (bytes_eq (codes "\\=") f) _ _ b
    (skipped (bytes_eq (codes "=..") f) _ _ c (skipped (bytes_eq (codes "copy_term") f) _ _ d (skipped (bytes_eq (codes "is") f) _ _ e refl))))

pub no_builtin_3 : (f : List ℕ) → bytes_eq (codes "functor") f ≡ false → bytes_eq (codes "arg") f ≡ false → look_up builtins_3 f ≡ None
no_builtin_3 f a b = skipped (bytes_eq (codes "functor") f) _ _ a (skipped (bytes_eq (codes "arg") f) _ _ b refl)

-- how the code compares a name
pub compared : (n f s g : List ℕ) (b : Bool) → n ≡ f → s ≡ g → b ≡ bytes_eq s n → b ≡ false → bytes_eq g f ≡ false
compared n f s g b l k e h = sym (ap (λ x. bytes_eq x f) k) ∙ (sym (ap (bytes_eq s) l) ∙ (sym e ∙ h))
