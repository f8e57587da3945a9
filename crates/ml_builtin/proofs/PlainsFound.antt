-- A plain built-in is the one of its name and its arity.
use Rattle.std.specs.Prelude.{◌≡◌, ℕ, zero, suc, Bool, true, false, ◌||◌, ◌==◌, is_some, List, [], ◌∷◌, ◌++◌, map, Option, Some, None, MatchOption}
use Rattle.std.specs.List.{list_any}
use Rattle.std.specs.Str.{bytes_eq}
use Rattle.std.proofs.Common.{refl, sym, ap, ◌∙◌, cond, arith}
use Rattle.std.proofs.lemmas.Bool.{ne_eqb, eqb-true}
use Rattle.std.proofs.lemmas.Slice.Eq.{bytes_eq-Decides}
use Rattle.std.proofs.lemmas.List.Folds.{list_any-append}
use Rattle.ml_term.specs.Order.{tree_cmp}
use Rattle.ml_term.specs.Tree.{Tree, variable}
use Rattle.ml_search.specs.Builtins.{with, or_else, type_tests, order_tests, value_tests, builtins_2, builtins_3, test_result, compare_values, is_plain}
use Rattle.ml_search.specs.Evaluate.{evaluate}
use Rattle.ml_search.specs.Names.{look_up}
use Rattle.ml_builtin.specs.declared.plain.Plain.{Plain}
use Rattle.ml_builtin.specs.declared.plain.Plain.TheVariants.{One, Two, Three}
use Rattle.ml_builtin.specs.declared.plain.Binary.TheVariants.{Unify, NotUnifiable, Univ, CopyTerm, Is, Order, Value}
use Rattle.ml_builtin.specs.declared.plain.Ternary.TheVariants.{Functor, Arg}
use Rattle.ml_builtin.specs.declared.relation.Relation.TheVariants.{Equal, NotEqual, Less, LessOrEqual, Greater, GreaterOrEqual}
use Rattle.ml_builtin.specs.declared.type_test.TypeTest.TheVariants.{Variable, NoVariable, Atom, Integer, Atomic, Compound, Callable, Ground}
use Rattle.ml_builtin.specs.Tables.{plain_name, plain_arity, plain_1, plain_2, plain_3, named, plain_of}

-- each is found under its name and its arity
found_by_name : (b : Plain) → plain_of (plain_name b) (plain_arity b) ≡ Some b
unfolding plain_of
found_by_name (One Variable) = refl
found_by_name (One NoVariable) = refl
found_by_name (One Atom) = refl
found_by_name (One Integer) = refl
found_by_name (One Atomic) = refl
found_by_name (One Compound) = refl
found_by_name (One Callable) = refl
found_by_name (One Ground) = refl
found_by_name (Two Unify) = refl
found_by_name (Two NotUnifiable) = refl
found_by_name (Two Univ) = refl
found_by_name (Two CopyTerm) = refl
found_by_name (Two Is) = refl
found_by_name (Two (Order Equal)) = refl
found_by_name (Two (Order NotEqual)) = refl
found_by_name (Two (Order Less)) = refl
found_by_name (Two (Order LessOrEqual)) = refl
found_by_name (Two (Order Greater)) = refl
found_by_name (Two (Order GreaterOrEqual)) = refl
found_by_name (Two (Value Equal)) = refl
found_by_name (Two (Value NotEqual)) = refl
found_by_name (Two (Value Less)) = refl
found_by_name (Two (Value LessOrEqual)) = refl
found_by_name (Two (Value Greater)) = refl
found_by_name (Two (Value GreaterOrEqual)) = refl
found_by_name (Three Functor) = refl
found_by_name (Three Arg) = refl

-- whether a name is in a table
abbrev names : {A : Type 0} → List (List ℕ × A) → List (List ℕ)
names = map (λ e. e.0)

abbrev is_one_of : List (List ℕ) → List ℕ → Bool
is_one_of ns f = list_any (λ n. bytes_eq n f) ns

made_of_named : {A B : Type 0} (g : A → B) (es : List (List ℕ × A)) (f : List ℕ) → is_some (with g (look_up es f)) ≡ is_one_of (names es) f
made_of_named g [] f = refl
made_of_named g (e ∷ es) f = by (made_of_named g es f) (bytes_eq e.0 f)
  where
    by : is_some (with g (look_up es f)) ≡ is_one_of (names es) f → (b : Bool) →
        is_some (with g (cond b (Some e.1) (look_up es f))) ≡ (b || is_one_of (names es) f)
    by h true = refl
    by h false = h

some_named : {A : Type 0} (es : List (List ℕ × A)) (f : List ℕ) → is_some (look_up es f) ≡ is_one_of (names es) f
some_named [] f = refl
some_named (e ∷ es) f = by (some_named es f) (bytes_eq e.0 f)
  where
    by : is_some (look_up es f) ≡ is_one_of (names es) f → (b : Bool) → is_some (cond b (Some e.1) (look_up es f)) ≡ (b || is_one_of (names es) f)
    by h true = refl
    by h false = h

some_of_either : {A : Type 0} (a b : Option A) → is_some (or_else a b) ≡ (is_some a || is_some b)
some_of_either None b = refl
some_of_either (Some x) b = refl

in_both : (xs ys : List (List ℕ)) (f : List ℕ) → is_one_of (xs ++ ys) f ≡ is_one_of xs f || is_one_of ys f
in_both xs ys f = list_any-append (λ n. bytes_eq n f) xs ys

one_plain : (f : List ℕ) → is_plain f 1 ≡ is_some (look_up (named plain_1) f)
one_plain f = made_of_named (λ (p : Tree → Bool). test_result (p (variable 0))) type_tests f ∙ sym (some_named (named plain_1) f)

two_plain : (f : List ℕ) → is_plain f 2 ≡ is_some (look_up (named plain_2) f)
two_plain f =
    let t = variable 0 in
    let u = variable 1 in
    let a = with (λ d. d t u) (look_up builtins_2 f) in
    let b = with (λ p. test_result (p (tree_cmp t u))) (look_up order_tests f) in
    let c = with (λ p. compare_values p (evaluate t) (evaluate u)) (look_up value_tests f) in
    some_of_either a (or_else b c)
    ∙ ap (λ x. is_some a || x) (some_of_either b c)
    ∙ ap (λ x. x || (is_some b || is_some c)) (made_of_named (λ d. d t u) builtins_2 f)
    ∙ ap (λ x. is_one_of (names builtins_2) f || (x || is_some c)) (made_of_named (λ p. test_result (p (tree_cmp t u))) order_tests f)
    ∙ ap (λ x. is_one_of (names builtins_2) f || (is_one_of (names order_tests) f || x))
    (made_of_named (λ p. compare_values p (evaluate t) (evaluate u)) value_tests f)
    ∙ sym (ap (λ x. is_one_of (names builtins_2) f || x) (in_both (names order_tests) (names value_tests) f))
    ∙ sym (in_both (names builtins_2) (names order_tests ++ names value_tests) f)
    ∙ sym (some_named (named plain_2) f)

three_plain : (f : List ℕ) → is_plain f 3 ≡ is_some (look_up (named plain_3) f)
three_plain f =
    made_of_named (λ (d : Tree → Tree → Tree → ℕ → _). d (variable 0) (variable 1) (variable 2)) builtins_3 f ∙ sym (some_named (named plain_3) f)

-- none has four arguments or more
skipped : {A : Type 0} (b : Bool) (x y z : A) → b ≡ false → y ≡ z → cond b x y ≡ z
skipped true x y z e h = absurd (cc e)
skipped false x y z e h = h

many_plain : (f : List ℕ) (m : ℕ) → is_plain f (suc (suc (suc (suc m)))) ≡ is_some (plain_of f (suc (suc (suc (suc m)))))
unfolding plain_of
many_plain f m =
    let n : ℕ = suc (suc (suc (suc m))) in
    let none : plain_of f n ≡ None =
    skipped (n == 1) _ _ _ (ne_eqb n 1 (λ h. omega (arith, h)))
    (skipped (n == 2) _ _ _ (ne_eqb n 2 (λ h. omega (arith, h))) (skipped (n == 3) _ _ _ (ne_eqb n 3 (λ h. omega (arith, h))) refl)) in
    sym (ap is_some none)

-- whether there is a plain built-in
pub has_plain : (f : List ℕ) (n : ℕ) → is_plain f n ≡ is_some (plain_of f n)
unfolding plain_of
has_plain f zero = refl
has_plain f (suc zero) = one_plain f
has_plain f (suc (suc zero)) = two_plain f
has_plain f (suc (suc (suc zero))) = three_plain f
has_plain f (suc (suc (suc (suc m)))) = many_plain f m

-- what is told by its name and its arity is the one that has them
pub plain_told : (f : List ℕ) (n : ℕ) (o : Option Plain) → MatchOption o (is_plain f n ≡ false) (λ b. (plain_name b ≡ f) × (plain_arity b ≡ n))
    → o ≡ plain_of f n
plain_told f n None e = by (plain_of f n) (sym (has_plain f n) ∙ e)
  where
    by : (p : Option Plain) → is_some p ≡ false → None ≡ p
    by None k = refl
    by (Some b) k = absurd (cc k)
plain_told f n (Some b) e = sym (found_by_name b) ∙ (ap (λ g. plain_of g (plain_arity b)) e.0 ∙ ap (plain_of f) e.1)

-- what is found has the name and the arity
abbrev EachTakes : ℕ → List Plain → Type 0
EachTakes k [] = Unit {0}
EachTakes k (b ∷ bs) = (plain_arity b ≡ k) × EachTakes k bs

looked_up : (k : ℕ) (bs : List Plain) (f : List ℕ) (c : Plain) → EachTakes k bs → look_up (named bs) f ≡ Some c → (plain_name c ≡ f) × (plain_arity c ≡ k)
looked_up k [] f c each e = absurd (cc e)
looked_up k (b ∷ bs) f c each e = by (bytes_eq (plain_name b) f) refl e (looked_up k bs f c each.1)
  where
    by : (x : Bool) → bytes_eq (plain_name b) f ≡ x → cond x (Some b) (look_up (named bs) f) ≡ Some c
        → (look_up (named bs) f ≡ Some c → (plain_name c ≡ f) × (plain_arity c ≡ k)) → (plain_name c ≡ f) × (plain_arity c ≡ k)
    by true h is again =
        let same : b ≡ c = cc is in
        (sym (ap plain_name same) ∙ (bytes_eq-Decides (plain_name b) f).0 h, sym (ap plain_arity same) ∙ each.0)
    by false h is again = again is

pub plain_named : (f : List ℕ) (n : ℕ) (b : Plain) → plain_of f n ≡ Some b → (plain_name b ≡ f) × (plain_arity b ≡ n)
unfolding plain_of
plain_named f n b e = by (n == 1) refl e
  where
    at : (k : ℕ) (bs : List Plain) → EachTakes k bs → (n == k) ≡ true → look_up (named bs) f ≡ Some b → (plain_name b ≡ f) × (plain_arity b ≡ n)
    at k bs each h is = let found = looked_up k bs f b each is in (found.0, found.1 ∙ sym (eqb-true n k h))

    by_3 : (x : Bool) → (n == 3) ≡ x → cond x (look_up (named plain_3) f) None ≡ Some b → (plain_name b ≡ f) × (plain_arity b ≡ n)
    by_3 true h is = at 3 plain_3 (refl, (refl, tt)) h is
    by_3 false h is = absurd (cc is)

    by_2 : (x : Bool) → (n == 2) ≡ x → cond x (look_up (named plain_2) f) (cond (n == 3) (look_up (named plain_3) f) None) ≡ Some b
        → (plain_name b ≡ f) × (plain_arity b ≡ n)
    by_2 true h is =
        at 2 plain_2
        (refl, (refl, (refl, (refl, (refl, (refl, (refl, (refl, (refl, (refl, (refl, (refl, (refl, (refl, (refl, (refl, (refl, tt))))))))))))))))) h is
    by_2 false h is = by_3 (n == 3) refl is

    by : (x : Bool) → (n == 1) ≡ x
        → cond x (look_up (named plain_1) f) (cond (n == 2) (look_up (named plain_2) f) (cond (n == 3) (look_up (named plain_3) f) None)) ≡ Some b
        → (plain_name b ≡ f) × (plain_arity b ≡ n)
    by true h is = at 1 plain_1 (refl, (refl, (refl, (refl, (refl, (refl, (refl, (refl, tt)))))))) h is
    by false h is = by_2 (n == 2) refl is
