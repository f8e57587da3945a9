-- The names that are reserved, by the number of arguments, are what the search's tables say.
use Rattle.std.proofs.Common.{◌≡◌, ◌≤◌, ℕ, suc, ◌-◌, Bool, true, false, ◌||◌, ◌&&◌, ◌==◌, List, [], ◌∷◌, ◌++◌, Some, None, refl, sym, ap, ◌∙◌, cond}
use Rattle.std.proofs.Common.{arith}
use Rattle.std.specs.Prelude.{is_some, Option, nat_lt}
use Rattle.std.specs.List.{list_all}
use Rattle.std.specs.Str.{bytes_eq}
use Rattle.std.proofs.lemmas.Bool.{and_parts, ltb-true, ne_eqb}
use Rattle.std.proofs.lemmas.List.Folds.{list_any-append}
use Rattle.ml_search.specs.Names.{look_up}
use Rattle.ml_search.specs.Builtins.{with, or_else, type_tests, order_tests, value_tests, builtins_2, builtins_3, test_result, compare_values}
use Rattle.ml_search.specs.Builtins.{is_plain}
use Rattle.ml_search.specs.Evaluate.{evaluate}
use Rattle.ml_search.specs.Procedures.{is_reserved, has_name, control_names, store_names}
use Rattle.ml_search.specs.inside.Reserved.{is_among, names_of, of_arity, reserved_names_0, reserved_names_1, reserved_names_2, reserved_names_3}
use Rattle.ml_term.specs.Order.{tree_cmp}
use Rattle.ml_term.specs.Tree.{Tree, variable}

named_or : (a b c : Bool) → (a && b) || c ≡ cond b (a || c) c
named_or true true c = refl
named_or true false c = refl
named_or false true c = refl
named_or false false c = refl

arity_is : (n : ℕ) (es : List (List ℕ × ℕ)) (f : List ℕ) → has_name es f n ≡ is_among (of_arity n es) f
arity_is n [] f = refl
arity_is n (e ∷ es) f =
    named_or (bytes_eq e.0 f) (e.1 == n) (has_name es f n)
    ∙ ap (λ c. cond (e.1 == n) (bytes_eq e.0 f || c) c) (arity_is n es f)
    ∙ inside (e.1 == n)
  where
    inside : (b : Bool) →
        cond b (bytes_eq e.0 f || is_among (of_arity n es) f) (is_among (of_arity n es) f) ≡ is_among (cond b (e.0 ∷ of_arity n es) (of_arity n es)) f
    inside true = refl
    inside false = refl

table_is : {A B : Type 0} (g : A → B) (es : List (List ℕ × A)) (f : List ℕ) → is_some (with g (look_up es f)) ≡ is_among (names_of es) f
table_is g [] f = refl
table_is g (e ∷ es) f = found (table_is g es f) (bytes_eq e.0 f)
  where
    found : is_some (with g (look_up es f)) ≡ is_among (names_of es) f → (b : Bool) →
        is_some (with g (cond b (Some e.1) (look_up es f))) ≡ (b || is_among (names_of es) f)
    found h true = refl
    found h false = h

some_of_either : {A : Type 0} (a b : Option A) → is_some (or_else a b) ≡ (is_some a || is_some b)
some_of_either None b = refl
some_of_either (Some x) b = refl

in_both : (xs ys : List (List ℕ)) (f : List ℕ) → is_among (xs ++ ys) f ≡ is_among xs f || is_among ys f
in_both xs ys f = list_any-append (λ n. bytes_eq n f) xs ys

by_tables : (f : List ℕ) (n : ℕ) → is_reserved f n ≡ ((is_among (of_arity n control_names) f || is_among (of_arity n store_names) f) || is_plain f n)
by_tables f n =
    ap (λ b. (b || has_name store_names f n) || is_plain f n) (arity_is n control_names f)
    ∙ ap (λ b. (is_among (of_arity n control_names) f || b) || is_plain f n) (arity_is n store_names f)

without_more : (a b : Bool) → ((a || false) || b) ≡ (a || b)
without_more true b = refl
without_more false b = refl

without_any : (a : Bool) → ((a || false) || false) ≡ a
without_any true = refl
without_any false = refl

in_turn : (a b c : Bool) → ((a || b) || c) ≡ (a || (b || c))
in_turn true b c = refl
in_turn false b c = refl

pub none_reserved : (f : List ℕ) → is_among reserved_names_0 f ≡ is_reserved f 0
none_reserved f = sym (by_tables f 0 ∙ without_any (is_among reserved_names_0 f))

pub one_reserved : (f : List ℕ) → is_among reserved_names_1 f ≡ is_reserved f 1
one_reserved f =
    let controls = is_among (of_arity 1 control_names) f in
    let stores = is_among (of_arity 1 store_names) f in
    in_both (of_arity 1 control_names) (of_arity 1 store_names ++ names_of type_tests) f
    ∙ ap (λ b. controls || b) (in_both (of_arity 1 store_names) (names_of type_tests) f)
    ∙ sym (in_turn controls stores (is_among (names_of type_tests) f))
    ∙ sym (by_tables f 1 ∙ ap (λ b. (controls || stores) || b) (table_is (λ (p : Tree → Bool). test_result (p (variable 0))) type_tests f))

two_plain : (f : List ℕ) → is_plain f 2 ≡ (is_among (names_of builtins_2) f || (is_among (names_of order_tests) f || is_among (names_of value_tests) f))
two_plain f =
    let t = variable 0 in
    let u = variable 1 in
    let a = with (λ d. d t u) (look_up builtins_2 f) in
    let b = with (λ p. test_result (p (tree_cmp t u))) (look_up order_tests f) in
    let c = with (λ p. compare_values p (evaluate t) (evaluate u)) (look_up value_tests f) in
    some_of_either a (or_else b c)
    ∙ ap (λ x. is_some a || x) (some_of_either b c)
    ∙ ap (λ x. x || (is_some b || is_some c)) (table_is (λ d. d t u) builtins_2 f)
    ∙ ap (λ x. is_among (names_of builtins_2) f || (x || is_some c)) (table_is (λ p. test_result (p (tree_cmp t u))) order_tests f)
    ∙ ap (λ x. is_among (names_of builtins_2) f || (is_among (names_of order_tests) f || x))
    (table_is (λ p. compare_values p (evaluate t) (evaluate u)) value_tests f)

pub two_reserved : (f : List ℕ) → is_among reserved_names_2 f ≡ is_reserved f 2
two_reserved f =
    let controls = is_among (of_arity 2 control_names) f in
    in_both (of_arity 2 control_names) (names_of builtins_2 ++ names_of order_tests ++ names_of value_tests) f
    ∙ ap (λ b. controls || b) (in_both (names_of builtins_2) (names_of order_tests ++ names_of value_tests) f)
    ∙ ap (λ b. controls || (is_among (names_of builtins_2) f || b)) (in_both (names_of order_tests) (names_of value_tests) f)
    ∙ sym (ap (λ b. controls || b) (two_plain f))
    ∙ sym (by_tables f 2 ∙ without_more controls (is_plain f 2))

pub three_reserved : (f : List ℕ) → is_among reserved_names_3 f ≡ is_reserved f 3
three_reserved f =
    let controls = is_among (of_arity 3 control_names) f in
    in_both (of_arity 3 control_names) (names_of builtins_3) f
    ∙ sym
    (by_tables f 3 ∙ without_more controls (is_plain f 3)
    ∙ ap (λ b. controls || b) (table_is (λ (d : Tree → Tree → Tree → ℕ → _). d (variable 0) (variable 1) (variable 2)) builtins_3 f))

not_named : (es : List (List ℕ × ℕ)) (f : List ℕ) (n : ℕ) → list_all (λ e. nat_lt e.1 4) es ≡ true → 4 ≤ n → has_name es f n ≡ false
not_named [] f n all high = refl
not_named (e ∷ es) f n all high =
    let parts = and_parts (nat_lt e.1 4) _ all in
    let low = ltb-true e.1 4 parts.0 in
    ap (λ b. (bytes_eq e.0 f && b) || has_name es f n) (ne_eqb e.1 n (λ h. omega (arith, h)))
    ∙ never (bytes_eq e.0 f) (has_name es f n)
    ∙ not_named es f n parts.1 high
  where
    never : (a c : Bool) → ((a && false) || c) ≡ c
    never true c = refl
    never false c = refl

not_plain : (f : List ℕ) (m : ℕ) → is_plain f (suc (suc (suc (suc m)))) ≡ false
not_plain f m = refl

-- no predicate of four and more arguments is reserved
pub others_reserved : (f : List ℕ) (n : ℕ) → 4 ≤ n → is_reserved f n ≡ false
others_reserved f n high =
    let controls : has_name control_names f n ≡ false = not_named control_names f n refl high in
    let stores : has_name store_names f n ≡ false = not_named store_names f n refl high in
    let m : ℕ = n - 4 in
    let more : n ≡ suc (suc (suc (suc m))) = omega arith in
    let plain : is_plain f n ≡ false = ap (is_plain f) more ∙ not_plain f m in
    ap (λ b. (b || has_name store_names f n) || is_plain f n) controls
    ∙ ap (λ b. b || is_plain f n) stores
    ∙ plain
