-- How a predicate stands is what the table of the search makes of its goals.
use Rattle.std.proofs.Common.{◌≡◌, ℕ, suc, Bool, true, false, ◌||◌, ◌&&◌, ◌==◌, not, List, [], ◌∷◌, length, Some, None, refl, sym, ap, ◌∙◌, cond, arith}
use Rattle.std.specs.Prelude.{is_some, Option, option_map, unwrap_or, nat_le, codes}
use Rattle.std.specs.List.{list_any}
use Rattle.std.specs.Str.{bytes_eq}
use Rattle.std.proofs.lemmas.Bool.{ne_eqb}
use Rattle.ml_term.specs.Order.{tree_cmp}
use Rattle.ml_term.specs.Tree.{Tree, variable}
use Rattle.ml_term.specs.declared.declaration.Decl.{Decl}
use Rattle.ml_term.specs.declared.declaration.Kind.{Kind}
use Rattle.ml_search.specs.Names.{look_up}
use Rattle.ml_search.specs.Program.{Clause, Program, place_of, declaration_of, clauses_of}
use Rattle.ml_search.specs.Builtins.{BuiltinResult, with, or_else, type_tests, order_tests, value_tests, builtins_2, builtins_3, test_result, compare_values}
use Rattle.ml_search.specs.Builtins.{builtin, is_plain}
use Rattle.ml_search.specs.Evaluate.{evaluate}
use Rattle.ml_search.specs.Actions.{Procedure, plain_builtin, declared_predicate, program_predicate, unknown_procedure}
use Rattle.ml_search.specs.Procedures.{has_name, store_names, control_names, store_builtins, store_procedure, is_defined, is_unknown, usage_of}
use Rattle.ml_search.specs.Procedures.{program_procedure, procedure_of}
use Rattle.ml_search.specs.Standing.{of_plain, of_store, of_declared, of_program, of_nothing, standing_by, standing, is_nothing, IsPlainGoal, IsStoreGoal}

-- what a table's entry makes doesn't decide whether there is one
some_with : {A B : Type 0} (g : A → B) (o : Option A) → is_some (with g o) ≡ is_some o
some_with g None = refl
some_with g (Some a) = refl

some_of_either : {A : Type 0} (a b : Option A) → is_some (or_else a b) ≡ (is_some a || is_some b)
some_of_either None b = refl
some_of_either (Some x) b = refl

-- whether a table has a name
some_named : {A : Type 0} (es : List (List ℕ × A)) (f : List ℕ) → is_some (look_up es f) ≡ list_any (λ e. bytes_eq e.0 f) es
some_named [] f = refl
some_named (e ∷ es) f = by_test (bytes_eq e.0 f) (some_named es f)
  where
    by_test : (b : Bool) → is_some (look_up es f) ≡ list_any (λ e. bytes_eq e.0 f) es →
        is_some (cond b (Some e.1) (look_up es f)) ≡ (b || list_any (λ e. bytes_eq e.0 f) es)
    by_test true h = refl
    by_test false h = h

-- whether there is a plain built-in doesn't depend on the arguments
pub plain_by_name : (f : List ℕ) (ts : List Tree) → is_some (builtin f ts) ≡ is_plain f (length ts)
plain_by_name f [] = refl
plain_by_name f (t ∷ []) =
    some_with (λ p. test_result (p t)) (look_up type_tests f) ∙ sym (some_with (λ p. test_result (p (variable 0))) (look_up type_tests f))
plain_by_name f (t ∷ u ∷ []) = by_pair t u ∙ sym (by_pair (variable 0) (variable 1))
  where
    by_pair : (t u : Tree) →
        is_some (builtin f (t ∷ u ∷ [])) ≡ (is_some (look_up builtins_2 f) || (is_some (look_up order_tests f) || is_some (look_up value_tests f)))
    by_pair t u =
        let a = with (λ d. d t u) (look_up builtins_2 f) in
        let b = with (λ p. test_result (p (tree_cmp t u))) (look_up order_tests f) in
        let c = with (λ p. compare_values p (evaluate t) (evaluate u)) (look_up value_tests f) in
        some_of_either a (or_else b c)
        ∙ ap (λ x. is_some a || x) (some_of_either b c)
        ∙ ap (λ x. x || (is_some b || is_some c)) (some_with (λ d. d t u) (look_up builtins_2 f))
        ∙ ap (λ x. is_some (look_up builtins_2 f) || (x || is_some c)) (some_with (λ p. test_result (p (tree_cmp t u))) (look_up order_tests f))
        ∙ ap (λ x. is_some (look_up builtins_2 f) || (is_some (look_up order_tests f) || x))
        (some_with (λ p. compare_values p (evaluate t) (evaluate u)) (look_up value_tests f))
plain_by_name f (t ∷ u ∷ v ∷ []) =
    some_with (λ (d : Tree → Tree → Tree → ℕ → BuiltinResult). d t u v) (look_up builtins_3 f)
    ∙ sym (some_with (λ (d : Tree → Tree → Tree → ℕ → BuiltinResult). d (variable 0) (variable 1) (variable 2)) (look_up builtins_3 f))
plain_by_name f (t ∷ u ∷ v ∷ w ∷ ts) = refl

-- no name of a table has this arity
other_arity : (es : List (List ℕ × ℕ)) (f : List ℕ) (n : ℕ) → list_any (λ e. e.1 == n) es ≡ false → has_name es f n ≡ false
other_arity [] f n h = refl
other_arity (e ∷ es) f n h = by_test (bytes_eq e.0 f) (e.1 == n) (list_any (λ e. e.1 == n) es) h (other_arity es f n)
  where
    by_test : (a b c : Bool) → b || c ≡ false → (c ≡ false → has_name es f n ≡ false) → (a && b) || has_name es f n ≡ false
    by_test a true c h k = absurd (cc h)
    by_test true false c h k = k h
    by_test false false c h k = k h

other_store : (f : List ℕ) (n : ℕ) → (1 == n) ≡ false → has_name store_names f n ≡ false
other_store f n e = other_arity store_names f n (rw e refl)

-- the table of the store built-ins has the names that are listed, in another order
same_names : (a b c d e : Bool) →
    (a || (b || (d || (c || (e || false))))) ≡ ((a && true) || ((b && true) || ((c && true) || ((d && true) || ((e && true) || false)))))
same_names true b c d e = refl
same_names false true c d e = refl
same_names false false true true e = refl
same_names false false true false e = refl
same_names false false false true e = refl
same_names false false false false true = refl
same_names false false false false false = refl

-- whether there is a built-in that changes lists doesn't depend on the arguments
pub store_by_name : (program : Program) (f : List ℕ) (ts : List Tree) → is_some (store_procedure program f ts) ≡ has_name store_names f (length ts)
store_by_name program f [] = sym (other_store f 0 refl)
store_by_name program f (t ∷ []) =
    some_with (λ k. k t) (look_up (store_builtins program) f)
    ∙ some_named (store_builtins program) f
    ∙ same_names (bytes_eq (codes "insert_tuple") f) (bytes_eq (codes "delete_tuple") f) (bytes_eq (codes "assertz") f) (bytes_eq (codes "asserta") f)
    (bytes_eq (codes "retract") f)
store_by_name program f (t ∷ u ∷ ts) = sym (other_store f (length (t ∷ u ∷ ts)) (ne_eqb 1 (length (t ∷ u ∷ ts)) (λ h. omega (arith, h))))

-- what a standing tells
stands_plain : (a s : Bool) (o : Option Decl) (k : ℕ) (c : Bool) → standing_by a s o k c ≡ of_plain → a ≡ true
stands_plain true s o k c e = refl
stands_plain false true o k c e = absurd (cc e)
stands_plain false false (Some d) k c e = absurd (cc e)
stands_plain false false None k true e = absurd (cc e)
stands_plain false false None k false e = absurd (cc e)

stands_store : (a s : Bool) (o : Option Decl) (k : ℕ) (c : Bool) → standing_by a s o k c ≡ of_store → (a ≡ false) × (s ≡ true)
stands_store true s o k c e = absurd (cc e)
stands_store false true o k c e = (refl, refl)
stands_store false false (Some d) k c e = absurd (cc e)
stands_store false false None k true e = absurd (cc e)
stands_store false false None k false e = absurd (cc e)

record IsDeclaredSo (a s : Bool) (o : Option Decl) (k : ℕ) (kind : Kind) (d : ℕ) : Type 0 where
  not_plain : a ≡ false
  not_store : s ≡ false
  decl : Decl
  there : o ≡ Some decl
  of_kind : decl.kind ≡ kind
  place : k ≡ d

stands_declared : (a s : Bool) (o : Option Decl) (k : ℕ) (c : Bool) (kind : Kind) (d : ℕ) → standing_by a s o k c ≡ of_declared kind d →
    IsDeclaredSo a s o k kind d
stands_declared true s o k c kind d e = absurd (cc e)
stands_declared false true o k c kind d e = absurd (cc e)
stands_declared false false (Some q) k c kind d e = record { not_plain = refl; not_store = refl; decl = q; there = refl; of_kind = cc e; place = cc e }
stands_declared false false None k true kind d e = absurd (cc e)
stands_declared false false None k false kind d e = absurd (cc e)

stands_program : (a s : Bool) (o : Option Decl) (k : ℕ) (c : Bool) → standing_by a s o k c ≡ of_program → (a ≡ false) × (s ≡ false) × (o ≡ None) × (c ≡ true)
stands_program true s o k c e = absurd (cc e)
stands_program false true o k c e = absurd (cc e)
stands_program false false (Some d) k c e = absurd (cc e)
stands_program false false None k true e = (refl, refl, refl, refl)
stands_program false false None k false e = absurd (cc e)

stands_nothing : (a s : Bool) (o : Option Decl) (k : ℕ) (c : Bool) → standing_by a s o k c ≡ of_nothing → (a ≡ false) × (s ≡ false) × (o ≡ None) × (c ≡ false)
stands_nothing true s o k c e = absurd (cc e)
stands_nothing false true o k c e = absurd (cc e)
stands_nothing false false (Some d) k c e = absurd (cc e)
stands_nothing false false None k true e = absurd (cc e)
stands_nothing false false None k false e = (refl, refl, refl, refl)

there_is : {A : Type 0} (o : Option A) → is_some o ≡ true → (a : A) × (o ≡ Some a)
there_is None e = absurd (cc e)
there_is (Some a) e = (a, refl)

there_is_none : {A : Type 0} (o : Option A) → is_some o ≡ false → o ≡ None
there_is_none None e = refl
there_is_none (Some a) e = absurd (cc e)

some_clauses : (program : Program) (cs : List Clause) → nat_le 1 (length cs) ≡ true → program_procedure program cs ≡ Some (program_predicate cs)
some_clauses program [] e = absurd (cc e)
some_clauses program (c ∷ cs) e = refl

no_clauses : (program : Program) (cs : List Clause) → nat_le 1 (length cs) ≡ false → program_procedure program cs ≡ None
no_clauses program [] e = refl
no_clauses program (c ∷ cs) e = absurd (never (length cs) e)
  where
    never : (n : ℕ) → nat_le 1 (suc n) ≡ false → ⊥
    never n h = grind arith

module _ (program : Program) where
  -- a goal by its four tables
  abbrev by_tables : Option (ℕ → BuiltinResult) → Option Procedure → Option Decl → ℕ → List Clause → Procedure
  by_tables a s o k cs =
      unwrap_or
      (or_else (with plain_builtin a)
      (or_else s (or_else (option_map (λ d. declared_predicate (usage_of program d.kind) k) o) (program_procedure program cs)))) unknown_procedure

  pub standing_is : (f : List ℕ) (n : ℕ)
      →
      standing program f n
      ≡ standing_by (is_plain f n) (has_name store_names f n) (declaration_of program.decls f n) (unwrap_or (place_of program.decls f n) 0)
      (is_defined program f n)
  unfolding standing
  standing_is f n = refl

  pub unknown_stands : (f : List ℕ) (n : ℕ) → is_unknown program f n ≡ not (has_name control_names f n) && is_nothing (standing program f n)
  unknown_stands f n =
      by_parts (has_name control_names f n) (has_name store_names f n) (is_plain f n) (declaration_of program.decls f n) (is_defined program f n)
      (unwrap_or (place_of program.decls f n) 0)
      ∙ ap (λ s. not (has_name control_names f n) && is_nothing s) (sym (standing_is f n))
    where
      by_parts : (c s a : Bool) (o : Option Decl) (d : Bool) (k : ℕ) → not ((((c || s) || a) || is_some o) || d) ≡ not c && is_nothing (standing_by a s o k d)
      by_parts true s a o d k = refl
      by_parts false true true o d k = refl
      by_parts false true false o d k = refl
      by_parts false false true o d k = refl
      by_parts false false false (Some q) d k = refl
      by_parts false false false None true k = refl
      by_parts false false false None false k = refl

  module _ (f : List ℕ) (ts : List Tree) where
    abbrev n : ℕ
    n = length ts

    abbrev place : ℕ
    place = unwrap_or (place_of program.decls f n) 0

    abbrev cs : List Clause
    cs = clauses_of program.clauses f n

    abbrev decl : Option Decl
    decl = declaration_of program.decls f n

    tables_say : procedure_of program f ts ≡ by_tables (builtin f ts) (store_procedure program f ts) decl place cs
    tables_say = refl

    pub plain_goal : standing program f n ≡ of_plain → IsPlainGoal program f ts
    plain_goal e =
        let p = there_is (builtin f ts) (plain_by_name f ts ∙ stands_plain _ _ _ _ _ (sym (standing_is f n) ∙ e)) in
        record { does = p.0; by_name = p.1; is = ap (λ a. by_tables a (store_procedure program f ts) decl place cs) p.1 }

    -- no plain built-in
    unless_plain : is_plain f n ≡ false → procedure_of program f ts ≡ by_tables None (store_procedure program f ts) decl place cs
    unless_plain e = ap (λ a. by_tables a (store_procedure program f ts) decl place cs) (there_is_none (builtin f ts) (plain_by_name f ts ∙ e))

    unless_built_in : is_plain f n ≡ false → has_name store_names f n ≡ false → procedure_of program f ts ≡ by_tables None None decl place cs
    unless_built_in e h =
        unless_plain e ∙ ap (λ s. by_tables None s decl place cs) (there_is_none (store_procedure program f ts) (store_by_name program f ts ∙ h))

    pub declared_goal : (kind : Kind) (d : ℕ) → standing program f n ≡ of_declared kind d →
        procedure_of program f ts ≡ declared_predicate (usage_of program kind) d
    declared_goal kind d e =
        let p = stands_declared _ _ decl place _ kind d (sym (standing_is f n) ∙ e) in
        unless_built_in p.not_plain p.not_store
        ∙ ap (λ o. by_tables None None o place cs) p.there
        ∙ ap (λ q. declared_predicate (usage_of program q) place) p.of_kind
        ∙ ap (declared_predicate (usage_of program kind)) p.place

    pub program_goal : standing program f n ≡ of_program → procedure_of program f ts ≡ program_predicate cs
    program_goal e =
        let p = stands_program _ _ decl place _ (sym (standing_is f n) ∙ e) in
        unless_built_in p.0 p.1 ∙ ap (λ o. by_tables None None o place cs) p.2 ∙ ap (λ k. unwrap_or k unknown_procedure) (some_clauses program cs p.3)

    pub nothing_goal : standing program f n ≡ of_nothing → procedure_of program f ts ≡ unknown_procedure
    nothing_goal e =
        let p = stands_nothing _ _ decl place _ (sym (standing_is f n) ∙ e) in
        unless_built_in p.0 p.1 ∙ ap (λ o. by_tables None None o place cs) p.2 ∙ ap (λ k. unwrap_or k unknown_procedure) (no_clauses program cs p.3)

  pub store_goal : (f : List ℕ) (ts : List Tree) → standing program f (length ts) ≡ of_store → IsStoreGoal program f ts
  store_goal f ts e =
      let p = stands_store _ _ _ _ _ (sym (standing_is f (length ts)) ∙ e) in
      by_arguments ts p.0 p.1
    where
      by_arguments : (us : List Tree) → is_plain f (length us) ≡ false → has_name store_names f (length us) ≡ true → IsStoreGoal program f us
      by_arguments [] a s = absurd (cc (there_is (store_procedure program f []) (store_by_name program f [] ∙ s)).1)
      by_arguments (t ∷ []) a s =
          let p = there_is (store_procedure program f (t ∷ [])) (store_by_name program f (t ∷ []) ∙ s) in
          record {
            argument = t;
            procedure = p.0;
            arguments = refl;
            by_name = p.1;
            is =
                unless_plain f (t ∷ []) a
                ∙ ap (λ k. by_tables None k (declaration_of program.decls f 1) (unwrap_or (place_of program.decls f 1) 0) (clauses_of program.clauses f 1)) p.1;
          }
      by_arguments (t ∷ u ∷ us) a s = absurd (cc (there_is (store_procedure program f (t ∷ u ∷ us)) (store_by_name program f (t ∷ u ∷ us) ∙ s)).1)
