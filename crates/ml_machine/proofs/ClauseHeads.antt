-- The heads of a procedure's clauses: each is a goal's term, with the procedure's name and arity.
use Rattle.std.specs.Prelude.{◌≡◌, ℕ, zero, suc, codes, Bool, true, false, ◌&&◌, ◌==◌, List, [], ◌∷◌, length, drop, cond, nat_le}
use Rattle.std.specs.List.{list_all}
use Rattle.std.specs.Str.{bytes_eq}
use Rattle.std.specs.Cmp.Lexicographic.{bytes_decides}
use Rattle.std.proofs.Common.{refl, sym, ap, ◌∙◌, subst, arith}
use Rattle.std.proofs.lemmas.Bool.{and_parts, eqb-true}
use Rattle.ml_term.specs.Tree.{Tree, Trees, variable, integer, atom, compound, no_trees, tree, list_of, trees_of, arity, is_numbered}
use Rattle.ml_term.specs.Limits.{max_arguments}
use Rattle.ml_term.specs.Names.{is_name}
use Rattle.ml_term.specs.Valid.{is_valid, are_valid}
use Rattle.ml_search.specs.Bodies.{goal_term, is_callable}
use Rattle.ml_search.specs.Program.{Clause, Program, is_of, clauses_of, clause_term}
use Rattle.ml_search.specs.WellFormed.{is_clause, is_clause_head, are_undeclared, is_program}
use Rattle.ml_stack.specs.Memories.{CompiledProcedure}
use Rattle.ml_program.specs.LoadedProgram.{IsCompiled}

trees_again : (ts : Trees) → trees_of (list_of ts) ≡ ts
trees_again no_trees = refl
trees_again (tree t ts) = ap (tree t) (trees_again ts)

as_many : (ts : Trees) → length (list_of ts) ≡ arity ts
as_many no_trees = refl
as_many (tree t ts) = omega (arith, as_many ts)

-- a term of a name and some arguments
pub record IsGoalTerm (f : List ℕ) (n : ℕ) (t : Tree) : Type 0 where
  pub us : List Tree
  pub is : t ≡ goal_term f us
  pub many : length us ≡ n

-- a term of a name and arity is one, where each compound has arguments
named : (f : List ℕ) (n : ℕ) (t : Tree) → is_of f n t ≡ true → is_valid t ≡ true → IsGoalTerm f n t
named f n (variable m) e v = absurd (cc)
named f n (integer z) e v = absurd (cc)
named f n (atom g) e v =
    let k = and_parts (bytes_eq g f) (0 == n) e in
    record { us = []; is = ap atom ((bytes_decides g f).0 k.0); many = eqb-true 0 n k.1 }
named f n (compound g no_trees) e v =
    absurd (none (and_parts _ (nat_le 1 0) (and_parts _ (nat_le 0 max_arguments) (and_parts _ true v).0).0).1)
  where
    none : nat_le 1 0 ≡ true → ⊥
    none e = cc
named f n (compound g (tree t ts)) e v =
    let k = and_parts (bytes_eq g f) (arity (tree t ts) == n) e in
    record {
      us = list_of (tree t ts);
      is = ap (λ h. compound h (tree t ts)) ((bytes_decides g f).0 k.0) ∙ ap (compound f) (sym (trees_again (tree t ts)));
      many = as_many (tree t ts) ∙ eqb-true (arity (tree t ts)) n k.1;
    }

-- some clauses are of a predicate, and terms of the language
abbrev Fit : List ℕ → ℕ → List Clause → Type 0
Fit f n [] = Unit {0}
Fit f n (c ∷ cs) = ((is_of f n c.head ≡ true) × (is_clause c ≡ true)) × Fit f n cs

filtered_fit : (f : List ℕ) (n : ℕ) (cs : List Clause) → list_all is_clause cs ≡ true → Fit f n (clauses_of cs f n)
filtered_fit f n [] e = tt
filtered_fit f n (c ∷ cs) e = let k = and_parts (is_clause c) (list_all is_clause cs) e in chosen (is_of f n c.head) refl k.0 (filtered_fit f n cs k.1)
  where
    chosen : (b : Bool) → is_of f n c.head ≡ b → is_clause c ≡ true → Fit f n (clauses_of cs f n) → Fit f n (cond b (c ∷ clauses_of cs f n) (clauses_of cs f n))
    chosen true o k r = ((o, k), r)
    chosen false o k r = r

dropped_fit : (f : List ℕ) (n i : ℕ) (cs : List Clause) → Fit f n cs → Fit f n (drop i cs)
dropped_fit f n zero cs h = h
dropped_fit f n (suc i) [] h = h
dropped_fit f n (suc i) (c ∷ cs) h = dropped_fit f n i cs h.1

valid_arguments : (f : List ℕ) (ts : Trees) → is_valid (compound f ts) ≡ true → are_valid ts ≡ true
valid_arguments f ts v = (and_parts (is_name f && nat_le 1 (arity ts) && nat_le (arity ts) max_arguments) (are_valid ts) v).1

head_valid : (c : Clause) → is_clause c ≡ true → is_valid c.head ≡ true
head_valid c e =
    let whole = (and_parts (is_valid (clause_term c.head c.body)) (is_clause_head c.head)
    (and_parts _ (is_callable c.body) (and_parts _ (is_numbered (clause_term c.head c.body)) e).0).0).0 in
    (and_parts (is_valid c.head) (are_valid (tree c.body no_trees)) (valid_arguments (codes ":-") (tree c.head (tree c.body no_trees)) whole)).0

-- the head of a clause of a procedure
pub head_of_clause : (program : Program) (d : CompiledProcedure) (i : ℕ) (c : Clause) (cs : List Clause) → is_program program ≡ true → IsCompiled program d →
    drop i d.clauses ≡ c ∷ cs → IsGoalTerm d.name d.arity c.head
head_of_clause program d i c cs p k e =
    let all : list_all is_clause program.clauses ≡ true = (and_parts _ (list_all is_clause program.clauses) (and_parts _
    (are_undeclared program.decls program.clauses) p).0).1 in
    let fit : Fit d.name d.arity (c ∷ cs) =
    subst (λ xs. Fit d.name d.arity xs) e
    (dropped_fit d.name d.arity i d.clauses
    (subst (λ xs. Fit d.name d.arity xs) (sym k.clauses) (filtered_fit d.name d.arity program.clauses all))) in
    named d.name d.arity c.head fit.0.0 (head_valid c fit.0.1)
