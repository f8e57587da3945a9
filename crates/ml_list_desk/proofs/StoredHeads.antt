-- What a stored term's head is.
use Rattle.std.proofs.Common.{◌≡◌, ℕ, true, List, [], ◌∷◌, length, get_or, refl, sym, ap, ◌∙◌, subst, true≢false, arith}
use Rattle.std.specs.Prelude.{codes}
use Rattle.std.proofs.lemmas.Bool.{and_parts, eqb-true}
use Rattle.ml_search.specs.Db.{head_of, is_allowed, is_tuple, is_stored_clause}
use Rattle.ml_search.specs.Program.{is_of}
use Rattle.ml_term.specs.Keys.{argument, arguments}
use Rattle.ml_term.specs.Seen.{seen, all_seen}
use Rattle.ml_term.specs.Tree.{Tree, variable, integer, atom, compound, no_trees, tree, arity, trees_of}
use Rattle.ml_term.specs.Valid.{is_valid, are_valid}
use Rattle.ml_term.specs.declared.declaration.Decl.{Decl}
use Rattle.ml_term.specs.declared.declaration.Kind.{Kind}
use Rattle.ml_term.specs.declared.declaration.Kind.TheVariants.{Relation, Clauses}
use Rattle.ml_term.specs.declared.term.Term.{Term}
use Rattle.ml_list_desk.specs.inside.ItemList.{stored_head}

-- ---- terms of a predicate

pub arity_from_of : (f : List ℕ) (n : ℕ) (t : Tree) → is_of f n t ≡ true → arity (arguments t) ≡ n
arity_from_of f n (variable m) e = absurd (true≢false (sym e))
arity_from_of f n (integer z) e = absurd (true≢false (sym e))
arity_from_of f n (atom g) e = eqb-true 0 n (and_parts _ _ e).1
arity_from_of f n (compound g ts) e = eqb-true (arity ts) n (and_parts _ _ e).1

-- ---- what may be stored

pub tuple_from : (d : Decl) (t : Tree) → d.kind ≡ Relation → is_allowed d t ≡ true → is_tuple d t ≡ true
tuple_from d t is h = by d.kind refl
  where
    by : (k : Kind) → d.kind ≡ k → is_tuple d t ≡ true
    by Relation e = subst (λ b. b ≡ true) (rw e refl) h
    by Clauses e = let both : Relation ≡ Clauses = sym is ∙ e in absurd (cc both)

clause_from : (d : Decl) (t : Tree) → d.kind ≡ Clauses → is_allowed d t ≡ true → is_stored_clause d t ≡ true
clause_from d t is h = by d.kind refl
  where
    by : (k : Kind) → d.kind ≡ k → is_stored_clause d t ≡ true
    by Relation e = let both : Relation ≡ Clauses = sym e ∙ is in absurd (cc both)
    by Clauses e = subst (λ b. b ≡ true) (rw e refl) h

-- the term `:-`(Head, Body) has its head as its first argument
clause_head_is : (f : List ℕ) (t : Tree) → is_of f 2 t ≡ true → head_of t ≡ argument 1 (arguments t)
clause_head_is f (variable m) e = absurd (true≢false (sym e))
clause_head_is f (integer z) e = absurd (true≢false (sym e))
clause_head_is f (atom g) e = absurd (omega (arith, eqb-true 0 2 (and_parts _ _ e).1))
clause_head_is f (compound g no_trees) e = absurd (omega (arith, eqb-true 0 2 (and_parts _ _ e).1))
clause_head_is f (compound g (tree h no_trees)) e = absurd (omega (arith, eqb-true 1 2 (and_parts _ _ e).1))
clause_head_is f (compound g (tree h (tree b no_trees))) e = refl
clause_head_is f (compound g (tree h (tree b (tree c ts)))) e = absurd (omega (arith, eqb-true (arity (tree h (tree b (tree c ts)))) 2 (and_parts _ _ e).1))

-- a clause's term is valid, and so is what is said of its name and its head
clause_parts : (d : Decl) (t : Tree) → is_stored_clause d t ≡ true
    → (is_valid t ≡ true) × ((is_of (codes ":-") 2 t ≡ true) × (is_of d.pred.name d.pred.arity (head_of t) ≡ true))
clause_parts d t h =
    let front = and_parts _ _ (and_parts _ _ (and_parts _ _ (and_parts _ _ h).0).0).0 in
    let first = and_parts _ _ front.0 in
    (first.0, (first.1, front.1))

-- and so of a tuple
pub tuple_parts : (d : Decl) (t : Tree) → is_tuple d t ≡ true → (is_valid t ≡ true) × (is_of d.pred.name d.pred.arity t ≡ true)
tuple_parts d t h = and_parts _ _ (and_parts _ _ (and_parts _ _ h).0).0

clause_term_is : (d : Decl) (t : Tree) → is_stored_clause d t ≡ true → is_of (codes ":-") 2 t ≡ true
clause_term_is d t h = (clause_parts d t h).1.0

pub allowed_valid : (d : Decl) (t : Tree) → is_allowed d t ≡ true → is_valid t ≡ true
allowed_valid d t h = by d.kind refl
  where
    by : (k : Kind) → d.kind ≡ k → is_valid t ≡ true
    by Relation e = (tuple_parts d t (tuple_from d t e h)).0
    by Clauses e = (clause_parts d t (clause_from d t e h)).0

-- ---- the first argument of a clause's term

pub first_seen : (ts : List Term) (d : Term) → length ts ≡ 2 → seen (get_or ts 0 d) ≡ argument 1 (trees_of (all_seen ts))
first_seen [] d e = absurd (omega (arith, e))
first_seen (t ∷ ts) d e = refl

first_valid : (ts : List Term) (d : Term) → length ts ≡ 2 → are_valid (trees_of (all_seen ts)) ≡ true → is_valid (seen (get_or ts 0 d)) ≡ true
first_valid [] d e h = absurd (omega (arith, e))
first_valid (t ∷ ts) d e h = (and_parts _ _ h).0

pub counted : (ts : List Term) → arity (trees_of (all_seen ts)) ≡ length ts
counted [] = refl
counted (t ∷ ts) = omega (arith, counted ts)

two_parts : (d : Decl) (f : List ℕ) (ts : List Term) → d.kind ≡ Clauses → is_allowed d (compound f (trees_of (all_seen ts))) ≡ true → length ts ≡ 2
two_parts d f ts is h =
    let t : Tree = compound f (trees_of (all_seen ts)) in
    sym (counted ts) ∙ arity_from_of (codes ":-") 2 t (clause_term_is d t (clause_from d t is h))

pub clause_part : (d : Decl) (f : List ℕ) (ts : List Term) (e : Term) → d.kind ≡ Clauses → is_allowed d (compound f (trees_of (all_seen ts))) ≡ true
    → seen (get_or ts 0 e) ≡ stored_head d.kind (compound f (trees_of (all_seen ts)))
clause_part d f ts e is h =
    let t : Tree = compound f (trees_of (all_seen ts)) in
    first_seen ts e (two_parts d f ts is h) ∙ sym (clause_head_is (codes ":-") t (clause_term_is d t (clause_from d t is h)))
    ∙ ap (λ k. stored_head k t) (sym is)

pub clause_part_valid : (d : Decl) (f : List ℕ) (ts : List Term) (e : Term) → d.kind ≡ Clauses → is_allowed d (compound f (trees_of (all_seen ts))) ≡ true
    → is_valid (seen (get_or ts 0 e)) ≡ true
clause_part_valid d f ts e is h = first_valid ts e (two_parts d f ts is h) (and_parts _ _ (allowed_valid d (compound f (trees_of (all_seen ts))) h)).1

-- ---- heads of clauses

pub head_of_two : (f : List ℕ) (ts : List Term) (e : Term) → length ts ≡ 2 → seen (get_or ts 0 e) ≡ head_of (compound f (trees_of (all_seen ts)))
head_of_two f [] e h = absurd (omega (arith, h))
head_of_two f (t ∷ []) e h = absurd (omega (arith, h))
head_of_two f (t ∷ u ∷ []) e h = refl
head_of_two f (t ∷ u ∷ v ∷ ts) e h = absurd (omega (arith, h))

-- a compound that has not two arguments is its own head
pub head_of_others : (f : List ℕ) (ts : List Term) → (length ts ≡ 2 → ⊥)
    → compound f (trees_of (all_seen ts)) ≡ head_of (compound f (trees_of (all_seen ts)))
head_of_others f [] h = refl
head_of_others f (t ∷ []) h = refl
head_of_others f (t ∷ u ∷ []) h = absurd (h refl)
head_of_others f (t ∷ u ∷ v ∷ ts) h = refl
