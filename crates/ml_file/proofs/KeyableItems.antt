-- What a declaration's list may have, a key can be made of.
use Rattle.std.proofs.Common.{◌≡◌, ℕ, ◌≤◌, true, ◌&&◌, List, length, refl, sym, ap, ◌∙◌, subst, arith, length-append, eqb-true}
use Rattle.std.specs.Prelude.{codes, nat_le, ◌==◌}
use Rattle.std.specs.Str.{bytes_eq}
use Rattle.std.proofs.lemmas.Bool.{and_parts, leb-true}
use Rattle.ml_key.specs.ItemKeys.{item_head}
use Rattle.ml_search.specs.Bodies.{is_callable}
use Rattle.ml_search.specs.Db.{head_of, body_of, is_allowed, is_tuple, is_stored_clause}
use Rattle.ml_search.specs.Program.{is_of}
use Rattle.ml_term.specs.CanonicalBytes.{bytes_of, bytes_of_all, name_bytes}
use Rattle.ml_term.specs.Keys.{argument, arguments}
use Rattle.ml_term.specs.Tree.{Tree, Trees, variable, integer, atom, compound, no_trees, tree, arity, nodes, nodes_of, is_ground, is_numbered}
use Rattle.ml_term.specs.Valid.{is_valid}
use Rattle.ml_term.specs.declared.declaration.Decl.{Decl}
use Rattle.ml_term.specs.declared.declaration.Kind.{Kind}
use Rattle.ml_term.specs.declared.declaration.Kind.TheVariants.{Relation, Clauses}

-- a node has a byte at least
mutual
  pub nodes_within : (t : Tree) → nodes t ≤ length (bytes_of t)
  nodes_within (variable n) = omega arith
  nodes_within (integer z) = omega arith
  nodes_within (atom f) = omega arith
  nodes_within (compound f ts) = omega (arith, all_nodes_within ts, length-append (name_bytes f) (bytes_of_all ts))

  pub all_nodes_within : (ts : Trees) → nodes_of ts ≤ length (bytes_of_all ts)
  all_nodes_within no_trees = omega arith
  all_nodes_within (tree t ts) = omega (arith, nodes_within t, all_nodes_within ts, length-append (bytes_of t) (bytes_of_all ts))

-- a term of a predicate has as many arguments
arity_is : (f : List ℕ) (n : ℕ) (t : Tree) → is_of f n t ≡ true → arity (arguments t) ≡ n
arity_is f n (variable m) h = absurd (cc h)
arity_is f n (integer z) h = absurd (cc h)
arity_is f n (atom g) h = eqb-true 0 n (and_parts (bytes_eq g f) (0 == n) h).1
arity_is f n (compound g ts) h = eqb-true (arity ts) n (and_parts (bytes_eq g f) (arity ts == n) h).1

-- the head of a term of two arguments is its first one
head_is : (f : List ℕ) (t : Tree) → is_of f 2 t ≡ true → head_of t ≡ argument 1 (arguments t)
head_is f (variable m) h = absurd (cc h)
head_is f (integer z) h = absurd (cc h)
head_is f (atom g) h = absurd (omega (arith, arity_is f 2 (atom g) h))
head_is f (compound g no_trees) h = absurd (omega (arith, arity_is f 2 (compound g no_trees) h))
head_is f (compound g (tree a no_trees)) h = absurd (omega (arith, arity_is f 2 (compound g (tree a no_trees)) h))
head_is f (compound g (tree a (tree b no_trees))) h = refl
head_is f (compound g (tree a (tree b (tree c ts)))) h = absurd (omega (arith, arity_is f 2 (compound g (tree a (tree b (tree c ts)))) h))

-- what is asked of a term whose key is made
pub record IsKeyable (kind : Kind) (n : ℕ) (t : Tree) : Type 0 where
  pub valid : is_valid t ≡ true
  pub has_arguments : arity (arguments (item_head kind t)) ≡ n
  pub small : nodes t ≤ 4096

of_tuple : (decl : Decl) (t : Tree) → is_tuple decl t ≡ true → IsKeyable Relation decl.pred.arity t
of_tuple decl t h =
    let a = is_valid t in
    let b = is_of decl.pred.name decl.pred.arity t in
    let c = is_ground t in
    let d = nat_le (length (bytes_of t)) 4096 in
    let p = and_parts (a && b && c) d h in
    let q = and_parts (a && b) c p.0 in
    let r = and_parts a b q.0 in
    record {
      valid = r.0;
      has_arguments = arity_is decl.pred.name decl.pred.arity t r.1;
      small = omega (arith, nodes_within t, leb-true (length (bytes_of t)) 4096 p.1);
    }

of_clause : (decl : Decl) (t : Tree) → is_stored_clause decl t ≡ true → IsKeyable Clauses decl.pred.arity t
of_clause decl t h =
    let a = is_valid t in
    let b = is_of (codes ":-") 2 t in
    let c = is_of decl.pred.name decl.pred.arity (head_of t) in
    let d = is_callable (body_of t) in
    let e = is_numbered t in
    let f = nat_le (length (bytes_of t)) 4096 in
    let p = and_parts (a && b && c && d && e) f h in
    let q = and_parts (a && b && c && d) e p.0 in
    let r = and_parts (a && b && c) d q.0 in
    let s = and_parts (a && b) c r.0 in
    let u = and_parts a b s.0 in
    record {
      valid = u.0;
      has_arguments = ap (λ x. arity (arguments x)) (sym (head_is (codes ":-") t u.1)) ∙ arity_is decl.pred.name decl.pred.arity (head_of t) s.1;
      small = omega (arith, nodes_within t, leb-true (length (bytes_of t)) 4096 p.1);
    }

-- whatever kind it is of
of_kind : (kind : Kind) (decl : Decl) (t : Tree) → decl.kind ≡ kind → is_allowed decl t ≡ true → IsKeyable kind decl.pred.arity t
of_kind Relation decl t e h = of_tuple decl t (subst (λ k. is_allowed (record decl { kind = k }) t ≡ true) e h)
of_kind Clauses decl t e h = of_clause decl t (subst (λ k. is_allowed (record decl { kind = k }) t ≡ true) e h)

pub keyable : (decl : Decl) (t : Tree) → is_allowed decl t ≡ true → IsKeyable decl.kind decl.pred.arity t
keyable decl t h = of_kind decl.kind decl t refl h
