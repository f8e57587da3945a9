-- The list of a valid operation is that of its predicate's declaration, and may hold what is to be put there.
use Rattle.std.proofs.Common.{◌≡◌, ℕ, zero, suc, ◌<◌, Bool, true, false, ◌&&◌, List, [], ◌∷◌, length, get_or, refl, sym, ap, ◌∙◌, subst, arith, true≢false}
use Rattle.std.specs.Prelude.{Some, is_some, slice_get, slice_set}
use Rattle.std.proofs.lemmas.Bool.{and_parts}
use Rattle.ml_list_desk.specs.inside.ItemList.{ItemList}
use Rattle.ml_list_desk.specs.inside.Standing.{decls_of}
use Rattle.ml_list_desk.proofs.CarriedOut.{declared_place, IsDeclared}
use Rattle.ml_list_desk.proofs.Opening.{decl_at}
use Rattle.ml_search.specs.Db.{head_of, is_stored_clause, is_tuple}
use Rattle.ml_search.specs.Operations.{declaration_for}
use Rattle.ml_search.specs.Program.{arity_of, holds_of, is_clause_list, is_relation, name_of, place_of}
use Rattle.ml_term.specs.Tree.{Tree}
use Rattle.ml_term.specs.declared.declaration.Decl.{Decl}
use Rattle.ml_term.specs.declared.declaration.Kind.{Kind}
use Rattle.ml_term.specs.declared.declaration.Kind.TheVariants.{Clauses, Relation}

-- what is read at a place stands there
pub stands_there : {A : Type 0} (xs : List A) (i : ℕ) (x : A) → i < length xs → x ≡ get_or xs i x → slice_get xs i ≡ Some x
stands_there [] i x h e = absurd (omega arith)
stands_there (y ∷ xs) zero x h e = ap Some (sym e)
stands_there (y ∷ xs) (suc i) x h e = stands_there xs i x (omega arith) e

relation_is : (d : Decl) → is_relation d ≡ true → d.kind ≡ Relation
relation_is d e = by d.kind refl
  where
    by : (k : Kind) → d.kind ≡ k → d.kind ≡ Relation
    by Relation q = q
    by Clauses q = let no : is_relation d ≡ false = rw q refl in absurd (true≢false (sym e ∙ no))

clauses_are : (d : Decl) → is_clause_list d ≡ true → d.kind ≡ Clauses
clauses_are d e = by d.kind refl
  where
    by : (k : Kind) → d.kind ≡ k → d.kind ≡ Clauses
    by Clauses q = q
    by Relation q = let no : is_clause_list d ≡ false = rw q refl in absurd (true≢false (sym e ∙ no))

pub is_declared : (ds : List Decl) (f : List ℕ) (n : ℕ) (p : Decl → Bool) → (d : IsDeclared ds f n p) → is_some (place_of ds f n) ≡ true
is_declared ds f n p d = ap is_some d.found

pub as_many_decls : (lists : List ItemList) → length (decls_of lists) ≡ length lists
as_many_decls [] = refl
as_many_decls (l ∷ lists) = ap suc (as_many_decls lists)

module _ (decls : List Decl) (lists : List ItemList) (f : List ℕ) (n : ℕ) (p : Decl → Bool) (d : ℕ) (l : ItemList) where
  -- a test that holds of the declaration of a predicate holds of its list's declaration
  pub holds_there : decls_of lists ≡ decls → IsDeclared decls f n p → place_of decls f n ≡ Some d → slice_get lists d ≡ Some l → p l.decl ≡ true
  holds_there e w q at =
      let here : slice_get decls d ≡ Some l.decl = ap (λ ds. slice_get ds d) (sym e) ∙ decl_at lists d l at in
      let found : place_of decls f n ≡ Some w.place = w.found in
      let there : slice_get decls w.place ≡ Some w.decl = w.there in
      let place : w.place ≡ d = cc in
      let same : Some w.decl ≡ Some l.decl = sym there ∙ (ap (slice_get decls) place ∙ here) in
      let decl : w.decl ≡ l.decl = cc in
      subst (λ q. p q ≡ true) decl w.holds

-- a relation may hold the tuple
pub record IsRelationOf (l : ItemList) (t : Tree) : Type 0 where
  pub relation : l.decl.kind ≡ Relation
  pub tuple : is_tuple l.decl t ≡ true

pub relation_there : (decls : List Decl) (lists : List ItemList) (t : Tree) (d : ℕ) (l : ItemList) → decls_of lists ≡ decls
    → holds_of (λ q. is_relation q && is_tuple q t) (declaration_for decls t) ≡ true → place_of decls (name_of t) (arity_of t) ≡ Some d
    → slice_get lists d ≡ Some l → IsRelationOf l t
relation_there decls lists t d l e v q at =
    let p : Decl → Bool = λ k. is_relation k && is_tuple k t in
    let parts = and_parts (is_relation l.decl) (is_tuple l.decl t) (holds_there decls lists (name_of t) (arity_of t) p d l e
    (declared_place decls (name_of t) (arity_of t) p v) q at) in
    record { relation = relation_is l.decl parts.0; tuple = parts.1 }

-- a list of clauses may hold the clause
pub record IsClauseListOf (l : ItemList) (t : Tree) : Type 0 where
  pub clauses : l.decl.kind ≡ Clauses
  pub clause : is_stored_clause l.decl t ≡ true

pub clauses_there : (decls : List Decl) (lists : List ItemList) (t : Tree) (d : ℕ) (l : ItemList) → decls_of lists ≡ decls
    → holds_of (λ q. is_clause_list q && is_stored_clause q t) (declaration_for decls (head_of t)) ≡ true
    → place_of decls (name_of (head_of t)) (arity_of (head_of t)) ≡ Some d
    → slice_get lists d ≡ Some l → IsClauseListOf l t
clauses_there decls lists t d l e v q at =
    let p : Decl → Bool = λ k. is_clause_list k && is_stored_clause k t in
    let parts =
    and_parts (is_clause_list l.decl) (is_stored_clause l.decl t)
    (holds_there decls lists (name_of (head_of t)) (arity_of (head_of t)) p d l e (declared_place decls (name_of (head_of t)) (arity_of (head_of t)) p v) q
    at) in
    record { clauses = clauses_are l.decl parts.0; clause = parts.1 }

-- and the place is that of a list
pub place_within : (decls : List Decl) (lists : List ItemList) (d : ℕ) → decls_of lists ≡ decls → d < length decls → d < length lists
place_within decls lists d e h = omega (arith, ap length e, as_many_decls lists)

-- a list that is put where it was
pub put_back : (lists : List ItemList) (d : ℕ) (l : ItemList) → slice_get lists d ≡ Some l → slice_set lists d l ≡ lists
put_back [] d l e = absurd (cc e)
put_back (k ∷ lists) zero l e = let q : k ≡ l = cc in ap (λ x. x ∷ lists) (sym q)
put_back (k ∷ lists) (suc d) l e = ap (λ ls. k ∷ ls) (put_back lists d l e)
