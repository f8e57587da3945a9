-- What a term declares when it is taken apart is what it declares as it is put together.
use Rattle.std.specs.Prelude.{◌≡◌, ◌⊎◌, ℕ, ◌≤◌, nat_le, ℤ, pos, negsuc, Bool, true, false, ◌&&◌, not, cond, IsTrue, List, [], ◌∷◌, ◌++◌, Option, Some, None}
use Rattle.std.specs.Prelude.{MatchOption, option_map, codes}
use Rattle.std.specs.List.{list_all}
use Rattle.std.specs.Str.{bytes_eq}
use Rattle.std.specs.Cmp.Lexicographic.{bytes_decides}
use Rattle.std.proofs.Common.{refl, sym, ap, ◌∙◌, arith, inl, inr, append_assoc}
use Rattle.std.proofs.lemmas.Bool.{and_parts, and_from, leb-true, le-leb}
use Rattle.ml_term.specs.Tree.{Tree, variable, integer, atom, compound, no_trees, tree, compound_1, compound_2}
use Rattle.ml_term.specs.Keys.{are_keys, are_different, default_keys}
use Rattle.ml_term.specs.declared.declaration.Decl.{Decl}
use Rattle.ml_term.specs.declared.declaration.Pred.{Pred}
use Rattle.ml_term.specs.declared.declaration.Kind.{Kind}
use Rattle.ml_term.specs.declared.declaration.Kind.TheVariants.{Relation, Clauses}
use Rattle.ml_search.specs.Errors.{indicator}
use Rattle.ml_search.specs.Procedures.{is_reserved}
use Rattle.ml_reader.specs.Declarations.{kind_name, keys_term, plain_term, keyed_term, Declares}
use Rattle.ml_reader.specs.inside.rules.DeclarationSteps.{DeclarationParts, parts_of_declaration, may_be_declared, if_declarable, kind_by_name, byte_number}
use Rattle.ml_reader.specs.inside.rules.DeclarationSteps.{small_integer, pred_with_arity, pred_by_terms, predicate, in_front, cell_parts, numbers, without_keys}
use Rattle.ml_reader.specs.inside.rules.DeclarationSteps.{with_keys, without_keys_of, with_keys_of, declaration_parts}

module _ {A : Type 0} where
  pub kept_option : (b : Bool) (r : Option A) (x : A) → cond b r None ≡ Some x → (b ≡ true) × (r ≡ Some x)
  kept_option true r x e = (refl, e)
  kept_option false r x e = cc e

  pub same_pred : (x y : A) → Some x ≡ Some y → x ≡ y
  same_pred x y e = cc e

kind_is : (k : Kind) → kind_by_name (kind_name k) ≡ Some k
kind_is Relation = refl
kind_is Clauses = refl

kind_named : (f : List ℕ) (k : Kind) → kind_by_name f ≡ Some k → f ≡ kind_name k
kind_named f k e = by (bytes_eq (codes "relation") f) (bytes_eq (codes "clauses") f) refl refl e
  where
    by : (a b : Bool) → bytes_eq (codes "relation") f ≡ a → bytes_eq (codes "clauses") f ≡ b → cond a (Some Relation) (cond b (Some Clauses) None) ≡ Some k
        → f ≡ kind_name k
    by true b is isn't h = sym ((bytes_decides _ _).0 is) ∙ ap kind_name (same_pred Relation k h)
    by false true is isn't h = sym ((bytes_decides _ _).0 isn't) ∙ ap kind_name (same_pred Clauses k h)
    by false false is isn't h = cc h

small_is : (n : ℕ) → n ≤ 255 → byte_number (pos n) ≡ Some n
small_is n low = ap (λ b. cond b (Some n) None) (le-leb n 255 low)

small_number : (z : ℤ) (n : ℕ) → byte_number z ≡ Some n → (z ≡ pos n) × (n ≤ 255)
small_number (pos m) n e =
    let parts = kept_option _ (Some m) n e in
    let same : m ≡ n = same_pred m n parts.1 in
    let low : m ≤ 255 = leb-true m 255 parts.0 in
    (ap pos same, omega (arith, same, low))
small_number (negsuc m) n e = cc e

small_term : (t : Tree) (n : ℕ) → small_integer t ≡ Some n → (t ≡ integer (pos n)) × (n ≤ 255)
small_term (variable m) n e = cc e
small_term (integer z) n e = let parts = small_number z n e in (ap integer parts.0, parts.1)
small_term (atom f) n e = cc e
small_term (compound f ts) n e = cc e

predicate_is : (f : List ℕ) (n : ℕ) → n ≤ 255 → predicate (indicator f n) ≡ Some (record { name = f; arity = n })
predicate_is f n low = ap (pred_with_arity f) (small_is n low)

named_is : (f : List ℕ) (r : Option ℕ) (p : Pred) → pred_with_arity f r ≡ Some p → (f ≡ p.name) × (r ≡ Some p.arity)
named_is f None p e = cc e
named_is f (Some n) p e = let h = same_pred _ p e in (ap (λ q. q.name) h, ap (λ q. Some q.arity) h)

named_terms : (t u : Tree) (p : Pred) → pred_by_terms t u ≡ Some p → (t ≡ atom p.name) × (u ≡ integer (pos p.arity)) × (p.arity ≤ 255)
named_terms (variable m) u p e = cc e
named_terms (integer z) u p e = cc e
named_terms (atom f) u p e =
    let parts = named_is f (small_integer u) p e in
    let number = small_term u p.arity parts.1 in
    (ap atom parts.0, number.0, number.1)
named_terms (compound f ts) u p e = cc e

pub predicate_spelled : (t : Tree) (p : Pred) → predicate t ≡ Some p → (t ≡ indicator p.name p.arity) × (p.arity ≤ 255)
predicate_spelled (variable m) p e = cc e
predicate_spelled (integer z) p e = cc e
predicate_spelled (atom f) p e = cc e
predicate_spelled (compound f no_trees) p e = cc e
predicate_spelled (compound f (tree t no_trees)) p e = cc e
predicate_spelled (compound f (tree t (tree u no_trees))) p e =
    let parts = kept_option (bytes_eq (codes "/") f) (pred_by_terms t u) p e in
    let name : codes "/" ≡ f = (bytes_decides _ _).0 parts.0 in
    let terms = named_terms t u p parts.1 in
    (ap (λ g. compound_2 g t u) (sym name) ∙ ap (λ v. compound_2 (codes "/") v u) terms.0 ∙ ap (compound_2 (codes "/") (atom p.name)) terms.1, terms.2)
predicate_spelled (compound f (tree t (tree u (tree v ts)))) p e = cc e

all_small : (n : ℕ) (ks : List ℕ) → n ≤ 255 → list_all (λ k. nat_le 1 k && nat_le k n) ks ≡ true → numbers (keys_term ks) ≡ Some ks
all_small n [] low all = refl
all_small n (k ∷ ks) low all =
    let parts = and_parts (nat_le 1 k && nat_le k n) _ all in
    let high : k ≤ n = leb-true k n (and_parts (nat_le 1 k) (nat_le k n) parts.0).1 in
    ap (λ r. in_front r (numbers (keys_term ks))) (small_is k (omega (arith, high, low))) ∙ ap (option_map (λ ks. k ∷ ks)) (all_small n ks low parts.1)

front_is : (a : Option ℕ) (r : Option (List ℕ)) (ks : List ℕ) → in_front a r ≡ Some ks → (k : ℕ) × (js : List ℕ) × (a ≡ Some k) × (r ≡ Some js) × (ks ≡ k ∷ js)
front_is None r ks e = cc e
front_is (Some k) None ks e = cc e
front_is (Some k) (Some js) ks e = (k, js, refl, refl, sym (same_pred (k ∷ js) ks e))

pub numbers_spelled : (t : Tree) (ks : List ℕ) → numbers t ≡ Some ks → t ≡ keys_term ks
numbers_spelled (variable m) ks e = cc e
numbers_spelled (integer z) ks e = cc e
numbers_spelled (atom f) ks e =
    let parts = kept_option (bytes_eq (codes "[]") f) (Some []) ks e in
    ap atom (sym ((bytes_decides (codes "[]") f).0 parts.0)) ∙ ap keys_term (same_pred [] ks parts.1)
numbers_spelled (compound f no_trees) ks e = cc e
numbers_spelled (compound f (tree t no_trees)) ks e = cc e
numbers_spelled (compound f (tree t (tree u no_trees))) ks e =
    let parts = kept_option (bytes_eq (codes ".") f) (in_front (small_integer t) (numbers u)) ks e in
    let name : codes "." ≡ f = (bytes_decides _ _).0 parts.0 in
    let front = front_is (small_integer t) (numbers u) ks parts.1 in
    ap (λ g. compound_2 g t u) (sym name)
    ∙ ap (λ v. compound_2 (codes ".") v u) (small_term t front.0 front.2).0
    ∙ ap (compound_2 (codes ".") (integer (pos front.0))) (numbers_spelled u front.1 front.3)
    ∙ ap keys_term (sym front.4)
numbers_spelled (compound f (tree t (tree u (tree v ts)))) ks e = cc e

fitting_is : (s s' : DeclarationParts) → if_declarable s ≡ Some s' → (s ≡ s') × (may_be_declared s ≡ true)
fitting_is s s' e = let parts = kept_option (may_be_declared s) (Some s) s' e in (same_pred s s' parts.1, parts.0)

fits_declared : (d : Decl) → IsTrue (not (is_reserved d.pred.name d.pred.arity)) → may_be_declared (parts_of_declaration d) ≡ true
fits_declared d free = and_from _ _ d.keyed free

fitting_declared : (d : Decl) → IsTrue (not (is_reserved d.pred.name d.pred.arity)) → if_declarable (parts_of_declaration d) ≡ Some (parts_of_declaration d)
fitting_declared d free = ap (λ b. cond b (Some (parts_of_declaration d)) None) (fits_declared d free)

-- a term that declares something says it
pub said_declared : (t : Tree) (d : Decl) → Declares t d → declaration_parts t ≡ Some (parts_of_declaration d)
said_declared t d h = by h.written
  where
    by : ((t ≡ plain_term d) × (d.keys ≡ default_keys d.pred.arity)) ⊎ (t ≡ keyed_term d) → declaration_parts t ≡ Some (parts_of_declaration d)
    by (inl e) =
        ap declaration_parts e.0
        ∙ ap (λ k. without_keys_of k (indicator d.pred.name d.pred.arity)) (kind_is d.kind)
        ∙ ap (without_keys d.kind) (predicate_is d.pred.name d.pred.arity h.small)
        ∙ ap (λ ks. if_declarable (record { pred = d.pred; kind = d.kind; keys = ks })) (sym e.1)
        ∙ fitting_declared d h.free
    by (inr e) =
        let in_range : list_all (λ k. nat_le 1 k && nat_le k d.pred.arity) d.keys ≡ true = (and_parts _ _ (and_parts _ (are_different d.keys) d.keyed).0).1 in
        ap declaration_parts e
        ∙ ap (λ k. with_keys_of k (indicator d.pred.name d.pred.arity) (keys_term d.keys)) (kind_is d.kind)
        ∙ ap (λ p. with_keys d.kind p (numbers (keys_term d.keys))) (predicate_is d.pred.name d.pred.arity h.small)
        ∙ ap (with_keys d.kind (Some d.pred)) (all_small d.pred.arity d.keys h.small in_range)
        ∙ fitting_declared d h.free

plainly_is : (k : Kind) (r : Option Pred) (s : DeclarationParts) → without_keys k r ≡ Some s → (r ≡ Some s.pred) × (k ≡ s.kind)
    × (s.keys ≡ default_keys s.pred.arity) × (may_be_declared s ≡ true)
plainly_is k None s e = cc e
plainly_is k (Some p) s e =
    let parts = fitting_is _ s e in (
      ap (λ s. Some s.pred) parts.0,
      ap (λ s. s.kind) parts.0,
      sym (ap (λ s. s.keys) parts.0) ∙ ap (λ s. default_keys s.pred.arity) parts.0,
      sym (ap may_be_declared parts.0) ∙ parts.1,
    )

with_keys_is : (k : Kind) (r : Option Pred) (ks : Option (List ℕ)) (s : DeclarationParts) → with_keys k r ks ≡ Some s → (r ≡ Some s.pred) × (k ≡ s.kind)
    × (ks ≡ Some s.keys) × (may_be_declared s ≡ true)
with_keys_is k None ks s e = cc e
with_keys_is k (Some p) None s e = cc e
with_keys_is k (Some p) (Some ks) s e =
    let parts = fitting_is _ s e in
    (ap (λ s. Some s.pred) parts.0, ap (λ s. s.kind) parts.0, ap (λ s. Some s.keys) parts.0, sym (ap may_be_declared parts.0) ∙ parts.1)

free_of : (s : DeclarationParts) → may_be_declared s ≡ true → IsTrue (not (is_reserved s.pred.name s.pred.arity))
free_of s e = (and_parts (are_keys s.pred.arity s.keys) _ e).1

-- and what it says it declares
pub declared_said : (t : Tree) (d : Decl) → declaration_parts t ≡ Some (parts_of_declaration d) → Declares t d
declared_said (variable m) d e = cc e
declared_said (integer z) d e = cc e
declared_said (atom f) d e = cc e
declared_said (compound f no_trees) d e = cc e
declared_said (compound f (tree t no_trees)) d e = by (kind_by_name f) refl e
  where
    by : (k : Option Kind) → kind_by_name f ≡ k → without_keys_of k t ≡ Some (parts_of_declaration d) → Declares (compound_1 f t) d
    by None is h = cc h
    by (Some k) is h =
        let parts = plainly_is k (predicate t) (parts_of_declaration d) h in
        let spelled = predicate_spelled t d.pred parts.0 in record {
          written = inl (ap (λ g. compound_1 g t) (kind_named f k is ∙ ap kind_name parts.1) ∙ ap (compound_1 (kind_name d.kind)) spelled.0, parts.2);
          small = spelled.1;
          free = free_of (parts_of_declaration d) parts.3;
        }
declared_said (compound f (tree t (tree u no_trees))) d e = by (kind_by_name f) refl e
  where
    by : (k : Option Kind) → kind_by_name f ≡ k → with_keys_of k t u ≡ Some (parts_of_declaration d) → Declares (compound_2 f t u) d
    by None is h = cc h
    by (Some k) is h =
        let parts = with_keys_is k (predicate t) (numbers u) (parts_of_declaration d) h in
        let spelled = predicate_spelled t d.pred parts.0 in
        let keys = numbers_spelled u d.keys parts.2 in record {
          written =
              inr (ap (λ g. compound_2 g t u) (kind_named f k is ∙ ap kind_name parts.1)
              ∙ ap (λ v. compound_2 (kind_name d.kind) v u) spelled.0
              ∙ ap (compound_2 (kind_name d.kind) (indicator d.pred.name d.pred.arity)) keys);
          small = spelled.1;
          free = free_of (parts_of_declaration d) parts.3;
        }
declared_said (compound f (tree t (tree u (tree v ts)))) d e = cc e

cell_is : (b : Bool) (t u v w : Tree) → cond {A = Option (Tree × Tree)} b (Some (t, u)) None ≡ Some (v, w) → (b ≡ true) × (t ≡ v) × (u ≡ w)
cell_is b t u v w e =
    let one : Tree × Tree = (t, u) in
    let other : Tree × Tree = (v, w) in
    let parts = kept_option b (Some one) other e in
    let same : one ≡ other = same_pred one other parts.1 in
    (parts.0, ap (λ p. p.0) same, ap (λ p. p.1) same)

-- the numbers of a list whose first element is one
pub first_number : (t u v : Tree) (k : ℕ) → cell_parts t ≡ Some (u, v) → small_integer u ≡ Some k → numbers t ≡ option_map (λ ks. k ∷ ks) (numbers v)
first_number (variable m) u v k e is = cc e
first_number (integer z) u v k e is = cc e
first_number (atom f) u v k e is = cc e
first_number (compound f no_trees) u v k e is = cc e
first_number (compound f (tree t no_trees)) u v k e is = cc e
first_number (compound f (tree t (tree w no_trees))) u v k e is =
    let parts = cell_is _ t w u v e in
    ap (λ b. cond b (in_front (small_integer t) (numbers w)) None) parts.0 ∙ ap (λ x. in_front (small_integer x) (numbers w)) parts.1
    ∙ ap (λ a. in_front a (numbers w)) is ∙ ap (λ x. option_map (λ ks. k ∷ ks) (numbers x)) parts.2
first_number (compound f (tree t (tree w (tree x ts)))) u v k e is = cc e

pub one_number_further : (ns : List ℕ) (k : ℕ) (r : Option (List ℕ))
    → option_map (λ ks. (ns ++ k ∷ []) ++ ks) r ≡ option_map (λ ks. ns ++ ks) (option_map (λ ks. k ∷ ks) r)
one_number_further ns k None = refl
one_number_further ns k (Some ks) = ap Some (append_assoc ns (k ∷ []) ks)

-- what a term says fits
said_fits : (t : Tree) (s : DeclarationParts) → declaration_parts t ≡ Some s → may_be_declared s ≡ true
said_fits (variable m) s e = cc e
said_fits (integer z) s e = cc e
said_fits (atom f) s e = cc e
said_fits (compound f no_trees) s e = cc e
said_fits (compound f (tree t no_trees)) s e = by (kind_by_name f) e
  where
    by : (k : Option Kind) → without_keys_of k t ≡ Some s → may_be_declared s ≡ true
    by None h = cc h
    by (Some k) h = (plainly_is k (predicate t) s h).3
said_fits (compound f (tree t (tree u no_trees))) s e = by (kind_by_name f) e
  where
    by : (k : Option Kind) → with_keys_of k t u ≡ Some s → may_be_declared s ≡ true
    by None h = cc h
    by (Some k) h = (with_keys_is k (predicate t) (numbers u) s h).3
said_fits (compound f (tree t (tree u (tree v ts)))) s e = cc e

-- a term declares something, or nothing
pub data Says (t : Tree) : Type 0 where
  declares_it : (d : Decl) → Declares t d → Says t
  declares_none : ((d : Decl) → Declares t d → ⊥) → Says t

pub says : (t : Tree) → Says t
says t = by (declaration_parts t) refl
  where
    by : (r : Option DeclarationParts) → declaration_parts t ≡ r → Says t
    by None e = declares_none (λ d h. cc (sym e ∙ said_declared t d h))
    by (Some s) e =
        let keyed : are_keys s.pred.arity s.keys ≡ true = (and_parts (are_keys s.pred.arity s.keys) _ (said_fits t s e)).0 in
        let d : Decl = record { pred = s.pred; kind = s.kind; keys = s.keys; keyed = keyed } in
        declares_it d (declared_said t d e)

-- a declaration that says what the term says is the one that it declares, and where it says nothing it declares nothing
pub both_ways : (t : Tree) (r : Option Decl) → option_map parts_of_declaration r ≡ declaration_parts t
    → MatchOption r ((d : Decl) → Declares t d → ⊥) (Declares t)
both_ways t None e = λ d h. cc (e ∙ said_declared t d h)
both_ways t (Some d) e = declared_said t d (sym e)
