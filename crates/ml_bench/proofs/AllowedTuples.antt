-- A relation may have the tuples that are made for it, and may be asked by the heads that are made for it.
use Rattle.std.proofs.Common.{◌≡◌, ℕ, ◌≤◌, true, List, [], ℤ, length, length-append, refl, sym, subst, arith}
use Rattle.std.specs.Prelude.{nat_le}
use Rattle.std.proofs.lemmas.Slice.Eq.{bytes_eq-Decides}
use Rattle.std.proofs.lemmas.Bool.{and_from, and_parts, le-leb, leb-true}
use Rattle.ml_search.specs.Db.{is_allowed, is_tuple}
use Rattle.ml_search.specs.Program.{is_of}
use Rattle.ml_term.specs.CanonicalBytes.{bytes_of, bytes_of_all}
use Rattle.ml_term.specs.Names.{is_name}
use Rattle.ml_term.specs.Tree.{Tree, integer, no_trees, tree, nodes, is_ground}
use Rattle.ml_term.specs.Valid.{is_in_range, is_valid}
use Rattle.ml_term.specs.declared.declaration.Decl.{Decl}
use Rattle.ml_bench.specs.Tuples.{IsOfWidth, arity_of, term_of}
use Rattle.ml_bench.specs.declared.tuples.Width.{Width}
use Rattle.ml_bench.specs.declared.tuples.Width.TheVariants.{Two, Three}

-- a name has 255 bytes at most
short : (f : List ℕ) → is_name f ≡ true → length f ≤ 255
short f h = leb-true (length f) 255 (and_parts (nat_le (length f) 255) _ h).0

-- a term of a width is one of a predicate with its name and arity
of_width : (w : Width) (f : List ℕ) (a b c : Tree) → is_of f (arity_of w) (term_of w f a b c) ≡ true
of_width Two f a b c = and_from _ _ ((bytes_eq-Decides f f).1 refl) refl
of_width Three f a b c = and_from _ _ ((bytes_eq-Decides f f).1 refl) refl

-- the term that is made for a relation is of its predicate
pub of_predicate : (w : Width) (d : Decl) (a b c : Tree) → IsOfWidth w d → is_of d.pred.name d.pred.arity (term_of w d.pred.name a b c) ≡ true
of_predicate w d a b c h = subst (λ n. is_of d.pred.name n (term_of w d.pred.name a b c) ≡ true) (sym h.arity) (of_width w d.pred.name a b c)

-- it is valid where its arguments are
pub valid : (w : Width) (f : List ℕ) (a b c : Tree) → is_name f ≡ true → is_valid a ≡ true → is_valid b ≡ true → is_valid c ≡ true
    → is_valid (term_of w f a b c) ≡ true
valid Two f a b c n p q r = and_from _ _ (and_from _ _ (and_from _ _ n refl) refl) (and_from _ _ p (and_from _ _ q refl))
valid Three f a b c n p q r = and_from _ _ (and_from _ _ (and_from _ _ n refl) refl) (and_from _ _ p (and_from _ _ q (and_from _ _ r refl)))

-- it has few nodes where its arguments have one each
pub few : (w : Width) (f : List ℕ) (a b c : Tree) → nodes a ≤ 1 → nodes b ≤ 1 → nodes c ≤ 1 → nodes (term_of w f a b c) ≤ 4096
few Two f a b c p q r = omega (arith, p, q)
few Three f a b c p q r = omega (arith, p, q, r)

-- an integer has nine bytes
nine : (x : ℤ) → length (bytes_of (integer x)) ≡ 9
nine x = refl

-- it is a tuple where its arguments are integers
tuple : (w : Width) (d : Decl) (x y z : ℤ) → IsOfWidth w d → is_name d.pred.name ≡ true → is_in_range x ≡ true → is_in_range y ≡ true → is_in_range z ≡ true
    → is_tuple d (term_of w d.pred.name (integer x) (integer y) (integer z)) ≡ true
tuple w d x y z h n p q r =
    let f = d.pred.name in
    let parts = and_from _ _ (valid w f (integer x) (integer y) (integer z) n p q r) (of_predicate w d (integer x) (integer y) (integer z) h) in
    and_from _ _ (and_from _ _ parts (ground w)) (le-leb _ 4096 (small w))
  where
    ground : (v : Width) → is_ground (term_of v d.pred.name (integer x) (integer y) (integer z)) ≡ true
    ground Two = refl
    ground Three = refl

    small : (v : Width) → length (bytes_of (term_of v d.pred.name (integer x) (integer y) (integer z))) ≤ 4096
    small Two =
        let rest = bytes_of_all (tree (integer x) (tree (integer y) no_trees)) in
        omega (
          arith,
          short d.pred.name n,
          length-append d.pred.name rest,
          nine x,
          nine y,
          length-append (bytes_of (integer x)) (bytes_of_all (tree (integer y) no_trees)),
          length-append (bytes_of (integer y)) [],
        )
    small Three =
        let rest = bytes_of_all (tree (integer x) (tree (integer y) (tree (integer z) no_trees))) in
        omega (
          arith,
          short d.pred.name n,
          length-append d.pred.name rest,
          nine x,
          nine y,
          nine z,
          length-append (bytes_of (integer x)) (bytes_of_all (tree (integer y) (tree (integer z) no_trees))),
          length-append (bytes_of (integer y)) (bytes_of_all (tree (integer z) no_trees)),
          length-append (bytes_of (integer z)) [],
        )

pub allowed : (w : Width) (d : Decl) (a b c : Tree) (x y z : ℤ) → a ≡ integer x → b ≡ integer y → c ≡ integer z → IsOfWidth w d → is_name d.pred.name ≡ true
    → is_in_range x ≡ true → is_in_range y ≡ true → is_in_range z ≡ true → is_allowed d (term_of w d.pred.name a b c) ≡ true
allowed w d a b c x y z first second third h n p q r =
    let f = d.pred.name in
    let whole : is_allowed d (term_of w f (integer x) (integer y) (integer z)) ≡ true =
    subst (λ k. is_allowed (record d { kind = k }) (term_of w f (integer x) (integer y) (integer z)) ≡ true) (sym h.kind) (tuple w d x y z h n p q r) in
    let at_first : is_allowed d (term_of w f a (integer y) (integer z)) ≡ true =
    subst (λ u. is_allowed d (term_of w f u (integer y) (integer z)) ≡ true) (sym first) whole in
    let at_second : is_allowed d (term_of w f a b (integer z)) ≡ true = subst (λ u. is_allowed d (term_of w f a u (integer z)) ≡ true) (sym second) at_first in
    subst (λ u. is_allowed d (term_of w f a b u) ≡ true) (sym third) at_second
