-- The lists with which a history begins are lists.
use Rattle.std.specs.Prelude.{◌≡◌, ℕ, suc, ◌+◌, ◌<◌, ◌==◌, Bool, true, false, List, [], ◌∷◌, Some, None, slice_get, cond}
use Rattle.std.specs.List.{list_all, cons_option}
use Rattle.std.specs.declared.cmp.Ordering.{Ordering}
use Rattle.std.specs.declared.cmp.Ordering.TheVariants.{Less, Equal, Greater}
use Rattle.std.proofs.Common.{refl, sym, ap, ◌∙◌, subst, arith}
use Rattle.std.proofs.lemmas.Bool.{and_parts, and_from, lt-ltb, eqb-true}
use Rattle.ml_term.specs.Tree.{Tree}
use Rattle.ml_term.specs.Keys.{tuple_cmp}
use Rattle.ml_term.specs.declared.declaration.Decl.{Decl}
use Rattle.ml_term.specs.declared.declaration.Kind.{Kind}
use Rattle.ml_term.specs.declared.declaration.Kind.TheVariants.{Relation, Clauses}
use Rattle.ml_search.specs.Program.{holds_of}
use Rattle.ml_search.specs.Db.{at, id_cmp, is_less, is_allowed, is_list_of, is_db, is_placed, is_committed, load_list_from, load_lists}
use Rattle.ml_search.specs.Loading.{are_items, with_tuple, in_key_order, terms_for, first_list, first_lists_from, first_lists, first_db}
use Rattle.ml_isolation.specs.Places.{is_below, are_below, AreBelow}
use Rattle.ml_isolation.proofs.Ordered.{Each, each_by, Ordered, ordered_weaker}
use Rattle.ml_isolation.proofs.TermOrders.{key_total, less_through, not_less_turned, less_is_not_equal}
use Rattle.ml_isolation.proofs.TupleLists.{IsBefore}
use Rattle.ml_isolation.proofs.ClauseLists.{IsEarlier, Differs, rising_clauses}
use Rattle.ml_isolation.proofs.DeclaredLists.{whole_of}

-- tuples in the order of their keys
abbrev IsLess : List ℕ → Tree → Tree → Type 0
IsLess keys t u = is_less (tuple_cmp keys t u) ≡ true

greater_turned : (keys : List ℕ) (t u : Tree) → tuple_cmp keys t u ≡ Greater → IsLess keys u t
greater_turned keys t u e =
    not_less_turned (tuple_cmp keys) (key_total keys) t u (ap is_less e) (λ q. let r : Greater ≡ Equal = sym e ∙ q in absurd (cc r))

each_with_tuple : (P : Tree → Type 0) (keys : List ℕ) (t : Tree) (us : List Tree) → P t → Each P us → Each P (with_tuple keys t us)
each_with_tuple P keys t [] p e = (p, tt)
each_with_tuple P keys t (u ∷ us) p e = chosen (tuple_cmp keys t u) refl (each_with_tuple P keys t us p e.1)
  where
    chosen : (o : Ordering) → tuple_cmp keys t u ≡ o → Each P (with_tuple keys t us) → Each P (with_tuple keys t (u ∷ us))
    chosen Less q r = rw q (p, e)
    chosen Equal q r = rw q e
    chosen Greater q r = rw q (e.0, r)

ordered_with_tuple : (keys : List ℕ) (t : Tree) (us : List Tree) → Ordered (IsLess keys) us → Ordered (IsLess keys) (with_tuple keys t us)
ordered_with_tuple keys t [] o = (tt, tt)
ordered_with_tuple keys t (u ∷ us) o = chosen (tuple_cmp keys t u) refl (ordered_with_tuple keys t us o.1)
  where
    chosen : (r : Ordering) → tuple_cmp keys t u ≡ r → Ordered (IsLess keys) (with_tuple keys t us) → Ordered (IsLess keys) (with_tuple keys t (u ∷ us))
    chosen Less q r =
        let l : IsLess keys t u = ap is_less q in
        rw q ((l, each_by (IsLess keys u) (IsLess keys t) us (λ v h. less_through (tuple_cmp keys) (key_total keys) t u v l h) o.0), o)
    chosen Equal q r = rw q o
    chosen Greater q r = rw q (each_with_tuple (IsLess keys u) keys t us (greater_turned keys t u q) o.0, r)

pub each_in_order : (P : Tree → Type 0) (keys : List ℕ) (ts : List Tree) → Each P ts → Each P (in_key_order keys ts)
each_in_order P keys [] e = tt
each_in_order P keys (t ∷ ts) e = each_with_tuple P keys t (in_key_order keys ts) e.0 (each_in_order P keys ts e.1)

ordered_in_order : (keys : List ℕ) (ts : List Tree) → Ordered (IsLess keys) (in_key_order keys ts)
ordered_in_order keys [] = tt
ordered_in_order keys (t ∷ ts) = ordered_with_tuple keys t (in_key_order keys ts) (ordered_in_order keys ts)

-- loaded items
each_loaded : (P : Tree → Type 0) (n : ℕ) (ts : List Tree) → Each P ts → Each (λ i. P i.term) (load_list_from n ts)
each_loaded P n [] e = tt
each_loaded P n (t ∷ ts) e = (e.0, each_loaded P (1 + n) ts e.1)

ordered_loaded : (keys : List ℕ) (n : ℕ) (ts : List Tree) → Ordered (IsLess keys) ts → Ordered (IsBefore keys) (load_list_from n ts)
ordered_loaded keys n [] o = tt
ordered_loaded keys n (t ∷ ts) o = (each_loaded (IsLess keys t) (1 + n) ts o.0, ordered_loaded keys (1 + n) ts o.1)

earlier_loaded : (m n : ℕ) (t : Tree) (ts : List Tree) → m < n →
    Each (IsEarlier (record { id = record { place = at 0; change = m }; term = t })) (load_list_from n ts)
earlier_loaded m n t [] l = tt
earlier_loaded m n t (u ∷ ts) l = (rw (lt-ltb m n l) refl, earlier_loaded m (1 + n) t ts (omega (arith, l)))

rising_loaded : (n : ℕ) (ts : List Tree) → Ordered IsEarlier (load_list_from n ts)
rising_loaded n [] = tt
rising_loaded n (t ∷ ts) = (earlier_loaded n (1 + n) t ts (omega arith), rising_loaded (1 + n) ts)

-- the list of a declaration
loaded_list : (q : Decl) (k : Kind) → q.kind ≡ k → (ts : List Tree) → Each (λ t. is_allowed q t ≡ true) ts →
    is_list_of q (load_list_from 0 (first_list k q.keys ts)) ≡ true
loaded_list q Relation e ts a =
    let us = in_key_order q.keys ts in
    whole_of q Relation e (load_list_from 0 us) (each_loaded (λ t. is_allowed q t ≡ true) 0 us (each_in_order (λ t. is_allowed q t ≡ true) q.keys ts a))
    (ordered_loaded q.keys 0 us (ordered_in_order q.keys ts))
loaded_list q Clauses e ts a =
    let is = load_list_from 0 ts in
    let rising = rising_loaded 0 ts in
    whole_of q Clauses e is (each_loaded (λ t. is_allowed q t ≡ true) 0 ts a)
    (rising_clauses is rising
    (ordered_weaker IsEarlier Differs is (λ i j h. less_is_not_equal (id_cmp i.id j.id) h) rising))

-- the terms that are given for a declaration
terms_allowed : (ds : List Decl) (q : Decl) (d : ℕ) (es : List (ℕ × Tree)) → slice_get ds d ≡ Some q → are_items ds es ≡ true →
    Each (λ t. is_allowed q t ≡ true) (terms_for d es)
terms_allowed ds q d [] s h = tt
terms_allowed ds q d (e ∷ es) s h =
    let p = and_parts (holds_of (λ x. is_allowed x e.1) (slice_get ds e.0)) (are_items ds es) h in
    chosen (e.0 == d) refl (terms_allowed ds q d es s p.1) p.0
  where
    chosen : (b : Bool) → (e.0 == d) ≡ b → Each (λ t. is_allowed q t ≡ true) (terms_for d es) → holds_of (λ x. is_allowed x e.1) (slice_get ds e.0) ≡ true →
        Each (λ t. is_allowed q t ≡ true) (cons_option (cond b (Some e.1) None) (terms_for d es))
    chosen true f r a =
        let g : slice_get ds e.0 ≡ Some q = ap (slice_get ds) (eqb-true e.0 d f) ∙ s in
        (subst (λ z. holds_of (λ x. is_allowed x e.1) z ≡ true) g a, r)
    chosen false f r a = r

module _ (es : List (ℕ × Tree)) where
  lists_loaded : (d : ℕ) (qs : List Decl) → ((j : ℕ) (q : Decl) → slice_get qs j ≡ Some q → Each (λ t. is_allowed q t ≡ true) (terms_for (d + j) es)) →
      is_db qs (load_lists (first_lists_from d qs es)) ≡ true
  lists_loaded d [] f = refl
  lists_loaded d (q ∷ qs) f =
      let here : d + 0 ≡ d = omega arith in
      and_from _ _ (loaded_list q q.kind refl (terms_for d es) (subst (λ n. Each (λ t. is_allowed q t ≡ true) (terms_for n es)) here (f 0 q refl)))
      (lists_loaded (1 + d) qs (λ j x e.
      let there : d + suc j ≡ (1 + d) + j = omega arith in
      subst (λ n. Each (λ t. is_allowed x t ≡ true) (terms_for n es)) there (f (suc j) x e)))

pub first_is_db : (ds : List Decl) (es : List (ℕ × Tree)) → are_items ds es ≡ true → is_db ds (first_db ds es) ≡ true
first_is_db ds es h =
    lists_loaded es 0 ds (λ j q e.
    let same : j ≡ 0 + j = omega arith in
    subst (λ n. Each (λ t. is_allowed q t ≡ true) (terms_for n es)) same (terms_allowed ds q j es e h))

-- the places of loaded items
list_loaded_placed : (n : ℕ) (ts : List Tree) → list_all (λ i. is_placed i.id.place) (load_list_from n ts) ≡ true
list_loaded_placed n [] = refl
list_loaded_placed n (t ∷ ts) = list_loaded_placed (1 + n) ts

lists_loaded_placed : (tss : List (List Tree)) → is_committed (load_lists tss) ≡ true
lists_loaded_placed [] = refl
lists_loaded_placed (ts ∷ tss) = and_from _ _ (list_loaded_placed 0 ts) (lists_loaded_placed tss)

list_loaded_below : (n : ℕ) (ts : List Tree) → list_all (λ i. is_below 1 i.id.place) (load_list_from n ts) ≡ true
list_loaded_below n [] = refl
list_loaded_below n (t ∷ ts) = list_loaded_below (1 + n) ts

lists_loaded_below : (tss : List (List Tree)) → are_below 1 (load_lists tss) ≡ true
lists_loaded_below [] = refl
lists_loaded_below (ts ∷ tss) = and_from _ _ (list_loaded_below 0 ts) (lists_loaded_below tss)

pub first_is_committed : (ds : List Decl) (es : List (ℕ × Tree)) → is_committed (first_db ds es) ≡ true
first_is_committed ds es = lists_loaded_placed (first_lists ds es)

pub first_is_below : (ds : List Decl) (es : List (ℕ × Tree)) → AreBelow 1 (first_db ds es)
first_is_below ds es = lists_loaded_below (first_lists ds es)
