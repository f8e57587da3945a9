-- Some items of a list, before and after a change of it.
use Rattle.std.specs.Prelude.{◌≡◌, ℕ, zero, suc, Bool, true, false, ◌||◌, List, [], ◌∷◌, Some, cond}
use Rattle.std.specs.List.{filter}
use Rattle.std.proofs.Common.{refl, sym, ap, ◌∙◌}
use Rattle.ml_term.specs.Tree.{Tree}
use Rattle.ml_search.specs.Db.{Id, Item, Db, is_same, is_same_id, items, with_items, with_id}
use Rattle.ml_search.specs.Changes.{insert_by_key, has_term}
use Rattle.ml_isolation.proofs.Ordered.{Each, each_by, each_filter, Ordered}
use Rattle.ml_isolation.proofs.TupleLists.{is_before, IsBefore}
use Rattle.ml_isolation.proofs.SameTerms.{same_terms}

-- some of some
pub filters_commute : {A : Type 0} (p q : A → Bool) (xs : List A) → filter p (filter q xs) ≡ filter q (filter p xs)
filters_commute p q [] = refl
filters_commute p q (x ∷ xs) = by (p x) (q x) refl refl (filters_commute p q xs)
  where
    by : (b c : Bool) → p x ≡ b → q x ≡ c → filter p (filter q xs) ≡ filter q (filter p xs) →
        filter p (cond c (x ∷ filter q xs) (filter q xs)) ≡ filter q (cond b (x ∷ filter p xs) (filter p xs))
    by true true e f h = rw (e, f) (ap (λ z. x ∷ z) h)
    by true false e f h = rw f h
    by false true e f h = rw e h
    by false false e f h = h

pub filter_within : {A : Type 0} (p q : A → Bool) (xs : List A) → ((x : A) → q x ≡ true → p x ≡ true) → filter q (filter p xs) ≡ filter q xs
filter_within p q [] n = refl
filter_within p q (x ∷ xs) n = by (p x) (q x) refl refl (filter_within p q xs n)
  where
    by : (b c : Bool) → p x ≡ b → q x ≡ c → filter q (filter p xs) ≡ filter q xs →
        filter q (cond b (x ∷ filter p xs) (filter p xs)) ≡ cond c (x ∷ filter q xs) (filter q xs)
    by true true e f h = rw f (ap (λ z. x ∷ z) h)
    by true false e f h = rw f h
    by false true e f h = absurd (cc (e, n x f))
    by false false e f h = h

-- what is left out isn't among them
pub filter_left : {A : Type 0} (p q : A → Bool) (xs : List A) → Each (λ x. q x ≡ false → p x ≡ false) xs → filter p (filter q xs) ≡ filter p xs
filter_left p q [] n = refl
filter_left p q (x ∷ xs) n = by (p x) (q x) refl refl (filter_left p q xs n.1)
  where
    by : (b c : Bool) → p x ≡ b → q x ≡ c → filter p (filter q xs) ≡ filter p xs →
        filter p (cond c (x ∷ filter q xs) (filter q xs)) ≡ cond b (x ∷ filter p xs) (filter p xs)
    by true true e f h = rw e (ap (λ z. x ∷ z) h)
    by true false e f h = absurd (cc (e, n.0 f))
    by false true e f h = rw e h
    by false false e f h = h

-- a tuple at its key's place
pub inserted_unseen : (p : Item → Bool) (keys : List ℕ) (i : Item) (js : List Item) → p i ≡ false → filter p (insert_by_key keys i js) ≡ filter p js
inserted_unseen p keys i [] e = rw e refl
inserted_unseen p keys i (j ∷ js) e = by (is_before keys i j) (inserted_unseen p keys i js e)
  where
    by : (b : Bool) → filter p (insert_by_key keys i js) ≡ filter p js →
        filter p (cond b (i ∷ j ∷ js) (j ∷ insert_by_key keys i js)) ≡ cond (p j) (j ∷ filter p js) (filter p js)
    by true h = rw e refl
    by false h = ap (λ z. cond (p j) (j ∷ z) z) h

first_place : (keys : List ℕ) (i : Item) (js : List Item) → Each (IsBefore keys i) js → insert_by_key keys i js ≡ i ∷ js
first_place keys i [] e = refl
first_place keys i (j ∷ js) e = ap (λ b. cond b (i ∷ j ∷ js) (j ∷ insert_by_key keys i js)) e.0

pub inserted_seen : (p : Item → Bool) (keys : List ℕ) (i : Item) (js : List Item) → p i ≡ true → Ordered (IsBefore keys) js →
    ((j k : Item) → IsBefore keys i j → IsBefore keys j k → IsBefore keys i k)
    → filter p (insert_by_key keys i js) ≡ insert_by_key keys i (filter p js)
inserted_seen p keys i [] e o through = rw e refl
inserted_seen p keys i (j ∷ js) e o through = by (is_before keys i j) (p j) refl refl (inserted_seen p keys i js e o.1 through)
  where
    by : (b c : Bool) → is_before keys i j ≡ b → p j ≡ c → filter p (insert_by_key keys i js) ≡ insert_by_key keys i (filter p js) →
        filter p (cond b (i ∷ j ∷ js) (j ∷ insert_by_key keys i js)) ≡ insert_by_key keys i (cond c (j ∷ filter p js) (filter p js))
    by true true h f rest = rw (e, f, h) refl
    by true false h f rest =
        rw (e, f)
        (sym
        (first_place keys i (filter p js) (each_filter (IsBefore keys i) p js (each_by (IsBefore keys j) (IsBefore keys i) js (λ k g. through j k h g) o.0))))
    by false true h f rest = rw (f, h) (ap (λ z. j ∷ z) rest)
    by false false h f rest = rw f rest

-- whether a term is there, where terms of its kind are seen
pub term_there : (f : Tree → Bool) (t : Tree) (is : List Item) → f t ≡ true → has_term t (filter (λ i. f i.term) is) ≡ has_term t is
term_there f t [] e = refl
term_there f t (i ∷ is) e = by (f i.term) (is_same i.term t) refl refl (term_there f t is e)
  where
    seen : is_same i.term t ≡ true → f i.term ≡ true
    seen h = ap f (same_terms i.term t h) ∙ e

    by : (b c : Bool) → f i.term ≡ b → is_same i.term t ≡ c → has_term t (filter (λ i. f i.term) is) ≡ has_term t is →
        has_term t (cond b (i ∷ filter (λ i. f i.term) is) (filter (λ i. f i.term) is)) ≡ (c || has_term t is)
    by true c g h rest = rw h (ap (λ z. c || z) rest)
    by false true g h rest = absurd (cc (g, seen h))
    by false false g h rest = rest

-- the item with an id, where all items with it are seen
pub id_there : (p : Item → Bool) (a : Id) (is : List Item) → Each (λ j. is_same_id j.id a ≡ true → p j ≡ true) is → with_id a (filter p is) ≡ with_id a is
id_there p a [] e = refl
id_there p a (i ∷ is) e = by (p i) (is_same_id i.id a) refl refl (id_there p a is e.1)
  where
    by : (b c : Bool) → p i ≡ b → is_same_id i.id a ≡ c → with_id a (filter p is) ≡ with_id a is →
        with_id a (cond b (i ∷ filter p is) (filter p is)) ≡ cond c (Some i) (with_id a is)
    by true c g h rest = rw h (ap (λ z. cond c (Some i) z) rest)
    by false true g h rest = absurd (cc (g, e.0 h))
    by false false g h rest = rest

-- the list of a declaration after another list was put for one
pub list_with : (P : List Item → Type 0) (db : Db) (d : ℕ) (js : List Item) (k : ℕ) → (k ≡ d → P js) → P (items db k) → P (items (with_items db d js) k)
list_with P [] d js k h e = e
list_with P (is ∷ db) zero js zero h e = h refl
list_with P (is ∷ db) zero js (suc k) h e = e
list_with P (is ∷ db) (suc d) js zero h e = e
list_with P (is ∷ db) (suc d) js (suc k) h e = list_with P db d js k (λ q. h (ap suc q)) e
