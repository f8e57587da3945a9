-- Whether an item is there after one change of a list.
use Rattle.std.specs.Prelude.{◌≡◌, ℕ, zero, suc, Bool, true, false, ◌||◌, not, List, [], ◌∷◌, ◌++◌, slice_get, Some, None, is_some, cond}
use Rattle.std.proofs.Common.{refl, sym, ap, ◌∙◌, subst}
use Rattle.ml_term.specs.Tree.{Tree}
use Rattle.ml_search.specs.Db.{Id, Item, Db, is_same, is_same_id, items, with_items, with_id}
use Rattle.ml_search.specs.Changes.{insert_by_key, has_term, without_term, without_id}
use Rattle.ml_asking.proofs.ClauseIds.{same_id}
use Rattle.ml_isolation.proofs.TermOrders.{same_term}
use Rattle.ml_isolation.proofs.TupleLists.{is_before}
use Rattle.ml_isolation.proofs.SameTerms.{same_terms}

-- the list of a declaration, if there is one, after it was replaced
pub list_exists : (db : Db) (n : ℕ) (js : List Item) (d : ℕ) → is_some (slice_get db d) ≡ true → is_some (slice_get (with_items db n js) d) ≡ true
list_exists [] n js d h = h
list_exists (is ∷ db) zero js zero h = refl
list_exists (is ∷ db) zero js (suc d) h = h
list_exists (is ∷ db) (suc n) js zero h = h
list_exists (is ∷ db) (suc n) js (suc d) h = list_exists db n js d h

pub list_replaced : (db : Db) (d : ℕ) (js : List Item) → is_some (slice_get db d) ≡ true → items (with_items db d js) d ≡ js
list_replaced [] d js h = absurd (cc h)
list_replaced (is ∷ db) zero js h = refl
list_replaced (is ∷ db) (suc d) js h = list_replaced db d js h

-- a tuple that is put
pub put_there : (keys : List ℕ) (i : Item) (js : List Item) → has_term i.term (insert_by_key keys i js) ≡ true
put_there keys i [] = rw (same_term i.term) refl
put_there keys i (j ∷ js) = by (is_before keys i j) (is_same j.term i.term) (put_there keys i js)
  where
    by : (b c : Bool) → has_term i.term (insert_by_key keys i js) ≡ true → has_term i.term (cond b (i ∷ j ∷ js) (j ∷ insert_by_key keys i js)) ≡ true
    by true c h = rw (same_term i.term) refl
    by false c h = later (is_same j.term i.term) (has_term i.term (insert_by_key keys i js)) h
      where
        later : (b c : Bool) → c ≡ true → (b || c) ≡ true
        later true c e = refl
        later false c e = e

skipped : (a b c : Bool) → a ≡ false → (a || (b || c)) ≡ (b || c)
skipped a b c e = rw e refl

pub put_other : (keys : List ℕ) (i : Item) (t : Tree) (js : List Item) → is_same i.term t ≡ false → has_term t (insert_by_key keys i js) ≡ has_term t js
put_other keys i t [] e = rw e refl
put_other keys i t (j ∷ js) e = by (is_before keys i j) (put_other keys i t js e)
  where
    by : (b : Bool) → has_term t (insert_by_key keys i js) ≡ has_term t js →
        has_term t (cond b (i ∷ j ∷ js) (j ∷ insert_by_key keys i js)) ≡ (is_same j.term t || has_term t js)
    by true h = skipped (is_same i.term t) (is_same j.term t) (has_term t js) e
    by false h = ap (λ z. is_same j.term t || z) h

-- a tuple that is taken out
pub taken_gone : (t : Tree) (js : List Item) → has_term t (without_term t js) ≡ false
taken_gone t [] = refl
taken_gone t (j ∷ js) = by (is_same j.term t) refl (taken_gone t js)
  where
    by : (b : Bool) → is_same j.term t ≡ b → has_term t (without_term t js) ≡ false →
        has_term t (cond (not b) (j ∷ without_term t js) (without_term t js)) ≡ false
    by true e h = h
    by false e h = rw e h

pub taken_other : (u t : Tree) (js : List Item) → is_same u t ≡ false → has_term t (without_term u js) ≡ has_term t js
taken_other u t [] e = refl
taken_other u t (j ∷ js) e = by (is_same j.term u) (is_same j.term t) refl refl (taken_other u t js e)
  where
    by : (b c : Bool) → is_same j.term u ≡ b → is_same j.term t ≡ c → has_term t (without_term u js) ≡ has_term t js →
        has_term t (cond (not b) (j ∷ without_term u js) (without_term u js)) ≡ (c || has_term t js)
    by true true f g h =
        let s : is_same u t ≡ true = subst (λ z. is_same z t ≡ true) (same_terms j.term u f) g in
        let both : true ≡ false = sym s ∙ e in absurd (cc both)
    by true false f g h = h
    by false c f g h = rw g (ap (λ z. c || z) h)

-- a clause by its id
pub first_there : (i : Item) (a : Id) (js : List Item) → is_same_id i.id a ≡ true → is_some (with_id a (i ∷ js)) ≡ true
first_there i a js e = rw e refl

pub first_other : (i : Item) (a : Id) (js : List Item) → is_same_id i.id a ≡ false → with_id a (i ∷ js) ≡ with_id a js
first_other i a js e = rw e refl

pub last_there : (i : Item) (a : Id) (js : List Item) → is_same_id i.id a ≡ true → is_some (with_id a (js ++ i ∷ [])) ≡ true
last_there i a [] e = rw e refl
last_there i a (j ∷ js) e = by (is_same_id j.id a) (last_there i a js e)
  where
    by : (b : Bool) → is_some (with_id a (js ++ i ∷ [])) ≡ true → is_some (cond b (Some j) (with_id a (js ++ i ∷ []))) ≡ true
    by true h = refl
    by false h = h

pub last_other : (i : Item) (a : Id) (js : List Item) → is_same_id i.id a ≡ false → with_id a (js ++ i ∷ []) ≡ with_id a js
last_other i a [] e = rw e refl
last_other i a (j ∷ js) e = ap (cond (is_same_id j.id a) (Some j)) (last_other i a js e)

pub dropped_gone : (a : Id) (js : List Item) → with_id a (without_id a js) ≡ None
dropped_gone a [] = refl
dropped_gone a (j ∷ js) = by (is_same_id j.id a) refl (dropped_gone a js)
  where
    by : (b : Bool) → is_same_id j.id a ≡ b → with_id a (without_id a js) ≡ None →
        with_id a (cond (not b) (j ∷ without_id a js) (without_id a js)) ≡ None
    by true e h = h
    by false e h = rw e h

pub dropped_other : (b a : Id) (js : List Item) → is_same_id b a ≡ false → with_id a (without_id b js) ≡ with_id a js
dropped_other b a [] e = refl
dropped_other b a (j ∷ js) e = by (is_same_id j.id b) (is_same_id j.id a) refl refl (dropped_other b a js e)
  where
    by : (c d : Bool) → is_same_id j.id b ≡ c → is_same_id j.id a ≡ d → with_id a (without_id b js) ≡ with_id a js →
        with_id a (cond (not c) (j ∷ without_id b js) (without_id b js)) ≡ cond d (Some j) (with_id a js)
    by true true f g h =
        let s : is_same_id b a ≡ true = subst (λ z. is_same_id z a ≡ true) (same_id j.id b f) g in
        let both : true ≡ false = sym s ∙ e in absurd (cc both)
    by true false f g h = h
    by false d f g h = rw g (ap (λ z. cond d (Some j) z) h)
