-- Whether an item is there after a change, by the flag that the change notes.
use Rattle.std.specs.Prelude.{◌≡◌, ℕ, ◌==◌, Bool, true, false, ◌&&◌, not, List, [], ◌∷◌, ◌++◌, slice_get, Option, Some, None}
use Rattle.std.specs.Prelude.{is_some, unwrap_or, cond}
use Rattle.std.proofs.Common.{refl, sym, ap, ◌∙◌, subst}
use Rattle.std.proofs.lemmas.Bool.{and_parts, eqb-true, eq-eqb}
use Rattle.ml_term.specs.Tree.{Tree}
use Rattle.ml_term.specs.declared.declaration.Decl.{Decl}
use Rattle.ml_term.specs.declared.declaration.Kind.TheVariants.{Clauses}
use Rattle.ml_search.specs.Program.{holds_of, is_relation, is_clause_list}
use Rattle.ml_search.specs.Db.{mine, Id, Item, Db, is_same, is_same_id, items, with_items, with_id, head_of}
use Rattle.ml_search.specs.Changes.{ItemName, Alter, puts, takes, puts_first, puts_last, drops, has_term, without_id, list_for, keys_of, db_after_change}
use Rattle.ml_isolation.specs.Logs.{IsRelation, IsClauseList}
use Rattle.ml_isolation.specs.Notes.{Noted, tuple, clause, flag_of}
use Rattle.ml_isolation.proofs.SameTerms.{same_terms}
use Rattle.ml_isolation.proofs.ChangedLists.{IsClauseThere}
use Rattle.ml_isolation.proofs.FilteredLists.{list_with}
use Rattle.ml_isolation.proofs.ChangedItems.{list_exists, list_replaced, put_there, put_other, taken_gone, taken_other, first_there, first_other, last_there}
use Rattle.ml_isolation.proofs.ChangedItems.{last_other, dropped_gone, dropped_other}
use Rattle.ml_asking.proofs.ClauseIds.{same_id}

-- a list is of one kind
not_both : (o : Option Decl) → holds_of is_relation o ≡ true → holds_of is_clause_list o ≡ true → ⊥
not_both None h i = cc h
not_both (Some q) h i = by (is_relation q) h i
  where
    by : (b : Bool) → b ≡ true → not b ≡ true → ⊥
    by true h i = cc i
    by false h i = cc h

clauses_are : (q : Decl) → q.kind ≡ Clauses → is_clause_list q ≡ true
clauses_are q e = rw e refl

module _ (decls : List Decl) where
  pub clause_there_kind : (c : Tree) → IsClauseThere decls c → IsClauseList decls (list_for decls (head_of c))
  clause_there_kind c a = ap (holds_of is_clause_list) a.stands ∙ clauses_are a.decl a.kind

  -- a list that is there stays there
  pub change_exists : (a : Id) (c : Alter ItemName) (db : Db) (d : ℕ) → is_some (slice_get db d) ≡ true →
      is_some (slice_get (db_after_change decls a c db) d) ≡ true
  change_exists a (puts t) db d h = list_exists db (list_for decls t) _ d h
  change_exists a (takes t) db d h = list_exists db (list_for decls t) _ d h
  change_exists a (puts_first c) db d h = list_exists db (list_for decls (head_of c)) _ d h
  change_exists a (puts_last c) db d h = list_exists db (list_for decls (head_of c)) _ d h
  change_exists a (drops x) db d h = list_exists db x.list _ d h

  -- which item is noted, and whether it is there
  abbrev pub list_of : Noted → ℕ
  list_of (tuple t) = list_for decls t
  list_of (clause d a) = d

  abbrev pub IsOfKind : Noted → Type 0
  IsOfKind (tuple t) = IsRelation decls (list_for decls t)
  IsOfKind (clause d a) = IsClauseList decls d

  abbrev pub is_there : Noted → List Item → Bool
  is_there (tuple t) is = has_term t is
  is_there (clause d a) is = is_some (with_id a is)

  -- a change of another list
  elsewhere : (x : Noted) (db : Db) (n : ℕ) (js : List Item) → (list_of x ≡ n → ⊥) →
      is_there x (items (with_items db n js) (list_of x)) ≡ is_there x (items db (list_of x))
  elsewhere x db n js f = list_with (λ z. is_there x z ≡ is_there x (items db (list_of x))) db n js (list_of x) (λ q. absurd (f q)) refl

  -- a change that leaves the item as it was
  unchanged : (x : Noted) (db : Db) (n : ℕ) (js : List Item) → (list_of x ≡ n → is_there x js ≡ is_there x (items db n)) →
      is_there x (items (with_items db n js) (list_of x)) ≡ is_there x (items db (list_of x))
  unchanged x db n js f =
      list_with (λ z. is_there x z ≡ is_there x (items db (list_of x))) db n js (list_of x)
      (λ q. subst (λ z. is_there x js ≡ is_there x (items db z)) (sym q) (f q)) refl

  -- what a change may be, by the operation that asks for it
  abbrev pub MayBe : Alter ItemName → Type 0
  MayBe (puts t) = IsRelation decls (list_for decls t)
  MayBe (takes t) = IsRelation decls (list_for decls t)
  MayBe (puts_first c) = IsClauseList decls (list_for decls (head_of c))
  MayBe (puts_last c) = IsClauseList decls (list_for decls (head_of c))
  MayBe (drops y) = IsClauseList decls y.list

  abbrev pub Flagged : Noted → ℕ → Alter ItemName → Db → Type 0
  Flagged x m c db =
      is_there x (items (db_after_change decls (record { place = mine; change = m }) c db) (list_of x))
      ≡ unwrap_or (flag_of decls x m c) (is_there x (items db (list_of x)))

  -- one list put for another
  put_same : (t : Tree) (m : ℕ) (db : Db) → is_some (slice_get db (list_for decls t)) ≡ true →
      has_term t (items (db_after_change decls (record { place = mine; change = m }) (puts t) db) (list_for decls t)) ≡ true
  put_same t m db h =
      ap (has_term t) (list_replaced db (list_for decls t) _ h)
      ∙ put_there (keys_of decls (list_for decls t)) (record { id = record { place = mine; change = m }; term = t }) (items db (list_for decls t))

  take_same : (t : Tree) (m : ℕ) (db : Db) → is_some (slice_get db (list_for decls t)) ≡ true →
      has_term t (items (db_after_change decls (record { place = mine; change = m }) (takes t) db) (list_for decls t)) ≡ false
  take_same t m db h = ap (has_term t) (list_replaced db (list_for decls t) _ h) ∙ taken_gone t (items db (list_for decls t))

  tuple_put : (t u : Tree) (m : ℕ) (db : Db) → is_some (slice_get db (list_for decls t)) ≡ true → (b : Bool) → is_same u t ≡ b →
      has_term t (items (db_after_change decls (record { place = mine; change = m }) (puts u) db) (list_for decls t))
      ≡ unwrap_or (cond b (Some true) None) (has_term t (items db (list_for decls t)))
  tuple_put t u m db h true e =
      subst (λ z. has_term t (items (db_after_change decls (record { place = mine; change = m }) (puts z) db) (list_for decls t)) ≡ true)
      (sym (same_terms u t e)) (put_same t m db h)
  tuple_put t u m db h false e =
      unchanged (tuple t) db (list_for decls u) _
      (λ q. put_other (keys_of decls (list_for decls u)) (record { id = record { place = mine; change = m }; term = u }) t (items db (list_for decls u)) e)

  tuple_taken : (t u : Tree) (m : ℕ) (db : Db) → is_some (slice_get db (list_for decls t)) ≡ true → (b : Bool) → is_same u t ≡ b →
      has_term t (items (db_after_change decls (record { place = mine; change = m }) (takes u) db) (list_for decls t))
      ≡ unwrap_or (cond b (Some false) None) (has_term t (items db (list_for decls t)))
  tuple_taken t u m db h true e =
      subst (λ z. has_term t (items (db_after_change decls (record { place = mine; change = m }) (takes z) db) (list_for decls t)) ≡ false)
      (sym (same_terms u t e)) (take_same t m db h)
  tuple_taken t u m db h false e = unchanged (tuple t) db (list_for decls u) _ (λ q. taken_other u t (items db (list_for decls u)) e)

  right_false : (b c : Bool) → b ≡ true → (b && c) ≡ false → c ≡ false
  right_false true c e h = h
  right_false false c e h = absurd (cc e)

  other_id : (n d : ℕ) (i a : Id) → d ≡ n → ((n == d) && is_same_id i a) ≡ false → is_same_id i a ≡ false
  other_id n d i a q e = right_false (n == d) (is_same_id i a) (eq-eqb n d (sym q)) e

  clause_first : (d n : ℕ) (a : Id) (i : Item) (db : Db) → is_some (slice_get db d) ≡ true → (b : Bool) → ((n == d) && is_same_id i.id a) ≡ b →
      is_some (with_id a (items (with_items db n (i ∷ items db n)) d)) ≡ unwrap_or (cond b (Some true) None) (is_some (with_id a (items db d)))
  clause_first d n a i db h true e =
      let p = and_parts (n == d) (is_same_id i.id a) e in
      subst (λ z. is_some (with_id a (items (with_items db z (i ∷ items db z)) d)) ≡ true) (sym (eqb-true n d p.0))
      (ap (λ z. is_some (with_id a z)) (list_replaced db d (i ∷ items db d) h) ∙ first_there i a (items db d) p.1)
  clause_first d n a i db h false e =
      unchanged (clause d a) db n (i ∷ items db n) (λ q. ap is_some (first_other i a (items db n) (other_id n d i.id a q e)))

  clause_last : (d n : ℕ) (a : Id) (i : Item) (db : Db) → is_some (slice_get db d) ≡ true → (b : Bool) → ((n == d) && is_same_id i.id a) ≡ b →
      is_some (with_id a (items (with_items db n (items db n ++ i ∷ [])) d)) ≡ unwrap_or (cond b (Some true) None) (is_some (with_id a (items db d)))
  clause_last d n a i db h true e =
      let p = and_parts (n == d) (is_same_id i.id a) e in
      subst (λ z. is_some (with_id a (items (with_items db z (items db z ++ i ∷ [])) d)) ≡ true) (sym (eqb-true n d p.0))
      (ap (λ z. is_some (with_id a z)) (list_replaced db d (items db d ++ i ∷ []) h) ∙ last_there i a (items db d) p.1)
  clause_last d n a i db h false e =
      unchanged (clause d a) db n (items db n ++ i ∷ []) (λ q. ap is_some (last_other i a (items db n) (other_id n d i.id a q e)))

  drop_same : (d : ℕ) (a : Id) (db : Db) → is_some (slice_get db d) ≡ true → is_some (with_id a (items (with_items db d (without_id a (items db d))) d)) ≡ false
  drop_same d a db h = ap (λ z. is_some (with_id a z)) (list_replaced db d (without_id a (items db d)) h) ∙ ap is_some (dropped_gone a (items db d))

  clause_dropped : (d n : ℕ) (a i : Id) (db : Db) → is_some (slice_get db d) ≡ true → (b : Bool) → ((n == d) && is_same_id i a) ≡ b →
      is_some (with_id a (items (with_items db n (without_id i (items db n))) d)) ≡ unwrap_or (cond b (Some false) None) (is_some (with_id a (items db d)))
  clause_dropped d n a i db h true e =
      let p = and_parts (n == d) (is_same_id i a) e in
      subst (λ z. is_some (with_id a (items (with_items db z (without_id i (items db z))) d)) ≡ false) (sym (eqb-true n d p.0))
      (subst (λ z. is_some (with_id a (items (with_items db d (without_id z (items db d))) d)) ≡ false) (sym (same_id i a p.1)) (drop_same d a db h))
  clause_dropped d n a i db h false e =
      unchanged (clause d a) db n (without_id i (items db n)) (λ q. ap is_some (dropped_other i a (items db n) (other_id n d i a q e)))

  -- lists of two kinds are two
  kinds_part : (d n : ℕ) → IsRelation decls d → IsClauseList decls n → d ≡ n → ⊥
  kinds_part d n r c q = not_both (slice_get decls n) (subst (IsRelation decls) q r) c

  pub flagged : (x : Noted) (m : ℕ) (c : Alter ItemName) (db : Db) → IsOfKind x → MayBe c → is_some (slice_get db (list_of x)) ≡ true → Flagged x m c db
  flagged (tuple t) m (puts u) db k y h = tuple_put t u m db h (is_same u t) refl
  flagged (tuple t) m (takes u) db k y h = tuple_taken t u m db h (is_same u t) refl
  flagged (tuple t) m (puts_first c) db k y h =
      elsewhere (tuple t) db (list_for decls (head_of c)) _ (kinds_part (list_for decls t) (list_for decls (head_of c)) k y)
  flagged (tuple t) m (puts_last c) db k y h =
      elsewhere (tuple t) db (list_for decls (head_of c)) _ (kinds_part (list_for decls t) (list_for decls (head_of c)) k y)
  flagged (tuple t) m (drops z) db k y h = elsewhere (tuple t) db z.list _ (kinds_part (list_for decls t) z.list k y)
  flagged (clause d a) m (puts u) db k y h = elsewhere (clause d a) db (list_for decls u) _ (λ q. kinds_part (list_for decls u) d y k (sym q))
  flagged (clause d a) m (takes u) db k y h = elsewhere (clause d a) db (list_for decls u) _ (λ q. kinds_part (list_for decls u) d y k (sym q))
  flagged (clause d a) m (puts_first c) db k y h =
      clause_first d (list_for decls (head_of c)) a (record { id = record { place = mine; change = m }; term = c }) db h _ refl
  flagged (clause d a) m (puts_last c) db k y h =
      clause_last d (list_for decls (head_of c)) a (record { id = record { place = mine; change = m }; term = c }) db h _ refl
  flagged (clause d a) m (drops z) db k y h = clause_dropped d z.list a z.id db h _ refl
