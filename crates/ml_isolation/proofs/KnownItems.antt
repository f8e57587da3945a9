-- An item that is there after a log was there before it, or is the log's own, with the term that its change put.
use Rattle.std.specs.Prelude.{◌≡◌, ℕ, zero, suc, Bool, true, false, ◌&&◌, List, [], ◌∷◌, ◌++◌, length, Option, Some, None, slice_get, Contains}
use Rattle.std.specs.Option.{option_map}
use Rattle.std.specs.List.{filter, filter_map, cons_option}
use Rattle.std.proofs.Common.{refl, sym, ap, ◌∙◌, subst, arith, append_assoc, length-append}
use Rattle.std.proofs.lemmas.Bool.{and_parts}
use Rattle.std.proofs.lemmas.List.Elements.{filter_map-append}
use Rattle.ml_term.specs.Tree.{Tree}
use Rattle.ml_term.specs.declared.declaration.Decl.{Decl}
use Rattle.ml_search.specs.Db.{Place, at, mine, Item, Db, items, with_items, head_of, is_placed, is_committed}
use Rattle.ml_search.specs.Changes.{Change, ItemName, Alter, puts, takes, puts_first, puts_last, drops, list_for, keys_of, db_after_change}
use Rattle.ml_search.specs.LogChanges.{is_change, operation_change, change_if, log_changes}
use Rattle.ml_search.specs.Operations.{Operation, opens, next, insert, delete, assertz, asserta, delete_at, Reply, item, no_item, Log, is_valid_after, is_reply_after}
use Rattle.ml_search.specs.Operations.{is_log_from, is_log}
use Rattle.ml_search.specs.Operations as O
use Rattle.ml_search.specs.Replay.{Progress, member, list_under, progress_by_change, progress_by, progress_after, db_after_log}
use Rattle.ml_asking.proofs.SearchesAgree.{append_none}
use Rattle.ml_isolation.proofs.Members.{each_is_among, holds_among}
use Rattle.ml_isolation.proofs.Ordered.{Each, each_by, each_both, each_filter, each_and_one, each_true}
use Rattle.ml_isolation.proofs.TupleLists.{each_inserted}
use Rattle.ml_isolation.proofs.FilteredLists.{list_with}
use Rattle.ml_isolation.proofs.KeptIds.{placed_there}

-- the term of the change with a number
abbrev term_put : List Change → ℕ → Option Tree
term_put made n = option_map (λ c. c.term) (slice_get made n)

put_before : (made more : List Change) (n : ℕ) (t : Tree) → term_put made n ≡ Some t → term_put (made ++ more) n ≡ Some t
put_before [] more n t e = absurd (cc e)
put_before (c ∷ made) more zero t e = e
put_before (c ∷ made) more (suc n) t e = put_before made more n t e

put_last : (made : List Change) (c : Change) → term_put (made ++ c ∷ []) (length made) ≡ Some c.term
put_last [] c = refl
put_last (x ∷ made) c = put_last made c

-- an item is one of a list's, or its change put its term
abbrev IsKnownAt : List Item → List Change → Item → Place → Type 0
IsKnownAt before made i (at n) = Contains before i
IsKnownAt before made i mine = term_put made i.id.change ≡ Some i.term

abbrev IsKnown : List Item → List Change → Item → Type 0
IsKnown before made i = IsKnownAt before made i i.id.place

known_at : (before : List Item) (made more : List Change) (i : Item) (p : Place) → IsKnownAt before made i p → IsKnownAt before (made ++ more) i p
known_at before made more i (at n) k = k
known_at before made more i mine k = put_before made more i.id.change i.term k

known_more : (before : List Item) (made more : List Change) (is : List Item) → Each (IsKnown before made) is → Each (IsKnown before (made ++ more)) is
known_more before made more is = each_by (IsKnown before made) (IsKnown before (made ++ more)) is (λ i. known_at before made more i i.id.place)

-- a reply to a request for an item tells of no change
gives_no_change : (decls : List Decl) (l : Log) (c i : ℕ) (r : Reply) → is_reply_after decls l (next c i) r ≡ true → is_change r ≡ false
gives_no_change decls l c i (O.cursor n) h = refl
gives_no_change decls l c i (item t) h = refl
gives_no_change decls l c i no_item h = refl
gives_no_change decls l c i O.added h = absurd (cc h)
gives_no_change decls l c i O.present h = refl
gives_no_change decls l c i O.removed h = absurd (cc h)
gives_no_change decls l c i O.absent h = refl
gives_no_change decls l c i O.full h = refl

module _ (decls : List Decl) (base : Db) where
  abbrev AreKnown : List Change → Db → Type 0
  AreKnown made db = (d : ℕ) → Each (IsKnown (items base d) made) (items db d)

  -- a change tells what it puts
  abbrev Tells : Alter ItemName → Change → Type 0
  Tells (puts t) c = c.term ≡ t
  Tells (takes t) c = Unit {0}
  Tells (puts_first t) c = c.term ≡ t
  Tells (puts_last t) c = c.term ≡ t
  Tells (drops x) c = Unit {0}

  new_known : (before : List Item) (made : List Change) (c : Change) (m : ℕ) (t : Tree) → m ≡ length made → c.term ≡ t →
      IsKnown before (made ++ c ∷ []) (record { id = record { place = mine; change = m }; term = t })
  new_known before made c m t e f =
      subst (λ n. term_put (made ++ c ∷ []) n ≡ Some t) (sym e) (put_last made c ∙ ap Some f)

  replaced_known : (made : List Change) (db : Db) (n : ℕ) (js : List Item) → AreKnown made db → Each (IsKnown (items base n) made) js →
      AreKnown made (with_items db n js)
  replaced_known made db n js k e d =
      list_with (Each (IsKnown (items base d) made)) db n js d (λ q. subst (λ z. Each (IsKnown (items base z) made) js) (sym q) e) (k d)

  all_more : (made : List Change) (c : Change) (db : Db) → AreKnown made db → AreKnown (made ++ c ∷ []) db
  all_more made c db k d = known_more (items base d) made (c ∷ []) (items db d) (k d)

  fewer_known : (made : List Change) (db : Db) (n : ℕ) (p : Item → Bool) → AreKnown made db → AreKnown made (with_items db n (filter p (items db n)))
  fewer_known made db n p k = replaced_known made db n (filter p (items db n)) k (each_filter (IsKnown (items base n) made) p (items db n) (k n))

  change_known : (made : List Change) (c : Change) (m : ℕ) (a : Alter ItemName) (db : Db) → m ≡ length made → Tells a c → AreKnown made db →
      AreKnown (made ++ c ∷ []) (db_after_change decls (record { place = mine; change = m }) a db)
  change_known made c m (puts t) db e f k =
      let n = list_for decls t in
      let h = all_more made c db k in
      replaced_known (made ++ c ∷ []) db n _ h
      (each_inserted (IsKnown (items base n) (made ++ c ∷ [])) (keys_of decls n) (record { id = record { place = mine; change = m }; term = t }) (items db n)
      (new_known (items base n) made c m t e f) (h n))
  change_known made c m (takes t) db e f k = fewer_known (made ++ c ∷ []) db (list_for decls t) _ (all_more made c db k)
  change_known made c m (puts_first t) db e f k =
      let n = list_for decls (head_of t) in
      let h = all_more made c db k in replaced_known (made ++ c ∷ []) db n _ h (new_known (items base n) made c m t e f, h n)
  change_known made c m (puts_last t) db e f k =
      let n = list_for decls (head_of t) in
      let h = all_more made c db k in
      replaced_known (made ++ c ∷ []) db n _ h
      (each_and_one (IsKnown (items base n) (made ++ c ∷ [])) (items db n) (record { id = record { place = mine; change = m }; term = t }) (h n)
      (new_known (items base n) made c m t e f))
  change_known made c m (drops x) db e f k = fewer_known (made ++ c ∷ []) db x.list _ (all_more made c db k)

  -- the lists with the changes that a log tells of
  pub record IsSo (made : List Change) (p : Progress) : Type 0 where
    pub known : AreKnown made p.db
    pub counted : p.changes ≡ length made

  nothing_made : (made : List Change) (p : Progress) → IsSo made p → IsSo (made ++ []) p
  nothing_made made p s = subst (λ z. IsSo z p) (append_none made) s

  one_made : (made : List Change) (c : Change) (a : Alter ItemName) (p : Progress) → Tells a c → IsSo made p →
      IsSo (made ++ c ∷ []) (progress_by_change decls mine true (Some a) p)
  one_made made c a p f s = record {
    known = change_known made c p.changes a p.db s.counted f s.known;
    counted = let n = s.counted in omega (arith, n, length-append made (c ∷ []));
  }

  by_made : (made : List Change) (b : Bool) (c : Change) (a : Alter ItemName) (p : Progress) → Tells a c → IsSo made p →
      IsSo (made ++ cons_option (change_if b (Some c)) []) (progress_by_change decls mine b (Some a) p)
  by_made made true c a p f s = one_made made c a p f s
  by_made made false c a p f s = nothing_made made p s

  not_named : (made : List Change) (c : Change) (p : Progress) → IsSo made p → IsSo (made ++ c ∷ []) (progress_by_change decls mine true None p)
  not_named made c p s = record {
    known = all_more made c p.db s.known;
    counted = let n = s.counted in omega (arith, n, length-append made (c ∷ []));
  }

  drop_made : (made : List Change) (b : Bool) (c : Change) (o : Option Item) (n : ℕ) (p : Progress) → IsSo made p →
      IsSo (made ++ cons_option (change_if b (Some c)) [])
      (progress_by_change decls mine b (option_map (λ j. drops (record { list = n; id = j.id })) o) p)
  drop_made made true c None n p s = not_named made c p s
  drop_made made true c (Some j) n p s = one_made made c (drops (record { list = n; id = j.id })) p tt s
  drop_made made false c o n p s = nothing_made made p s

  no_change_made : (made : List Change) (b : Bool) (p : Progress) → IsSo made p → IsSo (made ++ cons_option (change_if b None) []) p
  no_change_made made true p s = nothing_made made p s
  no_change_made made false p s = nothing_made made p s

  operation_made : (whole before : Log) (made : List Change) (o : Operation) (r : Reply) (p : Progress) → is_reply_after decls before o r ≡ true →
      IsSo made p
      → IsSo (made ++ cons_option (change_if (is_change r) (operation_change whole o)) []) (progress_by decls mine (o, r) p)
  operation_made whole before made (opens d t) r p h s =
      let k = no_change_made made (is_change r) p s in record { known = k.known; counted = k.counted }
  operation_made whole before made (next c i) r p h s =
      subst (λ b. IsSo (made ++ cons_option (change_if b None) []) (progress_by_change decls mine b None p))
      (sym (gives_no_change decls before c i r h)) (nothing_made made p s)
  operation_made whole before made (insert t) r p h s = by_made made (is_change r) _ (puts t) p refl s
  operation_made whole before made (delete t) r p h s = by_made made (is_change r) _ (takes t) p tt s
  operation_made whole before made (assertz t) r p h s = by_made made (is_change r) _ (puts_last t) p refl s
  operation_made whole before made (asserta t) r p h s = by_made made (is_change r) _ (puts_first t) p refl s
  operation_made whole before made (delete_at c i) r p h s = drop_made made (is_change r) _ (member p.cursors c i) (list_under p.cursors c) p s

  abbrev change_told : Log → Operation × Reply → Option Change
  change_told whole e = change_if (is_change e.1) (operation_change whole e.0)

  made_from : (rest before whole : Log) (p : Progress) → before ++ rest ≡ whole → is_log_from decls before rest ≡ true →
      IsSo (filter_map (change_told whole) before) p
      → IsSo (filter_map (change_told whole) whole) (progress_after decls mine rest p)
  made_from [] before whole p q h s = subst (λ z. IsSo (filter_map (change_told whole) z) p) (append_none before ∙ q) s
  made_from (e ∷ rest) before whole p q h s =
      let c = and_parts (is_valid_after decls before e.0 && is_reply_after decls before e.0 e.1) (is_log_from decls (before ++ e ∷ []) rest) h in
      let v = (and_parts (is_valid_after decls before e.0) (is_reply_after decls before e.0 e.1) c.0).1 in
      let now = operation_made whole before (filter_map (change_told whole) before) e.0 e.1 p v s in
      made_from rest (before ++ e ∷ []) whole (progress_by decls mine e p) (append_assoc before (e ∷ []) rest ∙ q) c.1
      (subst (λ z. IsSo z (progress_by decls mine e p)) (sym (filter_map-append (change_told whole) before (e ∷ []))) now)

  first_known : (d : ℕ) → is_committed base ≡ true → Each (IsKnown (items base d) []) (items base d)
  first_known d h =
      each_both (λ i. Contains (items base d) i) (λ i. is_placed i.id.place ≡ true) (IsKnown (items base d) []) (items base d)
      (λ i c k. by i i.id.place c k) (each_is_among (items base d)) (each_true (λ i. is_placed i.id.place) (items base d) (placed_there base d h))
    where
      by : (i : Item) (p : Place) → Contains (items base d) i → is_placed p ≡ true → IsKnownAt (items base d) [] i p
      by i (at n) c k = c
      by i mine c k = absurd (cc k)

  known_after : (l : Log) → is_committed base ≡ true → is_log decls l ≡ true → AreKnown (log_changes l) (db_after_log decls base l mine)
  known_after l h v =
      (made_from l [] l (record { db = base; cursors = []; changes = 0 }) refl v (record { known = λ d. first_known d h; counted = refl })).known

  is_old : (before : List Item) (made : List Change) (i : Item) (p : Place) → is_placed p ≡ true → IsKnownAt before made i p → Contains before i
  is_old before made i (at n) h k = k
  is_old before made i mine h k = absurd (cc h)

  pub old_items : (l : Log) (d : ℕ) (i : Item) → is_committed base ≡ true → is_log decls l ≡ true → Contains (items (db_after_log decls base l mine) d) i →
      is_placed i.id.place ≡ true
      → Contains (items base d) i
  old_items l d i h v c p =
      is_old (items base d) (log_changes l) i i.id.place p
      (holds_among (IsKnown (items base d) (log_changes l)) (items (db_after_log decls base l mine) d) i c (known_after l h v d))

  pub own_items : (l : Log) (d : ℕ) (i : Item) → is_committed base ≡ true → is_log decls l ≡ true → Contains (items (db_after_log decls base l mine) d) i →
      i.id.place ≡ mine
      → option_map (λ c. c.term) (slice_get (log_changes l) i.id.change) ≡ Some i.term
  own_items l d i h v c p =
      subst (IsKnownAt (items base d) (log_changes l) i) p
      (holds_among (IsKnown (items base d) (log_changes l)) (items (db_after_log decls base l mine) d) i c (known_after l h v d))
