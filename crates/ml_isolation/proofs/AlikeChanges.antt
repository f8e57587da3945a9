-- One change of two lists that are the same to whoever looks at some items.
use Rattle.std.specs.Prelude.{◌≡◌, ℕ, zero, suc, nat_lt, Bool, true, false, not, List, [], ◌∷◌, ◌++◌, length, is_some, cond}
use Rattle.std.specs.Option.{option_map_or}
use Rattle.std.specs.List.{filter}
use Rattle.std.proofs.Common.{refl, sym, ap, ◌∙◌, subst, arith, length-append}
use Rattle.std.proofs.lemmas.Bool.{and_parts}
use Rattle.std.proofs.lemmas.List.Elements.{filter-append}
use Rattle.ml_term.specs.Tree.{Tree}
use Rattle.ml_term.specs.Keys.{tuple_cmp}
use Rattle.ml_term.specs.declared.declaration.Decl.{Decl}
use Rattle.ml_term.specs.declared.declaration.Kind.TheVariants.{Relation}
use Rattle.ml_search.specs.Limits.{max_changes}
use Rattle.ml_search.specs.Db.{mine, Id, Item, Db, is_same, is_same_id, items, with_items, with_id, head_of, is_list_of, is_db}
use Rattle.ml_search.specs.Changes.{Change, Lists, ItemName, Alter, puts, takes, puts_first, puts_last, drops, Effect, change_made, no_change, insert_by_key, has_term}
use Rattle.ml_search.specs.Changes.{list_for, keys_of, db_after_change, would_change, change_of, alter}
use Rattle.ml_search.specs.Changes as C
use Rattle.ml_isolation.proofs.Ordered.{Each}
use Rattle.ml_isolation.proofs.TermOrders.{key_total, less_through}
use Rattle.ml_isolation.proofs.DeclaredLists.{parts_of, list_there}
use Rattle.ml_isolation.proofs.ChangedLists.{IsTupleThere}
use Rattle.ml_isolation.proofs.FilteredLists.{filters_commute, inserted_seen, term_there, id_there}
use Rattle.ml_isolation.proofs.UntouchedLists.{is_seen, SameSeen}

-- two lists of a declaration after others were put for one
both_with : (P : List Item → List Item → Type 0) (ds : List Decl) (db eb : Db) → is_db ds db ≡ true → is_db ds eb ≡ true → (n : ℕ) (js ks : List Item) (d : ℕ) →
    (d ≡ n → P js ks) → P (items db d) (items eb d)
    → P (items (with_items db n js) d) (items (with_items eb n ks) d)
both_with P [] [] [] h i n js ks d f e = e
both_with P [] [] (ys ∷ eb) h i n js ks d f e = absurd (cc i)
both_with P [] (xs ∷ db) eb h i n js ks d f e = absurd (cc h)
both_with P (q ∷ ds) [] eb h i n js ks d f e = absurd (cc h)
both_with P (q ∷ ds) (xs ∷ db) [] h i n js ks d f e = absurd (cc i)
both_with P (q ∷ ds) (xs ∷ db) (ys ∷ eb) h i zero js ks zero f e = f refl
both_with P (q ∷ ds) (xs ∷ db) (ys ∷ eb) h i zero js ks (suc d) f e = e
both_with P (q ∷ ds) (xs ∷ db) (ys ∷ eb) h i (suc n) js ks zero f e = e
both_with P (q ∷ ds) (xs ∷ db) (ys ∷ eb) h i (suc n) js ks (suc d) f e =
    both_with P ds db eb (and_parts (is_list_of q xs) (is_db ds db) h).1 (and_parts (is_list_of q ys) (is_db ds eb) i).1 n js ks d (λ z. f (ap suc z)) e

module _ (decls : List Decl) (looks : ℕ → Tree → Bool) where
  abbrev pub Same : Db → Db → Type 0
  Same = SameSeen decls looks

  -- a change of what is looked at
  abbrev pub IsAsked : Alter ItemName → Db → Type 0
  IsAsked (puts t) db = IsTupleThere decls t × (looks (list_for decls t) t ≡ true)
  IsAsked (takes t) db = looks (list_for decls t) t ≡ true
  IsAsked (puts_first c) db = Unit {0}
  IsAsked (puts_last c) db = Unit {0}
  IsAsked (drops x) db = Each (λ (j : Item). is_same_id j.id x.id ≡ true → looks x.list j.term ≡ true) (items db x.list)

  same_terms_there : (n : ℕ) (t : Tree) (is js : List Item) → looks n t ≡ true → filter (is_seen decls looks n) is ≡ filter (is_seen decls looks n) js →
      has_term t is ≡ has_term t js
  same_terms_there n t is js l e = sym (term_there (looks n) t is l) ∙ (ap (has_term t) e ∙ term_there (looks n) t js l)

  same_tests : (c : Alter ItemName) (db eb : Db) → Same db eb → IsAsked c db → IsAsked c eb → would_change decls c db ≡ would_change decls c eb
  same_tests (puts t) db eb same a b =
      let n = list_for decls t in ap not (same_terms_there n t (items db n) (items eb n) a.1 (same n))
  same_tests (takes t) db eb same a b =
      let n = list_for decls t in same_terms_there n t (items db n) (items eb n) a (same n)
  same_tests (puts_first c) db eb same a b = refl
  same_tests (puts_last c) db eb same a b = refl
  same_tests (drops x) db eb same a b =
      ap is_some
      (sym (id_there (is_seen decls looks x.list) x.id (items db x.list) a)
      ∙ (ap (with_id x.id) (same x.list) ∙ id_there (is_seen decls looks x.list) x.id (items eb x.list) b))

  replaced_both : (db eb : Db) → is_db decls db ≡ true → is_db decls eb ≡ true → (n : ℕ) (js ks : List Item) → Same db eb →
      filter (is_seen decls looks n) js ≡ filter (is_seen decls looks n) ks
      → Same (with_items db n js) (with_items eb n ks)
  replaced_both db eb h i n js ks same e d =
      both_with (λ x y. filter (is_seen decls looks d) x ≡ filter (is_seen decls looks d) y) decls db eb h i n js ks d
      (λ q. subst (λ z. filter (is_seen decls looks z) js ≡ filter (is_seen decls looks z) ks) (sym q) e) (same d)

  left_both : (p q : Item → Bool) (is js : List Item) → filter p is ≡ filter p js → filter p (filter q is) ≡ filter p (filter q js)
  left_both p q is js e = filters_commute p q is ∙ (ap (filter q) e ∙ sym (filters_commute p q js))

  inserted_in : (a : Id) (t : Tree) (x : IsTupleThere decls t) (db : Db) → is_db decls db ≡ true → looks (list_for decls t) t ≡ true →
      (let n = list_for decls t in
      let i : Item = record { id = a; term = t } in
      filter (is_seen decls looks n) (insert_by_key (keys_of decls n) i (items db n))
      ≡ insert_by_key (keys_of decls n) i (filter (is_seen decls looks n) (items db n)))
  inserted_in a t x db h l =
      let n = list_for decls t in
      let i : Item = record { id = a; term = t } in
      let keys : keys_of decls n ≡ x.decl.keys = ap (λ z. option_map_or (λ q. q.keys) z []) x.stands in
      let o = (parts_of x.decl Relation x.kind (items db n) (list_there decls db n x.decl h x.stands)).1 in
      subst
      (λ z. filter (is_seen decls looks n) (insert_by_key z i (items db n)) ≡ insert_by_key z i (filter (is_seen decls looks n) (items db n))) (sym keys)
      (inserted_seen (is_seen decls looks n) x.decl.keys i (items db n) l o
      (λ j k. less_through (tuple_cmp x.decl.keys) (key_total x.decl.keys) t j.term k.term))

  same_changes : (a : Id) (c : Alter ItemName) (db eb : Db) → is_db decls db ≡ true → is_db decls eb ≡ true → Same db eb → IsAsked c db → IsAsked c eb →
      Same (db_after_change decls a c db) (db_after_change decls a c eb)
  same_changes a (puts t) db eb h i same p q =
      let n = list_for decls t in
      replaced_both db eb h i n _ _ same
      (inserted_in a t p.0 db h p.1
      ∙ (ap (insert_by_key (keys_of decls n) (record { id = a; term = t })) (same n) ∙ sym (inserted_in a t p.0 eb i p.1)))
  same_changes a (takes t) db eb h i same p q =
      let n = list_for decls t in
      replaced_both db eb h i n _ _ same (left_both (is_seen decls looks n) (λ i. not (is_same i.term t)) (items db n) (items eb n) (same n))
  same_changes a (puts_first c) db eb h i same p q =
      let n = list_for decls (head_of c) in
      let j : Item = record { id = a; term = c } in
      replaced_both db eb h i n (j ∷ items db n) (j ∷ items eb n) same (ap (λ z. cond (looks n c) (j ∷ z) z) (same n))
  same_changes a (puts_last c) db eb h i same p q =
      let n = list_for decls (head_of c) in
      let j : Item = record { id = a; term = c } in
      replaced_both db eb h i n (items db n ++ j ∷ []) (items eb n ++ j ∷ []) same
      (filter-append (is_seen decls looks n) (items db n) (j ∷ [])
      ∙ (ap (λ z. z ++ filter (is_seen decls looks n) (j ∷ [])) (same n) ∙ sym (filter-append (is_seen decls looks n) (items eb n) (j ∷ []))))
  same_changes a (drops x) db eb h i same p q =
      replaced_both db eb h i x.list _ _ same
      (left_both (is_seen decls looks x.list) (λ i. not (is_same_id i.id x.id)) (items db x.list) (items eb x.list) (same x.list))

  -- whether a change is made or not
  abbrev pub OutcomesAlike : Effect × Lists → Effect × Lists → Type 0
  OutcomesAlike x y = (x.0 ≡ y.0) × (length x.1.made ≡ length y.1.made) × Same x.1.db y.1.db

  tests_alike : (full_1 full_2 changes_1 changes_2 : Bool) (c : Alter ItemName) (s u : Lists) → full_1 ≡ full_2 →
      (full_1 ≡ true → (changes_1 ≡ changes_2)
      × ((a : Id) → Same (db_after_change decls a c s.db) (db_after_change decls a c u.db)))
      → length s.made ≡ length u.made → Same s.db u.db
      → OutcomesAlike
      (cond full_1
      (cond changes_1 (
        change_made,
        record
            { db = db_after_change decls (record { place = mine; change = length s.made }) c s.db; made = s.made ++ change_of decls c s.db ∷ [] },
      ) (no_change, s)) (C.change_limit, s))
      (cond full_2
      (cond changes_2 (
        change_made,
        record
            { db = db_after_change decls (record { place = mine; change = length u.made }) c u.db; made = u.made ++ change_of decls c u.db ∷ [] },
      ) (no_change, u)) (C.change_limit, u))
  tests_alike true true true true c s u e f n same = (
    refl,
    omega (arith, n, length-append s.made (change_of decls c s.db ∷ []), length-append u.made (change_of decls c u.db ∷ [])),
    subst
        (λ m. Same (db_after_change decls (record { place = mine; change = length s.made }) c s.db)
        (db_after_change decls (record { place = mine; change = m }) c u.db)) n ((f refl).1 (record { place = mine; change = length s.made })),
  )
  tests_alike true true true false c s u e f n same = absurd (cc ((f refl).0))
  tests_alike true true false true c s u e f n same = absurd (cc ((f refl).0))
  tests_alike true true false false c s u e f n same = (refl, n, same)
  tests_alike true false x y c s u e f n same = absurd (cc e)
  tests_alike false true x y c s u e f n same = absurd (cc e)
  tests_alike false false x y c s u e f n same = (refl, n, same)

  pub alter_alike : (c : Alter ItemName) (s u : Lists) → is_db decls s.db ≡ true → is_db decls u.db ≡ true →
      (nat_lt (length s.made) max_changes ≡ true → IsAsked c s.db × IsAsked c u.db)
      → length s.made ≡ length u.made → Same s.db u.db → OutcomesAlike (alter decls c s) (alter decls c u)
  alter_alike c s u h i asked n same =
      tests_alike (nat_lt (length s.made) max_changes) (nat_lt (length u.made) max_changes) (would_change decls c s.db) (would_change decls c u.db) c s u
      (ap (λ m. nat_lt m max_changes) n)
      (λ e. let a = asked e in (same_tests c s.db u.db same a.0 a.1, λ x. same_changes x c s.db u.db h i same a.0 a.1)) n same
