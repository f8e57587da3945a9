-- Along a log, an item that has the id of a cursor's clause has its term.
use Rattle.std.specs.Prelude.{◌≡◌, ℕ, zero, suc, true, List, [], ◌∷◌, length, map, slice_get}
use Rattle.std.specs.List.{list_all}
use Rattle.std.proofs.Common.{refl, sym, ap, ◌∙◌}
use Rattle.std.proofs.lemmas.Bool.{and_parts}
use Rattle.ml_term.specs.declared.declaration.Decl.{Decl}
use Rattle.ml_term.specs.declared.declaration.Kind.{Kind}
use Rattle.ml_term.specs.declared.declaration.Kind.TheVariants.{Relation, Clauses}
use Rattle.ml_search.specs.Program.{is_clause_list}
use Rattle.ml_search.specs.Db.{Item, Db, is_same_id, items, ids_differ, is_placed, is_allowed, is_in_clause_order, is_list_of, is_db, is_committed}
use Rattle.ml_search.specs.Operations.{Log}
use Rattle.ml_search.specs.Replay.{Store, first_store}
use Rattle.ml_asking.proofs.ClauseIds.{each_at, same_id, Keeps, term_in, each_keeps}
use Rattle.ml_asking.proofs.ClauseIds as ids
use Rattle.ml_asking.proofs.IdsKeepTerms.{StoreKeeps, held}
use Rattle.ml_isolation.proofs.Ordered.{Each}
use Rattle.ml_isolation.proofs.DeclaredLists.{list_there}
use Rattle.ml_isolation.proofs.TracedLogs.{IsDropped}

each_again : (P Q : Item → Type 0) (is : List Item) → ((i : Item) → P i → Q i) → ids.Each P is → Each Q is
each_again P Q [] h e = tt
each_again P Q (i ∷ is) h e = (h i e.0, each_again P Q is h e.1)

ids_of_list : (q : Decl) (k : Kind) (is : List Item) → q.kind ≡ k → is_clause_list q ≡ true → is_list_of q is ≡ true → ids_differ (map (λ i. i.id) is) ≡ true
ids_of_list q Relation is e h l = absurd (cc (rw e at h))
ids_of_list q Clauses is e h l =
    let b = (and_parts (list_all (λ i. is_allowed q i.term) is) _ l).1 in
    let a : is_in_clause_order (map (λ i. i.id) is) ≡ true = rw e at b in
    (and_parts (ids_differ (map (λ i. i.id) is)) _ a).0

pub placed_there : (db : Db) (d : ℕ) → is_committed db ≡ true → list_all (λ i. is_placed i.id.place) (items db d) ≡ true
placed_there [] d h = refl
placed_there (is ∷ db) zero h = (and_parts (list_all (λ i. is_placed i.id.place) is) (is_committed db) h).0
placed_there (is ∷ db) (suc d) h = placed_there db d (and_parts (list_all (λ i. is_placed i.id.place) is) (is_committed db) h).1

module _ (decls : List Decl) where
  pub first_keeps : (db : Db) → is_db decls db ≡ true → is_committed db ≡ true → StoreKeeps decls (first_store decls db)
  first_keeps db h p = (
    term_in db,
    record {
      lists = λ d c. let q = held decls is_clause_list (slice_get decls d) c in
          each_keeps db d (ids_of_list q.0 q.0.kind (items db d) refl q.1.1 (list_there decls db d q.0 h q.1.0)) (placed_there db d p);
      cursors = λ c k e x. absurd (cc e);
    },
  )

  pub one_clause : (l : Log) (s : Store) (c i : ℕ) (x : IsDropped decls l s c i) → StoreKeeps decls s →
      Each (λ (j : Item). is_same_id j.id x.clause.id ≡ true → j.term ≡ x.clause.term) (items s.lists.db x.cursor.list)
  one_clause l s c i x keeps =
      let f = keeps.0 in
      let m = length s.lists.made in
      let d = x.cursor.list in
      let own : f d x.clause.id ≡ x.clause.term =
      (each_at (Keeps f m d) x.cursor.members i x.clause x.among (keeps.1.cursors c x.cursor x.there x.clauses)).0 in
      each_again (Keeps f m d) (λ (j : Item). is_same_id j.id x.clause.id ≡ true → j.term ≡ x.clause.term) (items s.lists.db d)
      (λ j k e. sym k.0 ∙ (ap (f d) (same_id j.id x.clause.id e) ∙ own)) (keeps.1.lists d x.clauses)
