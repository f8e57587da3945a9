-- A change carried out on one list is the change of the store that the lists stand for.
use Rattle.std.proofs.Common.{◌≡◌, ℕ, ◌+◌, Bool, true, false, List, [], ◌∷◌, ◌++◌, length, refl, sym, ap, ◌∙◌, subst, add-zero, length-append}
use Rattle.std.specs.Prelude.{nat_lt, Some, slice_get, slice_set}
use Rattle.ml_list_desk.specs.inside.ItemList.{ItemList}
use Rattle.ml_list_desk.specs.Items.{items_seen}
use Rattle.ml_list_desk.specs.inside.Outcomes.{count_of, IsChange, outcome_reply, own_id}
use Rattle.ml_list_desk.specs.inside.Standing.{are_cursors_within, db_of, StandFor}
use Rattle.ml_list_desk.specs.declared.list_cursor.ListCursor.{ListCursor}
use Rattle.ml_list_desk.specs.declared.list_item.ListItem.{ListItem}
use Rattle.ml_list_desk.specs.declared.outcome.Outcome.{Outcome}
use Rattle.ml_list_desk.proofs.OneList.{cursors_with, db_with, db_without, list_there}
use Rattle.ml_search.specs.Changes.{Alter, at_list, change_limit, change_made, change_of, db_after_change, ItemName, no_change, would_change}
use Rattle.ml_search.specs.Db.{Item, items, with_items}
use Rattle.ml_search.specs.Limits.{max_changes}
use Rattle.ml_search.specs.Operations.{full, Operation}
use Rattle.ml_search.specs.Replay.{reply_by, reply_to_change, Store}
use Rattle.ml_search.specs.Seen.{reply_seen}
use Rattle.ml_term.specs.declared.declaration.Decl.{Decl}

-- what a reply says, and what the lists then stand for
pub record Carries (decls : List Decl) (c : Alter ItemName) (o : Operation) (s : Store) (lists : List ItemList) (cursors : List ListCursor) (changes : ℕ)
    (outcome : Outcome) : Type 0 where
  pub told : reply_seen (outcome_reply outcome) ≡ (reply_to_change decls (Some c) o s).0
  pub stands : StandFor lists cursors (changes + count_of outcome) (reply_to_change decls (Some c) o s).1

module _ (decls : List Decl) (lists : List ItemList) (cursors : List ListCursor) (s : Store) (d : ℕ) (l l' : ItemList) (c : Alter ItemName) (o : Operation)
    (f : List Item → List Item) (done vain : Outcome) where
  -- the list is as it was
  still : (changes : ℕ) → StandFor lists cursors changes s → are_cursors_within lists cursors ≡ true → slice_get lists d ≡ Some l
      → items_seen l'.items ≡ items_seen l.items
      → (more : List ListItem) → l'.pool ≡ l.pool ++ more → (n : ℕ) → n ≡ changes → StandFor (slice_set lists d l') cursors n s
  still changes st w at e more p n q = record {
    db =
        db_with lists d l'
        ∙ ap (with_items (db_of lists) d) (e ∙ sym (list_there lists d l at))
        ∙ db_without (db_of lists) d
        ∙ st.db;
    opened = (cursors_with lists d l l' more cursors at p w).0 ∙ st.opened;
    made = q ∙ st.made;
  }

  by_cases : (few does : Bool) (changes : ℕ) (outcome : Outcome) → StandFor lists cursors changes s → are_cursors_within lists cursors ≡ true
      → slice_get lists d ≡ Some l
      → IsChange few does done vain f l l' outcome → nat_lt (length s.lists.made) max_changes ≡ few → would_change decls c s.lists.db ≡ does
      → db_after_change decls (own_id (length s.lists.made)) c s.lists.db ≡ at_list decls d f s.lists.db
      → reply_seen (outcome_reply done) ≡ reply_by o change_made → count_of done ≡ 1 → reply_seen (outcome_reply vain) ≡ reply_by o no_change
      → count_of vain ≡ 0 → full ≡ reply_by o change_limit
      → Carries decls c o s (slice_set lists d l') cursors changes outcome
  by_cases false does changes outcome st w at ch few would after rd cd rv cv rf = record {
    told = ap (λ x. reply_seen (outcome_reply x)) ch.outcome_is ∙ (rf ∙ rw few refl);
    stands = rw few (still changes st w at ch.items ch.more ch.pool _ (ap (λ x. changes + count_of x) ch.outcome_is ∙ add-zero changes));
  }
  by_cases true false changes outcome st w at ch few would after rd cd rv cv rf = record {
    told = ap (λ x. reply_seen (outcome_reply x)) ch.outcome_is ∙ (rv ∙ rw (few, would) refl);
    stands = rw (few, would) (still changes st w at ch.items ch.more ch.pool _
        (ap (λ x. changes + count_of x) ch.outcome_is ∙ ap (λ n. changes + n) cv ∙ add-zero changes));
  }
  by_cases true true changes outcome st w at ch few would after rd cd rv cv rf = record {
    told = ap (λ x. reply_seen (outcome_reply x)) ch.outcome_is ∙ (rd ∙ rw (few, would) refl);
    stands = rw (few, would) (record {
      db =
          db_with lists d l'
          ∙ ap (with_items (db_of lists) d) (ch.items ∙ ap f (sym (list_there lists d l at)))
          ∙ ap (λ db. with_items db d (f (items db d))) st.db
          ∙ sym after;
      opened = (cursors_with lists d l l' ch.more cursors at ch.pool w).0 ∙ st.opened;
      made =
          ap (λ x. changes + count_of x) ch.outcome_is
          ∙ ap (λ n. changes + n) cd
          ∙ ap (λ n. n + 1) st.made
          ∙ sym (length-append s.lists.made (change_of decls c s.lists.db ∷ []));
    });
  }

  pub carried : (changes : ℕ) (outcome : Outcome) (does : Bool) → StandFor lists cursors changes s → are_cursors_within lists cursors ≡ true
      → slice_get lists d ≡ Some l
      → IsChange (nat_lt changes max_changes) does done vain f l l' outcome → would_change decls c s.lists.db ≡ does
      → db_after_change decls (own_id changes) c s.lists.db ≡ at_list decls d f s.lists.db
      → reply_seen (outcome_reply done) ≡ reply_by o change_made → count_of done ≡ 1 → reply_seen (outcome_reply vain) ≡ reply_by o no_change
      → count_of vain ≡ 0 → full ≡ reply_by o change_limit
      → Carries decls c o s (slice_set lists d l') cursors changes outcome
  carried changes outcome does st w at ch would after rd cd rv cv rf =
      by_cases (nat_lt changes max_changes) does changes outcome st w at ch (ap (λ n. nat_lt n max_changes) (sym st.made)) would
      (subst (λ n. db_after_change decls (own_id n) c s.lists.db ≡ at_list decls d f s.lists.db) st.made after) rd cd rv cv rf
