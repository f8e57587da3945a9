-- A clause is taken out that a cursor gave, or there is none to be taken out.
use Rattle.std.proofs.Common.{◌≡◌, ℕ, ◌+◌, Bool, true, false, List, length, map, refl, sym, ap, ◌∙◌, subst, add-zero, ◌≤◌}
use Rattle.std.specs.Prelude.{if◌then◌else◌, nat_lt, None, Option, slice_get, slice_set, Some, is_some}
use Rattle.std.specs.Option.{option_map, option_map_or}
use Rattle.ml_list_desk.specs.Items.{item_seen, items_seen}
use Rattle.ml_list_desk.specs.inside.ItemList.{item_with, ItemList}
use Rattle.ml_list_desk.specs.inside.ListDesks.{IsCarriedOut}
use Rattle.ml_list_desk.specs.inside.Outcomes.{count_of, IsChange, outcome_reply}
use Rattle.ml_list_desk.specs.inside.Standing.{are_cursors_within, cursor_of, StandFor}
use Rattle.ml_list_desk.specs.declared.list_cursor.ListCursor.{ListCursor}
use Rattle.ml_list_desk.specs.declared.outcome.Outcome.{Outcome}
use Rattle.ml_list_desk.specs.declared.outcome.Outcome.TheVariants.{Absent, Full, Removed}
use Rattle.ml_list_desk.proofs.CarriedOut.{carried_out}
use Rattle.ml_list_desk.proofs.ItemsGiven.{IsGiven, mapped}
use Rattle.ml_list_desk.proofs.OneList.{list_there}
use Rattle.ml_search.specs.Changes.{drops, without_id}
use Rattle.ml_search.specs.Db.{Id, items, with_id}
use Rattle.ml_search.specs.Limits.{max_changes}
use Rattle.ml_search.specs.Operations.{delete_at}
use Rattle.ml_search.specs.Replay.{alter_of, Cursor, list_under, member, reply_to_change, Store}
use Rattle.ml_search.specs.Seen.{reply_seen}
use Rattle.ml_term.specs.declared.declaration.Decl.{Decl}

module _ (decls : List Decl) (lists : List ItemList) (cursors : List ListCursor) (changes c i : ℕ) where
  pub given_deleted : (n : ℕ) (k : ListCursor) (l l' : ItemList) (outcome : Outcome) → slice_get cursors c ≡ Some k → IsGiven lists cursors c i n k l
      → are_cursors_within lists cursors ≡ true
      → IsChange (nat_lt changes max_changes) (is_some (with_id (item_seen (item_with l.pool n)).id (items_seen l.items))) Removed Absent
      (without_id (item_seen (item_with l.pool n)).id) l l' outcome
      → IsCarriedOut decls (delete_at c i) lists (slice_set lists k.list l') cursors changes outcome
  given_deleted n k l l' outcome e g w ch =
      let a : Id = (item_seen (item_with l.pool n)).id in
      carried_out decls lists k.list l l' changes (delete_at c i) (without_id a) Removed Absent outcome (is_some (with_id a (items_seen l.items))) g.at ch
      refl refl refl refl refl cursors
      (λ s st.
      let m : member s.cursors c i ≡ Some (item_seen (item_with l.pool n)) = ap (λ cs. member cs c i) (sym st.opened) ∙ g.member_is in
      let u : list_under s.cursors c ≡ k.list =
      ap (λ cs. list_under cs c) (sym st.opened) ∙ ap (λ (o : Option Cursor). option_map_or (λ (q : Cursor). q.list) o 0)
      (mapped (cursor_of lists) cursors c k e) in
      record {
        alter = drops (record { list = k.list; id = a });
        asked =
            ap (λ x. reply_to_change decls x (delete_at c i) s)
            (ap (option_map (λ j. drops (record { list = list_under s.cursors c; id = j.id }))) m ∙ ap (λ x. Some (drops (record { list = x; id = a }))) u);
        would = ap (λ is. is_some (with_id a is)) (ap (λ db. items db k.list) (sym st.db) ∙ list_there lists k.list l g.at);
        after = refl;
      })
      w

  -- what is told where nothing is there to be taken out
  vain_by : (few : Bool) (outcome : Outcome) (s : Store) → outcome ≡ (if few then Absent else Full) → nat_lt (length s.lists.made) max_changes ≡ few
      → (reply_seen (outcome_reply outcome) ≡ (reply_to_change decls None (delete_at c i) s).0) × (count_of outcome ≡ 0)
  vain_by true outcome s o f = (ap (λ x. reply_seen (outcome_reply x)) o ∙ rw f refl, ap count_of o)
  vain_by false outcome s o f = (ap (λ x. reply_seen (outcome_reply x)) o ∙ rw f refl, ap count_of o)

  pub nothing_deleted : (outcome : Outcome) → are_cursors_within lists cursors ≡ true → member (map (cursor_of lists) cursors) c i ≡ None
      → outcome ≡ (if nat_lt changes max_changes then Absent else Full) → IsCarriedOut decls (delete_at c i) lists lists cursors changes outcome
  nothing_deleted outcome w m o =
      let none : count_of outcome ≡ 0 = by (nat_lt changes max_changes) o in
      record {
        told = λ s st. (vain s st).0 ∙ ap (λ x. (reply_to_change decls x (delete_at c i) s).0) (sym (no_alter s st));
        stands = λ s st.
            subst (λ r. StandFor lists cursors (changes + count_of outcome) r)
            (sym (ap (λ x. (reply_to_change decls x (delete_at c i) s).1) (no_alter s st)))
            (subst (λ k. StandFor lists cursors k s) (sym (ap (λ k. changes + k) none ∙ add-zero changes)) st);
        decls_are = refl;
        within = w;
        few = λ h. subst (λ k. k ≤ max_changes) (sym (ap (λ k. changes + k) none ∙ add-zero changes)) h;
      }
    where
      by : (few : Bool) → outcome ≡ (if few then Absent else Full) → count_of outcome ≡ 0
      by true q = ap count_of q
      by false q = ap count_of q

      no_alter : (s : Store) → StandFor lists cursors changes s → alter_of s.cursors (delete_at c i) ≡ None
      no_alter s st = ap (option_map (λ j. drops (record { list = list_under s.cursors c; id = j.id }))) (ap (λ cs. member cs c i) (sym st.opened) ∙ m)

      vain : (s : Store) → StandFor lists cursors changes s
          → (reply_seen (outcome_reply outcome) ≡ (reply_to_change decls None (delete_at c i) s).0) × (count_of outcome ≡ 0)
      vain s st = vain_by (nat_lt changes max_changes) outcome s o (ap (λ n. nat_lt n max_changes) (sym st.made))
