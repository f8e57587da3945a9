-- The three outcomes of a change of one list.
use Rattle.std.proofs.Common.{◌≡◌, ℕ, ◌&&◌, Bool, true, false, not, cond, List, [], ◌∷◌, ◌++◌, refl, sym, ap, ◌∙◌, append-nil, true≢false}
use Rattle.std.specs.List.{insert, remove}
use Rattle.std.specs.Option.{is_some}
use Rattle.ml_list_desk.specs.inside.ItemList.{ItemList}
use Rattle.ml_list_desk.specs.Items.{item_seen, items_seen}
use Rattle.ml_list_desk.specs.inside.Outcomes.{IsChange, outcome_by, own_id}
use Rattle.ml_list_desk.specs.inside.Places.{IsPlace, StandsAt}
use Rattle.ml_list_desk.specs.declared.list_item.ListItem.{ListItem}
use Rattle.ml_list_desk.specs.declared.outcome.Outcome.{Outcome}
use Rattle.ml_list_desk.specs.declared.outcome.Outcome.TheVariants.{Absent, Added, Full, Present, Removed}
use Rattle.ml_list_desk.proofs.KeyOrder.{absent_there, present_there, put_there, removed_there}
use Rattle.ml_list_desk.proofs.Numbers.{map_inserted, map_removed}
use Rattle.ml_search.specs.Changes.{has_term, insert_by_key, without_id, without_term}
use Rattle.ml_search.specs.Db.{Id, is_allowed, is_same_id, is_stored_clause, is_tuple, Item, rises, with_id}
use Rattle.ml_term.specs.Tree.{Tree}
use Rattle.ml_term.specs.declared.declaration.Decl.{Decl}
use Rattle.ml_term.specs.declared.declaration.Kind.TheVariants.{Clauses, Relation}

module _ (few does : Bool) (done vain outcome : Outcome) (f : List Item → List Item) (old new : ItemList) where
  -- too many changes were made before
  pub full_change : few ≡ false → outcome ≡ Full → new ≡ old → IsChange few does done vain f old new outcome
  full_change e o n = record {
    outcome_is = o ∙ sym (ap (λ b. outcome_by b does done vain) e);
    items = ap (λ (l : ItemList). items_seen l.items) n ∙ sym (ap (λ b. cond (b && does) (f (items_seen old.items)) (items_seen old.items)) e);
    decl = ap (λ (l : ItemList). l.decl) n;
    more = [];
    pool = ap (λ (l : ItemList). l.pool) n ∙ sym (append-nil old.pool);
  }

  -- there is nothing to change
  pub vain_change : few ≡ true → does ≡ false → outcome ≡ vain → new ≡ old → IsChange few does done vain f old new outcome
  vain_change e d o n = record {
    outcome_is = o ∙ sym (ap (λ b. outcome_by b does done vain) e ∙ ap (λ b. outcome_by true b done vain) d);
    items =
        ap (λ (l : ItemList). items_seen l.items) n
        ∙ sym
        (ap (λ b. cond (b && does) (f (items_seen old.items)) (items_seen old.items)) e
        ∙ ap (λ b. cond (true && b) (f (items_seen old.items)) (items_seen old.items)) d);
    decl = ap (λ (l : ItemList). l.decl) n;
    more = [];
    pool = ap (λ (l : ItemList). l.pool) n ∙ sym (append-nil old.pool);
  }

  -- the list is changed
  pub done_change : few ≡ true → does ≡ true → outcome ≡ done → items_seen new.items ≡ f (items_seen old.items) → new.decl ≡ old.decl
      → (more : List ListItem) → new.pool ≡ old.pool ++ more → IsChange few does done vain f old new outcome
  done_change e d o i q more p = record {
    outcome_is = o ∙ sym (ap (λ b. outcome_by b does done vain) e ∙ ap (λ b. outcome_by true b done vain) d);
    items =
        i
        ∙ sym
        (ap (λ b. cond (b && does) (f (items_seen old.items)) (items_seen old.items)) e
        ∙ ap (λ b. cond (true && b) (f (items_seen old.items)) (items_seen old.items)) d);
    decl = q;
    more = more;
    pool = p;
  }

-- what a test of the changes says
pub no_more : (full few : Bool) → full ≡ not few → full ≡ true → few ≡ false
no_more full true e f = absurd (true≢false (sym f ∙ e))
no_more full false e f = refl

pub some_more : (full few : Bool) → full ≡ not few → full ≡ false → few ≡ true
some_more full true e f = refl
some_more full false e f = absurd (true≢false (sym e ∙ f))

module _ (few : Bool) (changes at : ℕ) (t : Tree) (old new : ItemList) where
  -- a tuple is put at its place
  pub tuple_added : (item : ListItem) → few ≡ true → IsPlace old.decl.keys t (items_seen old.items) at
      → item_seen item ≡ record { id = own_id changes; term = t }
      → new ≡ record { decl = old.decl; items = insert old.items at item; pool = old.pool ++ item ∷ [] }
      → IsChange few (not (has_term t (items_seen old.items))) Added Present (insert_by_key old.decl.keys (record { id = own_id changes; term = t }))
      old new Added
  tuple_added item e p q n =
      let keys = old.decl.keys in
      let is = items_seen old.items in
      let x : Item = record { id = own_id changes; term = t } in
      done_change few (not (has_term t is)) Added Present Added (insert_by_key keys x) old new e (ap not (absent_there keys t is at p)) refl
      (ap (λ (l : ItemList). items_seen l.items) n ∙ map_inserted item_seen old.items at item ∙ ap (insert is at) q ∙ sym (put_there keys is at x p))
      (ap (λ (l : ItemList). l.decl) n) (item ∷ []) (ap (λ (l : ItemList). l.pool) n)

  -- one is taken out
  pub tuple_removed : few ≡ true → rises old.decl.keys (items_seen old.items) ≡ true → StandsAt t (items_seen old.items) at
      → new ≡ record { decl = old.decl; items = remove old.items at; pool = old.pool }
      → IsChange few (has_term t (items_seen old.items)) Removed Absent (without_term t) old new Removed
  tuple_removed e r s n =
      let is = items_seen old.items in
      done_change few (has_term t is) Removed Absent Removed (without_term t) old new e (present_there old.decl.keys t is at s) refl
      (ap (λ (l : ItemList). items_seen l.items) n ∙ map_removed item_seen old.items at ∙ sym (removed_there old.decl.keys t is at r s))
      (ap (λ (l : ItemList). l.decl) n) []
      (ap (λ (l : ItemList). l.pool) n ∙ sym (append-nil old.pool))

  -- a clause is put at a place
  pub clause_added : (item : ListItem) → few ≡ true → item_seen item ≡ record { id = own_id changes; term = t }
      → new ≡ record { decl = old.decl; items = insert old.items at item; pool = old.pool ++ item ∷ [] }
      → IsChange few true Added Absent (λ is. insert is at (record { id = own_id changes; term = t })) old new Added
  clause_added item e q n =
      done_change few true Added Absent Added (λ is. insert is at (record { id = own_id changes; term = t })) old new e refl refl
      (ap (λ (l : ItemList). items_seen l.items) n ∙ map_inserted item_seen old.items at item ∙ ap (insert (items_seen old.items) at) q)
      (ap (λ (l : ItemList). l.decl) n) (item ∷ [])
      (ap (λ (l : ItemList). l.pool) n)

none_with : (a : Id) (is : List Item) → is_some (with_id a is) ≡ false → without_id a is ≡ is
none_with a [] e = refl
none_with a (i ∷ is) e = by (none_with a is) (is_same_id i.id a) refl
  where
    by : (is_some (with_id a is) ≡ false → without_id a is ≡ is) → (b : Bool) → is_same_id i.id a ≡ b → without_id a (i ∷ is) ≡ i ∷ is
    by further true f = let one : is_some (with_id a (i ∷ is)) ≡ true = rw f refl in absurd (true≢false (sym one ∙ e))
    by further false f = let none : is_some (with_id a is) ≡ false = rw f at e in rw f (ap (λ js. i ∷ js) (further none))

module _ (few found : Bool) (a : Id) (old new : ItemList) where
  -- a clause is taken out
  pub clause_removed : few ≡ true → found ≡ is_some (with_id a (items_seen old.items)) → found ≡ true
      → items_seen new.items ≡ without_id a (items_seen old.items)
      → new.decl ≡ old.decl → new.pool ≡ old.pool → IsChange few (is_some (with_id a (items_seen old.items))) Removed Absent (without_id a) old new Removed
  clause_removed e f g i d p =
      done_change few (is_some (with_id a (items_seen old.items))) Removed Absent Removed (without_id a) old new e (sym f ∙ g) refl i d []
      (p ∙ sym (append-nil old.pool))

  -- or it isn't there
  pub clause_absent : few ≡ true → found ≡ is_some (with_id a (items_seen old.items)) → found ≡ false
      → items_seen new.items ≡ without_id a (items_seen old.items)
      → new.decl ≡ old.decl → new.pool ≡ old.pool → IsChange few (is_some (with_id a (items_seen old.items))) Removed Absent (without_id a) old new Absent
  clause_absent e f g i d p = record {
    outcome_is = sym (ap (λ b. outcome_by b (is_some (with_id a (items_seen old.items))) Removed Absent) e
        ∙ ap (λ b. outcome_by true b Removed Absent) (sym f ∙ g));
    items =
        i
        ∙ none_with a (items_seen old.items) (sym f ∙ g)
        ∙ sym
        (ap (λ b. cond (b && is_some (with_id a (items_seen old.items))) (without_id a (items_seen old.items)) (items_seen old.items)) e
        ∙ ap (λ b. cond (true && b) (without_id a (items_seen old.items)) (items_seen old.items)) (sym f ∙ g));
    decl = d;
    more = [];
    pool = p ∙ sym (append-nil old.pool);
  }

-- ---- what may be put

pub tuple_allowed : (d : Decl) (t : Tree) → d.kind ≡ Relation → is_tuple d t ≡ true → is_allowed d t ≡ true
tuple_allowed d t k h = rw k h

pub clause_allowed : (d : Decl) (t : Tree) → d.kind ≡ Clauses → is_stored_clause d t ≡ true → is_allowed d t ≡ true
clause_allowed d t k h = rw k h

pub no_relation : (d : Decl) → d.kind ≡ Clauses → d.kind ≡ Relation → ⊥
no_relation d e f = let both : Clauses ≡ Relation = sym e ∙ f in cc
