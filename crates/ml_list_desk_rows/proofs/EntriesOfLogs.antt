-- What a log tells of its cursors, it tells entry by entry.
use Rattle.std.proofs.Common.{◌≡◌, ◌==◌, ◌&&◌, ◌||◌, ℕ, suc, Bool, true, false, List, [], ◌∷◌, length, refl, sym, ap, ◌∙◌, true≢false}
use Rattle.std.specs.Prelude.{Option, Some, None, is_some}
use Rattle.std.specs.Option.{option_map}
use Rattle.std.specs.List.{filter, filter_map, list_any}
use Rattle.ml_search.specs.Operations.{item_given, items_given, opened_lists}
use Rattle.ml_search.specs.Seen.{log_seen}
use Rattle.ml_search.specs.declared.operation.Op.{Op}
use Rattle.ml_search.specs.declared.operation.Op.TheVariants.{Open, Next, Insert, Delete, Assertz, Asserta, DeleteAt}
use Rattle.ml_search.specs.declared.operation.Reply.{Reply}
use Rattle.ml_search.specs.declared.operation.Reply.TheVariants.{Cursor, Item, End, Added, Present, Removed, Absent, Full}
use Rattle.ml_list_desk_rows.specs.Entries.{gave, gave_numbered, list_opened}

pub whole : (o : Option ℕ) → option_map (λ n. n) o ≡ o
whole None = refl
whole (Some n) = refl

pub opened_by_entries : (l : List (Op × Reply)) → filter_map list_opened l ≡ opened_lists (log_seen l)
opened_by_entries [] = refl
opened_by_entries ((Open d p, r) ∷ l) = ap (λ xs. d ∷ xs) (opened_by_entries l)
opened_by_entries ((Next c i, r) ∷ l) = opened_by_entries l
opened_by_entries ((Insert t, r) ∷ l) = opened_by_entries l
opened_by_entries ((Delete t, r) ∷ l) = opened_by_entries l
opened_by_entries ((Assertz t, r) ∷ l) = opened_by_entries l
opened_by_entries ((Asserta t, r) ∷ l) = opened_by_entries l
opened_by_entries ((DeleteAt c i, r) ∷ l) = opened_by_entries l

pub given_by_entries : (l : List (Op × Reply)) (c : ℕ) → length (filter (gave c) l) ≡ length (items_given (log_seen l) c)
given_by_entries [] c = refl
given_by_entries ((Open d p, r) ∷ l) c = given_by_entries l c
given_by_entries ((Next k n, Item t) ∷ l) c = by (given_by_entries l c) (k == c) refl
  where
    by : length (filter (gave c) l) ≡ length (items_given (log_seen l) c) → (b : Bool) → (k == c) ≡ b
        → length (filter (gave c) ((Next k n, Item t) ∷ l)) ≡ length (items_given (log_seen ((Next k n, Item t) ∷ l)) c)
    by later true e = rw e (ap suc later)
    by later false e = rw e later
given_by_entries ((Next k n, Cursor d) ∷ l) c = given_by_entries l c
given_by_entries ((Next k n, End) ∷ l) c = given_by_entries l c
given_by_entries ((Next k n, Added) ∷ l) c = given_by_entries l c
given_by_entries ((Next k n, Present) ∷ l) c = given_by_entries l c
given_by_entries ((Next k n, Removed) ∷ l) c = given_by_entries l c
given_by_entries ((Next k n, Absent) ∷ l) c = given_by_entries l c
given_by_entries ((Next k n, Full) ∷ l) c = given_by_entries l c
given_by_entries ((Insert t, r) ∷ l) c = given_by_entries l c
given_by_entries ((Delete t, r) ∷ l) c = given_by_entries l c
given_by_entries ((Assertz t, r) ∷ l) c = given_by_entries l c
given_by_entries ((Asserta t, r) ∷ l) c = given_by_entries l c
given_by_entries ((DeleteAt d i, r) ∷ l) c = given_by_entries l c

pub numbered_by_entries : (l : List (Op × Reply)) (c i : ℕ) → list_any (gave_numbered c i) l ≡ true → is_some (item_given (log_seen l) c i) ≡ true
numbered_by_entries [] c i h = absurd (true≢false (sym h))
numbered_by_entries ((Open d p, r) ∷ l) c i h = numbered_by_entries l c i h
numbered_by_entries ((Next k n, Item t) ∷ l) c i h = by (numbered_by_entries l c i) (k == c) refl (n == i) refl h
  where
    by : (list_any (gave_numbered c i) l ≡ true → is_some (item_given (log_seen l) c i) ≡ true) → (b : Bool) → (k == c) ≡ b → (q : Bool) → (n == i) ≡ q
        → list_any (gave_numbered c i) ((Next k n, Item t) ∷ l) ≡ true
        → is_some (item_given (log_seen ((Next k n, Item t) ∷ l)) c i) ≡ true
    by in_rest true e true f g = rw e (rw f refl)
    by in_rest true e false f g =
        let later : list_any (gave_numbered c i) l ≡ true =
        sym (ap (λ x. (x && (n == i)) || list_any (gave_numbered c i) l) e ∙ ap (λ x. (true && x) || list_any (gave_numbered c i) l) f) ∙ g in
        rw e (rw f (in_rest later))
    by in_rest false e q f g =
        let later : list_any (gave_numbered c i) l ≡ true = sym (ap (λ x. (x && (n == i)) || list_any (gave_numbered c i) l) e) ∙ g in
        rw e (in_rest later)
numbered_by_entries ((Next k n, Cursor d) ∷ l) c i h = numbered_by_entries l c i h
numbered_by_entries ((Next k n, End) ∷ l) c i h = numbered_by_entries l c i h
numbered_by_entries ((Next k n, Added) ∷ l) c i h = numbered_by_entries l c i h
numbered_by_entries ((Next k n, Present) ∷ l) c i h = numbered_by_entries l c i h
numbered_by_entries ((Next k n, Removed) ∷ l) c i h = numbered_by_entries l c i h
numbered_by_entries ((Next k n, Absent) ∷ l) c i h = numbered_by_entries l c i h
numbered_by_entries ((Next k n, Full) ∷ l) c i h = numbered_by_entries l c i h
numbered_by_entries ((Insert t, r) ∷ l) c i h = numbered_by_entries l c i h
numbered_by_entries ((Delete t, r) ∷ l) c i h = numbered_by_entries l c i h
numbered_by_entries ((Assertz t, r) ∷ l) c i h = numbered_by_entries l c i h
numbered_by_entries ((Asserta t, r) ∷ l) c i h = numbered_by_entries l c i h
numbered_by_entries ((DeleteAt d n, r) ∷ l) c i h = numbered_by_entries l c i h
