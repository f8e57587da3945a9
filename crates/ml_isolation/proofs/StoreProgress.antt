-- A store goes on as the log of its replies tells.
use Rattle.std.specs.Prelude.{◌≡◌, Bool, true, false, nat_lt, cond, List, [], ◌∷◌, ◌++◌, length, Option, Some, None}
use Rattle.std.proofs.Common.{refl, ap, ◌∙◌, arith, length-append}
use Rattle.ml_term.specs.declared.declaration.Decl.{Decl}
use Rattle.ml_search.specs.Limits.{max_changes}
use Rattle.ml_search.specs.Db.{mine, Item}
use Rattle.ml_search.specs.Changes.{Change, Lists, ItemName, Alter, puts, takes, puts_first, puts_last, Effect, change_made, no_change, db_after_change}
use Rattle.ml_search.specs.Changes.{would_change, change_of, alter}
use Rattle.ml_search.specs.Changes as C
use Rattle.ml_search.specs.Operations.{Operation, opens, next, insert, delete, assertz, asserta, delete_at, absent, full}
use Rattle.ml_search.specs.LogChanges.{is_change}
use Rattle.ml_search.specs.Replay.{Store, item_reply, member, alter_of, reply_by, reply_to_change, progress_by_change, progress_by, reply}
use Rattle.ml_search.proofs.LogProgress.{progress_of}

abbrev is_changed : Effect → Bool
is_changed change_made = true
is_changed no_change = false
is_changed C.change_limit = false

-- a reply tells of a change exactly where there was one
change_is_told : (o : Operation) (e : Effect) → is_change (reply_by o e) ≡ is_changed e
change_is_told o C.change_limit = refl
change_is_told (opens d p) change_made = refl
change_is_told (opens d p) no_change = refl
change_is_told (next c i) change_made = refl
change_is_told (next c i) no_change = refl
change_is_told (insert t) change_made = refl
change_is_told (insert t) no_change = refl
change_is_told (delete t) change_made = refl
change_is_told (delete t) no_change = refl
change_is_told (assertz t) change_made = refl
change_is_told (assertz t) no_change = refl
change_is_told (asserta t) change_made = refl
change_is_told (asserta t) no_change = refl
change_is_told (delete_at c i) change_made = refl
change_is_told (delete_at c i) no_change = refl

module _ (decls : List Decl) where
  by_tests : (full_or_not changes_or_not : Bool) (c : Alter ItemName) (s : Store)
      → (let x : Effect × Lists =
      cond full_or_not
      (cond changes_or_not (
        change_made,
        record {
          db = db_after_change decls (record { place = mine; change = length s.lists.made }) c s.lists.db;
          made = s.lists.made ++ change_of decls c s.lists.db ∷ [];
        },
      ) (no_change, s.lists))
      (C.change_limit, s.lists)
      in progress_by_change decls mine (is_changed x.0) (Some c) (progress_of s) ≡ progress_of (record s { lists = x.1 }))
  by_tests true true c s =
      ap (λ n. record { db = db_after_change decls (record { place = mine; change = length s.lists.made }) c s.lists.db; cursors = s.cursors; changes = n })
      (omega (arith, length-append s.lists.made (change_of decls c s.lists.db ∷ [])))
  by_tests true false c s = refl
  by_tests false b c s = refl

  not_told : (b : Bool) → is_change (cond b absent full) ≡ false
  not_told true = refl
  not_told false = refl

  item_is_no_change : (o : Option Item) → is_change (item_reply o) ≡ false
  item_is_no_change None = refl
  item_is_no_change (Some i) = refl

  change_progresses : (c : Option (Alter ItemName)) (o : Operation) (s : Store) →
      progress_by_change decls mine (is_change (reply_to_change decls c o s).0) c (progress_of s) ≡ progress_of (reply_to_change decls c o s).1
  change_progresses None o s = ap (λ b. progress_by_change decls mine b None (progress_of s)) (not_told (nat_lt (length s.lists.made) max_changes))
  change_progresses (Some c) o s =
      ap (λ b. progress_by_change decls mine b (Some c) (progress_of s)) (change_is_told o (alter decls c s.lists).0)
      ∙ by_tests (nat_lt (length s.lists.made) max_changes) (would_change decls c s.lists.db) c s

  -- an operation with its reply
  pub progress_step : (o : Operation) (s : Store) → progress_by decls mine (o, (reply decls o s).0) (progress_of s) ≡ progress_of (reply decls o s).1
  progress_step (opens d p) s = refl
  progress_step (next c i) s = ap (λ b. progress_by_change decls mine b None (progress_of s)) (item_is_no_change (member s.cursors c i))
  progress_step (insert t) s = change_progresses (alter_of s.cursors (insert t)) (insert t) s
  progress_step (delete t) s = change_progresses (alter_of s.cursors (delete t)) (delete t) s
  progress_step (assertz t) s = change_progresses (alter_of s.cursors (assertz t)) (assertz t) s
  progress_step (asserta t) s = change_progresses (alter_of s.cursors (asserta t)) (asserta t) s
  progress_step (delete_at c i) s = change_progresses (alter_of s.cursors (delete_at c i)) (delete_at c i) s
