-- The replies of plain lists are of their kinds, where a change is asked for.
use Rattle.std.proofs.Common.{◌≡◌, Bool, true, false, List, length, refl}
use Rattle.std.specs.Prelude.{nat_lt, Option, Some, None}
use Rattle.ml_list_desk.specs.inside.ListDesks.{asks_change}
use Rattle.ml_search.specs.Changes.{alter, Alter, change_limit, change_made, Effect, ItemName, Lists, no_change, puts, puts_first, puts_last, takes, would_change}
use Rattle.ml_search.specs.Limits.{max_changes}
use Rattle.ml_search.specs.Operations.{asserta, assertz, delete, delete_at, insert, is_reply_after, Log, next, opens, Operation}
use Rattle.ml_search.specs.Replay.{alter_of, reply, reply_by, reply_to_change, Store}
use Rattle.ml_term.specs.declared.declaration.Decl.{Decl}

module _ (decls : List Decl) (l : Log) where
  -- what holds of each effect that a change can have holds of its effect
  effect_of : (P : Effect → Type 0) (c : Alter ItemName) (s : Lists) → P change_limit → P change_made → (would_change decls c s.db ≡ false → P no_change)
      → P (alter decls c s).0
  effect_of P c s limit made none = by (nat_lt (length s.made) max_changes) (would_change decls c s.db) refl refl
    where
      by : (few does : Bool) → nat_lt (length s.made) max_changes ≡ few → would_change decls c s.db ≡ does → P (alter decls c s).0
      by false does e f = rw e limit
      by true true e f = rw (e, f) made
      by true false e f = rw (e, f) (none f)

  pub kind_of_change : (o : Operation) (s : Store) → asks_change o ≡ true → is_reply_after decls l o (reply decls o s).0 ≡ true
  kind_of_change (opens d p) s e = cc
  kind_of_change (next c i) s e = cc
  kind_of_change (insert t) s e = effect_of (λ x. is_reply_after decls l (insert t) (reply_by (insert t) x) ≡ true) (puts t) s.lists refl refl (λ _. refl)
  kind_of_change (delete t) s e = effect_of (λ x. is_reply_after decls l (delete t) (reply_by (delete t) x) ≡ true) (takes t) s.lists refl refl (λ _. refl)
  kind_of_change (assertz t) s e = effect_of (λ x. is_reply_after decls l (assertz t) (reply_by (assertz t) x) ≡ true) (puts_last t) s.lists refl refl
      (λ f. cc)
  kind_of_change (asserta t) s e = effect_of (λ x. is_reply_after decls l (asserta t) (reply_by (asserta t) x) ≡ true) (puts_first t) s.lists refl refl
      (λ f. cc)
  kind_of_change (delete_at c i) s e = by (alter_of s.cursors (delete_at c i))
    where
      none_here : (few : Bool) → nat_lt (length s.lists.made) max_changes ≡ few
          → is_reply_after decls l (delete_at c i) (reply_to_change decls None (delete_at c i) s).0 ≡ true
      none_here true f = rw f refl
      none_here false f = rw f refl

      by : (x : Option (Alter ItemName)) → is_reply_after decls l (delete_at c i) (reply_to_change decls x (delete_at c i) s).0 ≡ true
      by None = none_here (nat_lt (length s.lists.made) max_changes) refl
      by (Some a) = effect_of (λ x. is_reply_after decls l (delete_at c i) (reply_by (delete_at c i) x) ≡ true) a s.lists refl refl (λ _. refl)
