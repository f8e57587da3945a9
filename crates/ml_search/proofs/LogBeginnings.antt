-- The replies of a beginning of a log.
use Rattle.std.specs.Prelude.{◌≡◌, List, [], ◌∷◌, ◌++◌, map}
use Rattle.std.proofs.Common.{refl, ap, arith}
use Rattle.ml_term.specs.declared.declaration.Decl.{Decl}
use Rattle.ml_search.specs.Db.{Db}
use Rattle.ml_search.specs.Operations.{Operation, Log}
use Rattle.ml_search.specs.Replay.{Store, reply, replies, store_after, first_store, Replays}

module _ (decls : List Decl) where
  -- operations in two parts
  pub in_parts : (os ps : List Operation) (s : Store) → replies decls (os ++ ps) s ≡ replies decls os s ++ replies decls ps (store_after decls os s)
  in_parts [] ps s = refl
  in_parts (o ∷ os) ps s = ap (λ rs. (reply decls o s).0 ∷ rs) (in_parts os ps (reply decls o s).1)

  pub store_in_parts : (os ps : List Operation) (s : Store) → store_after decls (os ++ ps) s ≡ store_after decls ps (store_after decls os s)
  store_in_parts [] ps s = refl
  store_in_parts (o ∷ os) ps s = store_in_parts os ps (reply decls o s).1

  beginning_from : (l k : Log) (s : Store) → replies decls (map (λ e. e.0) (l ++ k)) s ≡ map (λ e. e.1) (l ++ k) →
      replies decls (map (λ e. e.0) l) s ≡ map (λ e. e.1) l
  beginning_from [] k s h = refl
  beginning_from (e ∷ l) k s h = grind (arith, h, beginning_from l k (reply decls e.0 s).1)

  -- where plain lists give a log's replies, they give those of its beginning
  pub beginning : (db : Db) (l k : Log) → Replays decls db (l ++ k) → Replays decls db l
  beginning db l k h = beginning_from l k (first_store decls db) h
