-- Lists that give a log's replies give those of a log that begins it.
use Rattle.std.proofs.Common.{◌≡◌, List, ◌++◌, sym, ap, ◌∙◌, subst}
use Rattle.std.proofs.lemmas.List.{map-append}
use mathlib.Core.List.{IsPrefix}
use Rattle.ml_term.specs.declared.declaration.Decl.{Decl}
use Rattle.ml_search.specs.Db.{Db}
use Rattle.ml_search.specs.Operations.{Log}
use Rattle.ml_search.specs.Replay.{Replays}
use Rattle.ml_search.specs.Seen.{log_seen, operation_seen, reply_seen}
use Rattle.ml_search.specs.declared.operation.Op.{Op}
use Rattle.ml_search.specs.declared.operation.Reply.{Reply}
use Rattle.ml_search.proofs.LogBeginnings.{beginning}

-- the lists that give one log's replies give the other's
abbrev pub AllReplay : List Decl → Log → Log → Type 0
AllReplay decls k l = (db : Db) → Replays decls db k → Replays decls db l

pub all_replay : (decls : List Decl) (l k : List (Op × Reply)) → IsPrefix l k → AllReplay decls (log_seen k) (log_seen l)
all_replay decls l k p db h =
    let parts : log_seen k ≡ log_seen l ++ log_seen p.0 = ap log_seen (sym p.1) ∙ map-append (λ (e : Op × Reply). (operation_seen e.0, reply_seen e.1)) l p.0 in
    beginning decls db (log_seen l) (log_seen p.0) (subst (λ (x : Log). Replays decls db x) parts h)
