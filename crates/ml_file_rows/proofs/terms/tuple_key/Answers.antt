-- A key can be made of a tuple.
use Rattle.std.proofs.Common.{◌≡◌, true, rules}
use Rattle.ml_search.specs.Db.{is_allowed}
use Rattle.ml_term.specs.Seen.{seen}
use Rattle.ml_file.proofs.KeyableItems.{keyable}
use Rattle.ml_file_rows.proofs.terms.tuple_key.Goals as goal

pub key_of-requires-clause-small : goal.key_of-requires-clause-small
key_of-requires-clause-small g c =
    let allowed : is_allowed c.decl-2.result.now (seen c.args.t.now) ≡ true = search rules in
    (keyable c.decl-2.result.now (seen c.args.t.now) allowed).small
