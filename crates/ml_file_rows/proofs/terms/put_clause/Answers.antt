-- A key can be made of a clause.
use Rattle.std.proofs.Common.{◌≡◌, true, rules}
use Rattle.ml_search.specs.Db.{is_allowed}
use Rattle.ml_term.specs.Seen.{seen}
use Rattle.ml_file.proofs.KeyableItems.{keyable}
use Rattle.ml_file_rows.proofs.terms.put_clause.Goals as goal

pub key_of-requires-clause-arity : goal.key_of-requires-clause-arity
key_of-requires-clause-arity g c =
    let allowed : is_allowed c.decl-2.result.now (seen c.args.t) ≡ true = search rules in
    (keyable c.decl-2.result.now (seen c.args.t) allowed).has_arguments

pub key_of-requires-clause-small : goal.key_of-requires-clause-small
key_of-requires-clause-small g c =
    let allowed : is_allowed c.decl-2.result.now (seen c.args.t) ≡ true = search rules in
    (keyable c.decl-2.result.now (seen c.args.t) allowed).small
