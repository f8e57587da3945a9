use Rattle.ml_file.proofs.KeyableItems.{keyable}
use Rattle.ml_term.specs.Seen.{seen}
use Rattle.ml_bench.proofs.relation.Relation.has.Goals as goal

pub key_of-requires-clause-small : goal.key_of-requires-clause-small
key_of-requires-clause-small c = (keyable c.args.self.now.file.decl (seen c.in_ok-tuple.tuple) c.in_ok-tuple.ensures).small
