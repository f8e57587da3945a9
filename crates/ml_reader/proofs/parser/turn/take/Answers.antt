use Rattle.std.proofs.Common.{sym, ap, subst, arith}
use Rattle.ml_reader.specs.inside.parser.ContextSeen.{IsWithin, context_seen}
use Rattle.ml_reader.proofs.Parsing.ContextCounts.{behind_within, behind_ends}
use Rattle.ml_reader.proofs.Parsing.TurnOutcomes.{not_eof_is}
use Rattle.ml_reader.proofs.parser.turn.take.Goals as goal

pub name_over_limit-requires-clause-within : goal.name_over_limit-requires-clause-within
name_over_limit-requires-clause-within c =
    let h = behind_ends c.args.bytes.now (context_seen c.args.context) c.args.token.now c.requires.stands (not_eof_is _ c.requires.some) in
    let e = ap (λ d. d.to) c.in_ok-lexeme.ensures.context in
    omega arith

pub name_over_limit-requires-clause-counts : goal.name_over_limit-requires-clause-counts
name_over_limit-requires-clause-counts c =
    subst IsWithin (sym c.in_ok-lexeme.ensures.context) (behind_within c.args.bytes.now (context_seen c.args.context) c.args.token.now c.requires.counts
    c.requires.stands (not_eof_is _ c.requires.some))
