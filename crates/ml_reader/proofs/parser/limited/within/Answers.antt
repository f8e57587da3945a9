use Rattle.std.proofs.Common.{◌≡◌, false, arith}
use Rattle.std.specs.Prelude.{nat_le, nat_lt}
use Rattle.std.proofs.lemmas.Bool.{le-ltb}
use Rattle.ml_reader.specs.inside.parser.Frames.{state_seen}
use Rattle.ml_reader.specs.inside.parser.LimitedSteps.{levels}
use Rattle.ml_reader.specs.Limits.{max_text_levels, max_clause_tokens}
use Rattle.ml_reader.proofs.Parsing.TokensAfterOperands.{leb_not}
use Rattle.ml_reader.proofs.Parsing.StackDepths.{sized_seen}
use Rattle.ml_reader.proofs.parser.limited.within.Goals as goal

pub returns-else-lone : goal.returns-else-lone
returns-else-lone c =
    let a : nat_lt max_text_levels (levels (state_seen c.args.next)) ≡ false =
    le-ltb _ _ (omega (arith, c.if-levels-gt-MAX_TEXT_LEVELS.false, c.levels.ensures)) in
    let b : nat_le max_clause_tokens c.args.here.tokens ≡ false = leb_not _ _ (omega (arith, c.if-here-ge-MAX_CLAUSE_TOKENS.false)) in
    rw (a, b, c.if-lone.false) (sized_seen c.args.next)
