use Rattle.ml_compile.proofs.TermsMatched.{matches_again, matches_next}
use Rattle.ml_compile.proofs.head.match_variable.Goals as goal

pub returns-then-n-met-clause-matched : goal.returns-then-n-met-clause-matched
returns-then-n-met-clause-matched c = rw c.in_ok-push.ensures.items (matches_again _ c.args.met c.args.n c.if-n-met.true)

pub returns-clause-matched : goal.returns-clause-matched
returns-clause-matched c = matches_next _ _ c.args.met c.args.n _ c.if-n-met.false c.requires c.in_ok-after.ensures c.in_ok-push-2.ensures.items
