use Rattle.ml_token.proofs.ScannerComplete.{token-only, fault-only}
use Rattle.ml_token.proofs.TokensInText.{first-stands, first-fails}
use Rattle.ml_token.proofs.token_laws.tokens_stand_in_their_text.Goals as goal

pub returns-clause-token : goal.returns-clause-token
returns-clause-token c = λ bytes at t within has. first-stands bytes at t within (token-only bytes at t has)

pub returns-clause-fault : goal.returns-clause-fault
returns-clause-fault c = λ bytes at f within has. first-fails bytes at f within (fault-only bytes at f has)
