use Rattle.std.proofs.Common.{◌≡◌, ◌+◌, ◌≤◌, length, drop, length-drop, ap, sym, ◌∙◌, arith}
use Rattle.ml_token.specs.inside.Tokens.{first_token}
use Rattle.ml_token.proofs.ScannerComplete.{token-only, fault-only}
use Rattle.ml_token.proofs.ScannerTotal.{token-found, fault-found}
use Rattle.ml_token.proofs.SpelledNames.{found-spelled}
use Rattle.ml_token.proofs.TokensInText.{Fits, fits-first_token, token-stands, fault-stands}
use Rattle.ml_token.proofs.scan.next_token.Goals as goal

exact : (c : goal.After-token_at) → c.token_at.result ≡ first_token c.args.bytes.now c.args.at
unfolding first_token
exact c = rw (c.token_at.ensures, c.split_at-2.ensures.back, c.gap_len-gap.ensures.len, c.split_at.ensures.back)

pub returns-clause-exact : goal.returns-clause-exact
returns-clause-exact c = exact c

pub returns-clause-token : goal.returns-clause-token
returns-clause-token c =
    λ t. (λ is. token-found c.args.bytes.now c.args.at t (sym (exact c) ∙ is), λ has. exact c ∙ token-only c.args.bytes.now c.args.at t has)

pub returns-clause-fault : goal.returns-clause-fault
returns-clause-fault c =
    λ f. (λ is. fault-found c.args.bytes.now c.args.at f (sym (exact c) ∙ is), λ has. exact c ∙ fault-only c.args.bytes.now c.args.at f has)

-- the gap leaves no more than the text has
within : (c : goal.After-token_at) → c.args.at + c.gap_len-gap.result ≤ length c.args.bytes.now
within c =
    let rest : length c.split_at.result.1.now ≡ length (drop c.args.at c.args.bytes.now) = ap length c.split_at.ensures.back in
    omega (arith, rest, length-drop c.args.at c.args.bytes.now)

fits : (c : goal.After-token_at) → Fits (c.args.at + c.gap_len-gap.result) (drop (c.args.at + c.gap_len-gap.result) c.args.bytes.now) c.token_at.result
fits c = rw (c.token_at.ensures, c.split_at-2.ensures.back, c.split_at.ensures.back) (fits-first_token c.args.bytes.now c.args.at c.gap_len-gap.result)

pub returns-clause-stands : goal.returns-clause-stands
returns-clause-stands c = token-stands c.args.bytes.now c.args.at c.gap_len-gap.result c.token_at.result (within c) (fits c)

pub returns-clause-place : goal.returns-clause-place
returns-clause-place c = fault-stands c.args.bytes.now c.args.at c.gap_len-gap.result c.token_at.result (within c) (fits c)

pub returns-clause-name : goal.returns-clause-name
returns-clause-name c = found-spelled c.args.bytes.now c.args.at c.token_at.result (exact c)
