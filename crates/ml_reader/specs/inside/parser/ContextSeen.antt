-- What the program's context stands for. No public clause cites this module.
use Rattle.std.specs.Prelude.{◌≤◌, []}
use Rattle.ml_token.specs.declared.tokens.Token.{Token}
use Rattle.ml_reader.specs.Tokens as T
use Rattle.ml_reader.specs.declared.parser.context.TokenContext.{TokenContext}

-- a context
abbrev pub context_seen : TokenContext → T.TokenContext
context_seen c = record {
  to = c.to;
  tokens = c.tokens;
  first = c.first;
  last = c.last;
  names =
      c.names;
  variables = c.variables;
}

-- the counts of a context are no more than the bytes before the next token
pub record IsWithin (c : T.TokenContext) : Type 0 where
  pub tokens : c.tokens ≤ c.to
  pub variables : c.variables ≤ c.to

-- what the first token of a clause finds before it, behind the end of another
abbrev pub behind_end : Token → T.TokenContext
behind_end t =
    record { to = t.to; tokens = 0; first = t.to; last = t.from; names = []; variables = 0 }
