-- A text that is put behind others, and may be taken off their end again. No public clause cites
-- this module.
use Rattle.std.specs.Prelude.{ℕ, List}

-- the bytes that stood there, and the text behind them
pub record DraftText : Type 0 where
  pub before : List ℕ
  pub text : List ℕ
