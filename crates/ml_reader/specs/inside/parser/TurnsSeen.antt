-- What a turn of the program comes to. No public clause cites this module.
use Rattle.std.specs.Prelude.{[], ◌∷◌}
use Rattle.ml_reader.specs.inside.parser.Parser as P
use Rattle.ml_reader.specs.Seen.{read_seen}
use Rattle.ml_reader.specs.inside.parser.Frames.{state_seen}
use Rattle.ml_reader.specs.inside.parser.ContextSeen.{context_seen}
use Rattle.ml_reader.specs.inside.parser.Turns.{ReadOutcome, reads_on, ends_between, finds_fault}
use Rattle.ml_reader.specs.declared.parser.turn.ReadStep.{ReadStep}
use Rattle.ml_reader.specs.declared.parser.turn.ReadStep.TheVariants.{Go, Clause, Whole, Wrong}

-- what a turn of the code comes to
abbrev pub read_step_seen : ReadStep → ReadOutcome
read_step_seen (Go c s) = reads_on (context_seen c) (state_seen s)
read_step_seen (Clause c r) = reads_on (context_seen c) (P.expect_term (P.root (read_seen r ∷ [])))
read_step_seen Whole = ends_between
read_step_seen (Wrong f) = finds_fault f
