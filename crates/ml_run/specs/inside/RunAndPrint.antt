-- What the sessions of inputs print, and why they don't. The code makes all blocks and then writes
-- them. No public clause cites this module.
use Rattle.std.specs.Prelude.{◌≡◌, ◌⊎◌, ℕ, List, Option}
use Rattle.ml_outside.specs.Causes.{Rose}
use Rattle.ml_outside.specs.Written.{AppendedFront}
use Rattle.ml_run.specs.Prints.{PrintsHistory}
use Rattle.ml_run.specs.inside.Seen.{rules_seen, scripts_seen}
use Rattle.ml_run.specs.declared.inputs.Inputs.{Inputs}
use Rattle.ml_run.specs.declared.status.Status.{Status}
use Rattle.ml_run.specs.declared.status.Status.TheVariants.{WriteFailed, OutOfMemory}

-- the printed history of inputs
abbrev pub PrintsInputs : Inputs → (List ℕ → Type 0) → Type 0
PrintsInputs i =
    PrintsHistory (rules_seen i.rules).0 (rules_seen i.rules).1 (scripts_seen i.scripts.items)

-- Why the print wasn't written whole, with the counts of the sink's faults: a beginning of it was
-- appended.
abbrev pub PrintStops : Inputs → ℕ → ℕ → Option (List ℕ) → Option (List ℕ) → Status → Type 0
PrintStops i faults faults_now before after WriteFailed =
    Rose faults faults_now × PrintsInputs i (AppendedFront before after)
PrintStops i faults faults_now before after OutOfMemory =
    (after ≡ before) ⊎ PrintsInputs i (AppendedFront before after)
PrintStops i faults faults_now before after status = ⊥
