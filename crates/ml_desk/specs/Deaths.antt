-- Deaths of sessions. In the code a death comes with the answer of a call; here it is read off the
-- answer.
use Rattle.std.specs.Prelude.{Option, Some, None, Result, Ok, Err}
use Rattle.ml_desk.specs.declared.death.Death.{Death}
use Rattle.ml_desk.specs.declared.stop.DeskStop.{DeskStop}
use Rattle.ml_desk.specs.declared.stop.DeskStop.TheVariants.{Died, OutOfMemory}

-- the death that an answer tells of, if it does
abbrev pub death_of : {A : Type 0} → Result A DeskStop → Option Death
death_of (Ok reply) = None
death_of (Err (Died death)) = Some death
death_of (Err OutOfMemory) = None
