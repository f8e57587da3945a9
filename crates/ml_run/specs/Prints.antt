-- What a run prints. The code writes a block for each session; here it is the print of the whole
-- history.
use Rattle.std.specs.Prelude.{◌≡◌, ◌⊎◌, ℕ, Bool, List, map, length, Option, IfSome}
use Rattle.ml_outside.specs.Held.{Files}
use Rattle.ml_outside.specs.Written.{AppendedFront}
use Rattle.ml_term.specs.Tree.{Tree}
use Rattle.ml_term.specs.Keys.{numbers_from}
use Rattle.ml_search.specs.History.{history}
use Rattle.ml_search.specs.Loading.{first_db}
use Rattle.ml_search.specs.Printed.{print_of}
use Rattle.ml_search.specs.Program.{Program, Script}
use Rattle.ml_run.specs.Outcomes.{inputs, Leads}
use Rattle.ml_run.specs.declared.status.Status.{Status}
use Rattle.ml_run.specs.declared.status.Status.TheVariants.{Done, WriteFailed, OutOfMemory}

-- The printed history of the sessions of scripts over initial items, in order of number from 1;
-- `happened` is said of its bytes. Each session may have been entered as out of memory, which the
-- order says.
pub record PrintsHistory (program : Program) (items : List (ℕ × Tree)) (scripts : List Script)
    (happened : List ℕ → Type 0) : Type 0 where
  pub order : List (ℕ × Bool)
  pub numbers : map (λ o. o.0) order ≡ numbers_from 1 (length scripts)
  pub happened_to : happened
      (print_of (history program (first_db program.decls items) scripts order).0)

-- the same of the inputs to which the words lead
pub record Prints (files : Files) (words : List (List ℕ))
    (happened : List ℕ → Type 0) : Type 0 where
  pub program : Program
  pub items : List (ℕ × Tree)
  pub scripts : List Script
  pub lead : Leads files words (inputs program items scripts)
  pub sessions : PrintsHistory program items scripts happened

-- a beginning of such a print was appended
abbrev pub BeginsPrint : Option Files → List (List ℕ) → Option (List ℕ) → Option (List ℕ) → Type 0
BeginsPrint held words before after =
    IfSome held (λ files. Prints files words (AppendedFront before after))

-- What was appended is a beginning of the print, by the status: after a refusal it is nothing, and
-- where memory was refused it may be nothing.
abbrev pub IsBeginning : Option Files → List (List ℕ) → Option (List ℕ) → Option (List ℕ) → Status →
    Type 0
IsBeginning held words before after Done = BeginsPrint held words before after
IsBeginning held words before after WriteFailed = BeginsPrint held words before after
IsBeginning held words before after OutOfMemory =
    (after ≡ before) ⊎ BeginsPrint held words before after
IsBeginning held words before after status = after ≡ before
