use Rattle.std.proofs.Common.{sym, ◌∙◌, Some, None, Ok, Err}
use Rattle.std.specs.Prelude.{Result, IfOk}
use Rattle.std.specs.declared.alloc.AllocError.{AllocError}
use Rattle.ml_locks.specs.declared.holders.Holders.{Holders}
use Rattle.ml_locks.proofs.StoredModes.{held_found}
use Rattle.ml_locks.proofs.file_locks.FileLocks.holders_of.Goals as goal

carried : (r : Result Holders AllocError) (P Q : Holders → Type 0) → ((h : Holders) → P h → Q h) → IfOk r P → IfOk r Q
carried (Ok h) P Q f p = f h p
carried (Err e) P Q f p = p

pub returns-in-Some : goal.returns-in-Some
returns-in-Some c = carried c.copy_of.result _ _
    (λ h same s. same s ∙ sym (held_found c.self.inside.units c.self.invariant _ c.self.view_is c.args.prefix.now.bits
    (Some c.in-Some.holders.now) c.in-Some.ensures.value s)) c.copy_of.ensures

pub returns-in-None : goal.returns-in-None
returns-in-None c s = sym (held_found c.self.inside.units c.self.invariant _ c.self.view_is c.args.prefix.now.bits None c.in-None.ensures.value s)
