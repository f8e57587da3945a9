use Rattle.std.proofs.Common.{sym, subst, ◌∙◌, Some, None}
use Rattle.std.specs.Prelude.{IsSome}
use Rattle.ml_locks.proofs.Alone.{alone}
use Rattle.ml_locks.proofs.StoredModes.{held_found}
use Rattle.ml_locks.proofs.file_locks.FileLocks.mode_of.Goals as goal

pub returns-in-Some-clause-value : goal.returns-in-Some-clause-value
returns-in-Some-clause-value c = c.mode_of.ensures
    ∙ sym (held_found c.self.inside.units c.self.invariant _ c.self.view_is c.args.prefix.now.bits
    (Some c.in-Some.holders.now) c.in-Some.ensures.value c.args.session)

pub returns-in-Some-clause-alone : goal.returns-in-Some-clause-alone
returns-in-Some-clause-alone c e other f = alone c.in-Some.holders.now c.args.session other (sym c.mode_of.ensures ∙ e)
    (subst IsSome (held_found c.self.inside.units c.self.invariant _ c.self.view_is c.args.prefix.now.bits
    (Some c.in-Some.holders.now) c.in-Some.ensures.value other) f)

pub returns-in-None-clause-value : goal.returns-in-None-clause-value
returns-in-None-clause-value c =
    sym (held_found c.self.inside.units c.self.invariant _ c.self.view_is c.args.prefix.now.bits None c.in-None.ensures.value c.args.session)
