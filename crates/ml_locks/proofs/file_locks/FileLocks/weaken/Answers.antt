use Rattle.std.proofs.Common.{◌≡◌, sym, ap, ◌∙◌, subst, cond, Some, None, refl}
use Rattle.std.specs.Prelude.{◌==◌, IsSome}
use Rattle.ml_locks.specs.Modes.{held_in, same_bits}
use Rattle.ml_locks.specs.inside.Stored.{holder_mode}
use Rattle.ml_locks.proofs.StoredModes.{held_found, held_updated, same_prefix, at_holder}
use Rattle.ml_locks.proofs.Anyone.{none_is_some}
use Rattle.ml_locks.proofs.file_locks.FileLocks.weaken.Goals as goal
use Rattle.ml_locks.proofs.file_locks.FileLocks.weaken.Goals.{In-Some}

was : (c : In-Some) → (s : _) → held_in c.args.self.now s c.args.prefix.now.bits ≡ holder_mode c.in-Some.holders.now s
was c s = held_found c.self.inside.units c.self.invariant _ c.self.view_is c.args.prefix.now.bits (Some c.in-Some.holders.now) c.in-Some.ensures.value s

pub weaken-requires-clause-held : goal.weaken-requires-clause-held
weaken-requires-clause-held c = subst IsSome (was (goal.at.weaken-requires-clause-held c).In-Some c.args.session) c.requires.held

pub weaken-requires-clause-weaker : goal.weaken-requires-clause-weaker
weaken-requires-clause-weaker c e = sym (was (goal.at.weaken-requires-clause-weaker c).In-Some c.args.session) ∙ c.requires.weaker e

pub unreachable-requires : goal.unreachable-requires
unreachable-requires c =
    none_is_some _
    (held_found c.self.inside.units c.self.invariant _ c.self.view_is c.args.prefix.now.bits None
    c.in-None.ensures.value c.args.session) c.requires.held

pub returns : goal.returns
returns c s u =
    let lent = c.get_mut.follows.lender c.weaken.new.self in
    let holds = c.get_mut.follows.holds c.weaken.new.self in
    let found = subst IsSome c.in-Some.ensures.value refl in
    let before = was (goal.at.returns c).In-Some s in
    held_updated c.self.inside.units lent c.self.invariant holds.4 _ c.self.view_is c.args.prefix.now (Some c.weaken.new.self) (holds.3 found) s u
    ∙ (ap (λ o. cond (same_bits u c.args.prefix.now.bits) o (held_in c.args.self.now s u)) (c.weaken.ensures s ∙ ap (cond
    (s == c.args.session) c.args.mode) (sym before))
    ∙ at_holder (s == c.args.session) (same_bits u c.args.prefix.now.bits) c.args.mode _ _ (λ e. ap (held_in c.args.self.now s) (sym
    (same_prefix u c.args.prefix.now.bits e))))
