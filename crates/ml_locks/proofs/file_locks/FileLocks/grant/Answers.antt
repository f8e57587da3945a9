use Rattle.std.proofs.Common.{◌≡◌, sym, ap, ◌∙◌, subst, cond, Some, None, refl}
use Rattle.std.specs.Prelude.{◌==◌, IsSome}
use Rattle.ml_locks.specs.Changes.{stronger}
use Rattle.ml_locks.specs.Modes.{held_in, same_bits}
use Rattle.ml_locks.specs.inside.Stored.{holder_mode, file_modes}
use Rattle.ml_locks.specs.declared.holders.Holders.{Holders}
use Rattle.ml_bits.specs.BitList.{BitList}
use Rattle.std.specs.BTreeMap.{BTreeMap}
use Rattle.ml_locks.specs.inside.Waiting.{stands_in_way}
use Rattle.ml_locks.proofs.StoredModes.{held_found, held_updated, same_prefix, stronger_there, same_there, first_there, same_file, ok_alike, err_alike}
use Rattle.ml_locks.proofs.file_locks.FileLocks.grant.Goals as goal
use Rattle.ml_locks.proofs.file_locks.FileLocks.grant.Goals.{In-Some, In-None}

was : (c : In-Some) → (s : _) → held_in c.args.self.now s c.args.prefix.now.bits ≡ holder_mode c.in-Some.holders.now s
was c s = held_found c.self.inside.units c.self.invariant _ c.self.view_is c.args.prefix.now.bits (Some c.in-Some.holders.now) c.in-Some.ensures.value s

pub add-requires : goal.add-requires
add-requires c k = ap (λ o. stands_in_way c.args.session c.args.mode o k) (sym (was (goal.at.add-requires c).In-Some k)) ∙ c.requires k

pub returns-in-Some-clause-ok : goal.returns-in-Some-clause-ok
returns-in-Some-clause-ok c =
    let lent = c.get_mut.follows.lender c.add.new.self in
    let holds = c.get_mut.follows.holds c.add.new.self in
    let found = subst IsSome c.in-Some.ensures.value refl in
    ok_alike c.add.result _ _ (λ added s u.
    held_updated c.self.inside.units lent c.self.invariant holds.4 _ c.self.view_is c.args.prefix.now (Some c.add.new.self) (holds.3 found) s u
    ∙ (ap (λ o. cond (same_bits u c.args.prefix.now.bits) o (held_in c.args.self.now s u)) (added s)
    ∙ stronger_there (s == c.args.session) (same_bits u c.args.prefix.now.bits) _ _ (λ o. Some (stronger c.args.mode o))
    (λ e. sym (was (goal.at.returns-in-Some-clause-ok c).In-Some s) ∙ ap (held_in c.args.self.now s) (sym
    (same_prefix u c.args.prefix.now.bits e))))) c.add.ensures.ok

pub returns-in-Some-clause-err : goal.returns-in-Some-clause-err
returns-in-Some-clause-err c =
    let lent = c.get_mut.follows.lender c.add.new.self in
    let holds = c.get_mut.follows.holds c.add.new.self in
    let found = subst IsSome c.in-Some.ensures.value refl in
    err_alike c.add.result _ _ (λ same. same_file _ _ (λ s u.
    held_updated c.self.inside.units lent c.self.invariant holds.4 _ c.self.view_is c.args.prefix.now (Some c.add.new.self) (holds.3 found) s u
    ∙ same_there (same_bits u c.args.prefix.now.bits) _ _
    (λ e. same s ∙ (sym (was (goal.at.returns-in-Some-clause-err c).In-Some s) ∙ ap (held_in c.args.self.now s) (sym
    (same_prefix u c.args.prefix.now.bits e)))))) c.add.ensures.err

-- a look-up that finds nothing leaves the file as it was
unchanged : (c : In-None) → file_modes c.get_mut.follows.lender-at-none.entries ≡ c.args.self.now
unchanged c = ap (λ (m : BTreeMap BitList Holders). file_modes m.entries) c.get_mut.follows.holds-at-none ∙ c.self.view_is

nobody : (c : In-None) → (s : _) → held_in c.args.self.now s c.args.prefix.now.bits ≡ None
nobody c s = held_found c.self.inside.units c.self.invariant _ c.self.view_is c.args.prefix.now.bits None c.in-None.ensures.value s

pub start-requires : goal.start-requires
start-requires c k = ap (λ f. held_in f k c.args.prefix.now.bits) (unchanged (goal.at.start-requires c).In-None) ∙ nobody (goal.at.start-requires c).In-None k

pub returns-in-None-clause-ok : goal.returns-in-None-clause-ok
returns-in-None-clause-ok c =
    let none = (goal.at.returns-in-None-clause-ok c).In-None in
    ok_alike c.start.result _ _ (λ started s u. started s u
    ∙ first_there (s == c.args.session) (same_bits u c.args.prefix.now.bits) c.args.mode _ _ (ap (λ f. held_in f s u) (unchanged none))
    (λ e. ap (held_in c.args.self.now s) (same_prefix u c.args.prefix.now.bits e) ∙ nobody none s)) c.start.ensures.ok

pub returns-in-None-clause-err : goal.returns-in-None-clause-err
returns-in-None-clause-err c = err_alike c.start.result _ _ (λ same. same ∙ unchanged (goal.at.returns-in-None-clause-err c).In-None) c.start.ensures.err
